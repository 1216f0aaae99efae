-- What a printer leaves in the buffer that it was lent.
use Rattle.std.specs.Prelude.{◌≡◌, List, ◌++◌, ℕ, ◌+◌, ◌≤◌, ◌<◌, length, take, drop}

-- the text stands from `at` to `next`, and nothing else changes; a text with no room is not begun
pub record PutAs (text old : List ℕ) (at : ℕ) (new : List ℕ) (next : ℕ) : Type 0 where
  pub room : at + length text ≤ length old → (new ≡ take at old ++ (text ++ drop (at + length text) old)) × (next ≡ at + length text)
  pub full : length old < at + length text → (new ≡ old) × (next ≡ at)

-- the text of n stands at the end of the buffer, from `from` on
pub record EndsIn (text buffer : List ℕ) (from : ℕ) : Type 0 where
  pub ends : drop from buffer ≡ text
  pub inside : from ≤ length buffer
