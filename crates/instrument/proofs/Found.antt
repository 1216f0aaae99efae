-- What a search of the table says of a place.
use mathlib.Core.Path.{◌≡◌, refl, sym}
use mathlib.Core.Bool.{true}
use Prim.Native.Nat.{ℕ, ◌≤◌, ◌<◌}
use native.Mathlib.Omega.{arith}
use lib.ListN.{length}
use Rattle.std.specs.Prelude.{Option, Some, None}
use Rattle.model.specs.Types as model
use Rattle.table.specs.View.{seen_in, voices_in, place_in, changed_at, Holds}
use Rattle.table.proofs.Edits.{holds-unchanged}
use Rattle.table.proofs.Searches.{some-inside, none-inside}
use Rattle.instrument.specs.View.{counted}
use Rattle.instrument.specs.declared.Instrument.{Instrument}
use Rattle.instrument.proofs.Calls.{counts}
use Rattle.instrument.proofs.Formed.{voices-count}

-- where no arm of a place was met
pub is-none : (o : Option ℕ) → ((k : ℕ) → o ≡ Some k → ⊥) → o ≡ None
is-none None f = refl
is-none (Some k) f = absurd (f k refl)

module _ (s : Instrument) (e : counted s ≡ true) (lv : length s.table.voices ≡ 64) (j : ℕ) where
  size : length (voices_in s.table) ≡ s.table.count
  size = let m = (counts s e).voices64 in voices-count s (omega arith)

  pub found-some : (k : ℕ) → Some k ≡ place_in j (voices_in s.table) → (k ≡ j) × (k < s.table.count)
  found-some k q = let p = some-inside j (voices_in s.table) k q in let z = size in let i = p.1 in let y = p.0 in (sym y, omega arith)

  pub found-none : None ≡ place_in j (voices_in s.table) → s.table.count ≤ j
  found-none q = let p = none-inside j (voices_in s.table) q in let z = size in omega arith

  -- nothing is changed past the voices
  pub none-changed : s.table.count ≤ j → (g : model.Voice → model.Voice) → Holds (changed_at g j (seen_in s.table)) s.table
  none-changed h g = let m = (counts s e).voices64 in holds-unchanged s.table lv s.table.count (omega arith) g j h
