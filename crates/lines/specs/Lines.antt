-- The lines of bytes that come one by one.
use Rattle.std.specs.Prelude.{ℕ, List, [], ◌∷◌, ◌++◌, take, ◌==◌, if◌then◌else◌, All, length, Option, ◌<◌, ◌≡◌, ◌-◌, ◌^◌, ◌⊎◌}
use Rattle.std.specs.List.{concat}
use Rattle.std.specs.Io.KnownBytes.{Consumes, IsAtEnd}

-- the lines that ended so far and the one under way, after one byte more: a line feed ends a line, and what has no room in it is left out
abbrev pub after : ℕ → List (List ℕ) × List ℕ → ℕ → List (List ℕ) × List ℕ
after room s byte = if byte == 10 then (s.0 ++ s.1 ∷ [], []) else (s.0, take room (s.1 ++ byte ∷ []))

-- blocks of at least one byte that were read from an input, known before and after, by a buffer: all of it, where the buffer has room
abbrev pub WasReadIn : List (List ℕ) → Option (List ℕ) → Option (List ℕ) → List ℕ → Type 0
WasReadIn blocks before behind buffer =
    All (λ block. 0 < length block) blocks
    × Consumes before behind (concat blocks)
    × (0 < length buffer → IsAtEnd behind ⊎ (length blocks ≡ 2 ^ 64 - 1))
