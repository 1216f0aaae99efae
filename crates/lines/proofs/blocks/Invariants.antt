-- The blocks so far are one a turn, and were answered.
use Rattle.std.proofs.Common.{◌≡◌, ◌<◌, ℕ, List, All, length, Ok}
use Rattle.std.specs.Fn.{CalledAt}
use Rattle.std.specs.List.{FoldsTo, concat}
use Rattle.std.specs.Io.KnownBytes.{Consumes}
use Rattle.lines.proofs.blocks.Given as goal

abbrev pub invariant-loop-turn : goal.invariant-loop-turn
invariant-loop-turn g l =
    goal.F-IsAlwaysCallable g l.each
    × ((blocks : List (List ℕ)) ×
    FoldsTo (λ f block h. CalledAt g.F.FnMut f block (Ok tt) h) l.initial.each blocks l.each
    × All (λ block. 0 < length block) blocks
    × (length blocks ≡ l._turn)
    × Consumes (g.R.Read.remaining l.initial.input) (g.R.Read.remaining l.input) (concat blocks))
