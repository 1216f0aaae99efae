use mathlib.Core.Path.{◌≡◌}
use mathlib.Core.List.{map}
use lib.ListN.{take}
use Rattle.lists.specs.Prefix.{mapped}
use Rattle.stream.specs.Pitch.{stepped, heard}
use Rattle.curves.specs.Glides.{column}
use Rattle.curves.proofs.step_four.Given as goal

abbrev pub invariant-loop-k : goal.invariant-loop-k
invariant-loop-k l =
    (l.copies ≡ mapped stepped l.k l.initial.copies)
    × (l.curve ≡ column l.n 0 (map heard (map stepped (take l.k l.initial.copies))) l.initial.curve)
