use mathlib.Core.Path.{◌≡◌}
use Prim.Native.Nat.{◌+◌}
use lib.ListN.{drop}
use Rattle.midi.specs.Steps.{reading, stepped}
use Rattle.midi.proofs.step.Given as goal

abbrev pub invariant-loop-passed : goal.invariant-loop-passed
invariant-loop-passed l = reading l.cursor l.scan (l.cursor.place + l.passed) (drop l.passed l.left) ≡ stepped l.stream l.cursor
