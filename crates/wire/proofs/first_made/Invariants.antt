use mathlib.Core.Path.{◌≡◌}
use lib.ListN.{length, take}
use Rattle.std.specs.List.{AllZip}
use Rattle.wire.proofs.first_made.Given as goal

abbrev pub invariant-loop-j : goal.invariant-loop-j
invariant-loop-j g l = (length l.made ≡ length l.items) × AllZip (goal.F-post g l.make) (take l.j l.items) (take l.j l.made)
