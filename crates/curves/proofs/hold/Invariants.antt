use mathlib.Core.Path.{◌≡◌}
use lib.ListN.{take, replicate}
use Rattle.curves.proofs.hold.Given as goal

abbrev pub invariant-loop-place : goal.invariant-loop-place
invariant-loop-place l = take l.place-index l.out ≡ replicate l.place-index l.fn.x
