use mathlib.Core.Path.{◌≡◌}
use Prim.Native.Nat.{◌+◌}
use lib.ListN.{take}
use Rattle.model.specs.Mix.{interleave}
use Rattle.render.proofs.put_pairs.Given as goal

abbrev pub invariant-loop-f : goal.invariant-loop-f
invariant-loop-f l = (take (l.f + l.f) l.out ≡ interleave (take l.f l.left) (take l.f l.right))
