use mathlib.Core.Path.{◌≡◌}
use Prim.Native.Nat.{◌*◌}
use lib.ListN.{drop}
use Rattle.model.specs.Mix.{on_left, on_right}
use Rattle.render.specs.Parts.{framed}
use Rattle.render.proofs.add_frame.Given as goal

abbrev pub invariant-loop-k : goal.invariant-loop-k
invariant-loop-k g l =
    (framed on_left l.n l.level (drop (l.n * l.k) l.samples) (drop l.k l.copies) l.left ≡ framed on_left l.n l.level l.samples l.copies l.fn.sums.left)
    × (framed on_right l.n l.level (drop (l.n * l.k) l.samples) (drop l.k l.copies) l.right ≡ framed on_right l.n l.level l.samples l.copies l.fn.sums.right)
