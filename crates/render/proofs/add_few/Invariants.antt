use mathlib.Core.Path.{◌≡◌}
use Prim.Native.Nat.{◌*◌}
use lib.ListN.{length, drop}
use Rattle.lists.specs.Prefix.{fold}
use Rattle.model.specs.Mix.{mixing, on_left, on_right}
use Rattle.render.specs.Parts.{part_copy}
use Rattle.render.proofs.add_few.Given as goal

abbrev pub invariant-loop-i : goal.invariant-loop-i
invariant-loop-i l =
    ((fold (part_copy on_left l.n (length l.levels) l.levels) (mixing (drop (l.n * l.i) l.samples) l.left) (drop l.i l.copies)).sums
    ≡ (fold (part_copy on_left l.n (length l.levels) l.levels) (mixing l.samples l.initial.left) l.copies).sums)
    × ((fold (part_copy on_right l.n (length l.levels) l.levels) (mixing (drop (l.n * l.i) l.samples) l.right) (drop l.i l.copies)).sums
    ≡ (fold (part_copy on_right l.n (length l.levels) l.levels) (mixing l.samples l.initial.right) l.copies).sums)
