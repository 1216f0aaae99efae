use mathlib.Core.Path.{◌≡◌}
use Prim.Native.Nat.{◌*◌, ◌≤◌}
use lib.ListN.{length, drop}
use Rattle.std.specs.Slice.Iter.{chunks_rest, chunks_size}
use Rattle.lists.specs.Prefix.{fold}
use Rattle.model.specs.Mix.{mixing, on_left, on_right}
use Rattle.render.specs.Parts.{part_copy}
use Rattle.render.proofs.add_copies.Given as goal

abbrev pub invariant-loop-few : goal.invariant-loop-few
invariant-loop-few l =
    let left-over = chunks_rest l.few-iterator in
    (chunks_size l.few-iterator ≡ 4)
    × (l.n * length left-over ≤ length l.rest)
    × ((fold (part_copy on_left l.n (length l.levels) l.levels) (mixing (drop l.a l.rest) l.left) left-over).sums
    ≡ (fold (part_copy on_left l.n (length l.levels) l.levels) (mixing (drop l.a l.samples) l.initial.left) l.copies).sums)
    × ((fold (part_copy on_right l.n (length l.levels) l.levels) (mixing (drop l.a l.rest) l.right) left-over).sums
    ≡ (fold (part_copy on_right l.n (length l.levels) l.levels) (mixing (drop l.a l.samples) l.initial.right) l.copies).sums)
