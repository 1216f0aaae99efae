use Rattle.lists.specs.Prefix.{fold}
use Rattle.model.specs.Mix.{mixing, on_left, on_right}
use Rattle.render.specs.Parts.{part_copy, BothSides}
use Rattle.render.proofs.add_together.Given as goal

abbrev pub invariant-loop-f : goal.invariant-loop-f
invariant-loop-f g l =
    BothSides (λ side sums. (fold (part_copy side l.n l.f l.levels) (mixing l.samples sums) l.copies).sums) on_left on_right l.initial.left l.initial.right l.left l.right
