use Rattle.lists.specs.Changed.{FirstChanged}
use Rattle.lists.proofs.change_first.Given as goal

abbrev pub invariant-loop-item : goal.invariant-loop-item
invariant-loop-item g l = FirstChanged (goal.F-post g l.change) l.item-index l.initial.item-items l.item-items
