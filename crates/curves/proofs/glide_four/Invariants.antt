use Rattle.curves.proofs.Rows.{Rows}
use Rattle.curves.proofs.glide_four.Given as goal

abbrev pub invariant-loop-i : goal.invariant-loop-i
invariant-loop-i l = Rows l.n l.initial.copies l.initial.curve l.i l.copies l.curve
