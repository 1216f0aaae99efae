use Rattle.held.proofs.Holding.{Keeping}
use Rattle.held.proofs.Held.without.Given as goal

abbrev pub invariant-loop-other : goal.invariant-loop-other
invariant-loop-other l = Keeping l.other-items l.note l.count l.other-index l.notes
