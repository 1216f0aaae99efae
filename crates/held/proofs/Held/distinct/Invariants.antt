use Rattle.held.proofs.Flags.{Flagged}
use Rattle.held.proofs.Held.distinct.Given as goal

abbrev pub invariant-loop-note : goal.invariant-loop-note
invariant-loop-note l = Flagged l.note-items l.note-index l.seen
