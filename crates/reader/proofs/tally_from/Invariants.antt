use Rattle.midi.proofs.Whole.{left_over}
use Rattle.reader.proofs.Turns.{Turned}
use Rattle.reader.proofs.tally_from.Given as goal

abbrev pub invariant-loop-last : goal.invariant-loop-last
invariant-loop-last l = Turned l.stream l.fn.from l.counts l.last

abbrev pub decreases-loop-last : goal.decreases-loop-last
decreases-loop-last l = left_over l.stream l.last
