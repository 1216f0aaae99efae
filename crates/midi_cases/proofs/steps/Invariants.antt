-- Each event takes a byte at least, so the loop ends.
use Rattle.midi.proofs.Whole.{left_over, Inside}
use Rattle.midi_cases.proofs.steps.Given as goal

abbrev pub invariant-loop-last : goal.invariant-loop-last
invariant-loop-last g l = Inside l.stream l.last

abbrev pub decreases-loop-last : goal.decreases-loop-last
decreases-loop-last g l = left_over l.stream l.last
