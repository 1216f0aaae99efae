use Rattle.midi.proofs.Whole.{left_over, Inside}
use Rattle.replay.proofs.steps.walk.Given as goal

abbrev pub invariant-loop-found : goal.invariant-loop-found
invariant-loop-found l = Inside l.stream l.found

abbrev pub decreases-loop-found : goal.decreases-loop-found
decreases-loop-found l = left_over l.stream l.found
