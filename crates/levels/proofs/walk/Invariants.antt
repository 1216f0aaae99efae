use Rattle.levels.specs.Runs.{Ran, in_stage}
use Rattle.levels.proofs.walk.Given as goal

abbrev pub invariant-loop-at : goal.invariant-loop-at
invariant-loop-at g l = Ran l.fn.e l.by l.initial.frames l.frames (in_stage l.fn.e l.level) l.at
