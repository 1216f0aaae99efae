use native.Mathlib.Omega.{arith}
use lib.ListN.{length-take, length-drop}
use Rattle.envelope.specs.Gates.{at}
use Rattle.levels.specs.Runs.{in_stage}
use Rattle.levels.proofs.Frames.{ran-none, ran-join, ran-more, filled_all}
use Rattle.levels.proofs.fill_all.Goals as goal

pub loop-f-init : goal.loop-f-init
loop-f-init c = (omega arith, ran-none _ _ _)

pub loop-f-preserved-then-f-n : goal.loop-f-preserved-then-f-n
unfolding in_stage at
loop-f-preserved-then-f-n c =
    let i = c.loop-f.invariant in
    let join = ran-join _ i.0 (let s = i.1.size in omega arith) i.1 c.run_stage-run.ensures in
    (omega arith, rw c.of.ensures (ran-more _ (let s = join.size in omega arith) c.tick-env.ensures join))

pub loop-f-preserved : goal.loop-f-preserved
unfolding in_stage at
loop-f-preserved c =
    let i = c.loop-f.invariant in
    let w = simp (length-take, length-drop) at c.run_stage-run.ensures.within in
    (omega (arith, w), ran-join _ i.0 (let s = i.1.size in omega arith) i.1 c.run_stage-run.ensures)

pub returns : goal.returns
returns c =
    let i = c.loop-f.invariant in
    filled_all _ (omega arith) i.1
