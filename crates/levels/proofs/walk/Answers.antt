use mathlib.Core.Path.{◌≡◌, sym}
use native.Mathlib.Omega.{arith}
use lib.ListN.{length}
use Rattle.envelope.specs.Gates.{at}
use Rattle.envelope.specs.Ticks.{ticked}
use Rattle.levels.specs.Runs.{in_stage, Steps}
use Rattle.levels.proofs.Frames.{ran-none, ran-more}
use Rattle.levels.proofs.walk.Goals as goal

pub loop-at-init : goal.loop-at-init
unfolding in_stage at
loop-at-init g c = ran-none _ _ _

pub loop-at-preserved : goal.loop-at-preserved
unfolding Steps in_stage at
loop-at-preserved g c =
    let x = c.loop-at.level in
    let y = c.next-later.result in
    let step : ticked (in_stage c.args.e x) ≡ in_stage c.args.e y = c.requires.steps x y c.next-later.ensures (rw c.if-ends.false at c.ends.ensures) in
    rw c.of.ensures (ran-more c.args.by (omega arith) (sym step) c.loop-at.invariant)

pub returns : goal.returns
returns g c =
    let i = c.loop-at.invariant in
    let e : c.loop-at.at ≡ length c.loop-at.frames = let s = i.size in let w = i.within in omega arith in
    rw e at i
