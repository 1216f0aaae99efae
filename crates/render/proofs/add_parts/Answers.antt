use mathlib.Core.Path.{◌≡◌}
use Prim.Native.Nat.{◌+◌, min}
use native.Mathlib.Omega.{arith}
use lib.ListN.{length}
use Rattle.voice.specs.View.{shown}
use Rattle.render.proofs.Parts.{went_none, went_on, went-all}
use Rattle.render.proofs.add_parts.Goals as goal

pub loop-a-init : goal.loop-a-init
unfolding shown
loop-a-init c =
    let x = c.args in
    let none : min (length x.left.now) 0 ≡ 0 = omega arith in
    rw none (went_none _ x.trem x.samples.now (shown x.v) x.left.now x.right.now)

pub loop-a-preserved : goal.loop-a-preserved
loop-a-preserved c =
    let x = c.args in
    let l = c.loop-a in
    let at : min (length x.left.now) l.a ≡ l.a = omega arith in
    let next : min (length x.left.now) (l.a + 64) ≡ c.min-end.result = omega arith in
    let e = c.add_copies in
    rw next (
    went_on x.v x.trem x.samples.now x.left.now x.right.now l.a _ _ l.e _ l.levels _ l.left l.right _ _ (omega arith) (omega arith) (omega arith)
    c.requires c.copies_shown-k.ensures.1 c.min-end.array_long c.fill_all-e.auto.levels c.fill_all-e.ensures e.auto.left e.auto.right e.ensures (rw at at l.invariant)
    )

pub returns : goal.returns
unfolding shown
returns c =
    let all : min (length c.args.left.now) c.loop-a.a ≡ length c.args.left.now = omega arith in
    went-all _ _ _ _ _ _ _ _ _ _ all c.loop-a.invariant

pub returns-2 : goal.returns-2
unfolding shown
returns-2 c =
    let x = c.args in
    let l = c.loop-a in
    let at : min (length x.left.now) l.a ≡ l.a = omega arith in
    let e = c.add_copies in
    went-all _ _ _ _ _ _ _ _ _ _ (omega arith) (
    went_on x.v x.trem x.samples.now x.left.now x.right.now l.a c.min-end.result _ l.e _ l.levels _ l.left l.right _ _ (omega arith) (omega arith) (omega arith)
    c.requires c.copies_shown-k.ensures.1 c.min-end.array_long c.fill_all-e.auto.levels c.fill_all-e.ensures e.auto.left e.auto.right e.ensures (rw at at l.invariant)
    )
