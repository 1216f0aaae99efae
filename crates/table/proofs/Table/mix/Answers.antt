use mathlib.Core.Path.{◌≡◌, refl}
use Prim.Native.Nat.{◌+◌, ◌≤◌, ◌<◌, min}
use native.Mathlib.Omega.{arith}
use borrow.Author.Rules.{rules}
use lib.ListN.{length, get_or}
use Rattle.lists.specs.Pass.{pass-read}
use Rattle.voice.proofs.Sizes.{past_end}
use Rattle.render.specs.Mixes.{with_env}
use Rattle.table.proofs.Sizes.{voices-long}
use Rattle.table.proofs.Mixing.{UnderWay, mixed_to, mix-start, mix-here, mix-up, mix-not, mixed-more}
use Rattle.table.proofs.Table.mix.Goals as goal
use Rattle.table.proofs.Table.mix.Goals.{then-not-goes_on, else-not-goes_on+then-gone-gt0, else-not-goes_on+else-gone-gt0}

pub loop-i-init : goal.loop-i-init
loop-i-init c = (search rules, refl, refl, mix-start _ _ _ _ _)

pub loop-i-preserved : goal.loop-i-preserved
unfolding with_env
loop-i-preserved c =
    let x = c.args in
    let long = voices-long x.self c.well_formed.0 in
    let short : c.min-n.result ≤ 1024 = omega arith in
    let i = c.loop-i.invariant in
    let u = i.3 in
    let v = get_or c.loop-i.self.voices c.loop-i.i past_end in
    let m = c.min-at.ensures in
    let r = c.copies_shown.ensures.1 in
    let e = c.add_voice-env.ensures in
    let w : with_env v c.add_voice-env.result ≡ with_env v c.add_voice-env.result = refl in
    let sums = c.add_voice-env.new in
    let n = c.min-n.result in
    let inside : c.loop-i.i < min x.self.count 64 = omega (arith, c.loop-i-test.true, c.min-count.ensures) in
    let room : c.loop-i.i < length x.self.voices = omega (arith, long) in
    let more = mixed-more x.self (long) n x.trem x.samples.now x.left.now x.right.now c.loop-i.i v inside (pass-read past_end u.table.pass) in
    let next : UnderWay (mixed_to n x.trem x.self x.samples.now x.left.now x.right.now (c.loop-i.i + 1)) x.self.voices x.samples.now x.ended.now
    sums.left sums.right c.if-not-goes_on.ended c.if-not-goes_on.self.voices c.if-not-goes_on.gone c.min-at.result (c.loop-i.i + 1) =
    rw more
    (elim c.if-not-goes_on.branch [
      | then-not-goes_on y ↦ rw (y.ended-is, y.self-is, y.gone-is, y.report.ensures) (mix-not _ _ v short u e w r m c.goes_on.ensures y.if-not-goes_on.true)
      | else-not-goes_on+then-gone-gt0 y ↦
          rw (y.ended-is, y.self-is, y.gone-is) (mix-up _ _ v short u e w r m c.goes_on.ensures y.if-not-goes_on.false y.if-gone-gt0.true room)
      | else-not-goes_on+else-gone-gt0 y ↦
          rw (y.ended-is, y.self-is, y.gone-is) (mix-here _ _ v short u e w r m c.goes_on.ensures y.if-not-goes_on.false y.if-gone-gt0.false room)
    ]) in (
      let z : next.stay + c.if-not-goes_on.gone ≡ c.loop-i.i + 1 = next.table.places in omega arith,
      omega (arith, c.add_voice-env.auto, i.1),
      omega (arith, c.add_voice-env.auto, i.2),
      next,
    )
