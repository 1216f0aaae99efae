use mathlib.Core.Path.{refl}
use mathlib.Core.List.{flat_map}
use native.Mathlib.Nat.{mul-zero}
use native.Mathlib.Omega.{arith}
use Rattle.curves.proofs.Standing.{flat-writes}
use Rattle.curves.proofs.write_flat.Goals as goal

pub loop-i-init : goal.loop-i-init
unfolding flat_map
loop-i-init c = rw mul-zero refl

pub loop-i-preserved : goal.loop-i-preserved
loop-i-preserved c =
    let l = c.loop-i in
    flat-writes c.args.frames l.i l.curve _ _ c.args.copies.now (omega (arith, c.requires, l.auto)) c.loop-i-test.true c.heard.ensures l.invariant c.hold.ensures
