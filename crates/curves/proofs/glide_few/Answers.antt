use mathlib.Core.Path.{refl}
use mathlib.Core.List.{flat_map}
use native.Mathlib.Nat.{mul-zero}
use native.Mathlib.Omega.{arith}
use Rattle.curves.proofs.Rows.{one-more}
use Rattle.curves.proofs.glide_few.Goals as goal

pub loop-i-init : goal.loop-i-init
unfolding flat_map
loop-i-init c = rw mul-zero (refl, refl)

pub loop-i-preserved : goal.loop-i-preserved
loop-i-preserved c =
    let l = c.loop-i in
    let i = l.invariant in
    one-more c.args.frames l.i c.args.copies.now l.copies l.curve _ _ (omega (arith, c.requires, l.auto)) (omega arith) i.0 i.1 c.glide_one.ensures
