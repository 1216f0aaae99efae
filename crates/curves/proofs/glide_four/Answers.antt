use mathlib.Core.Path.{refl}
use native.Mathlib.Omega.{arith}
use Rattle.curves.proofs.Rows.{column-behind, rows_none, rows_more, rows_whole}
use Rattle.curves.proofs.glide_four.Goals as goal

pub loop-i-init : goal.loop-i-init
loop-i-init c = rows_none _ _ _ (rw c.well_formed.0.1.0.1 c.requires)

pub step_four-requires : goal.step_four-requires
step_four-requires c = omega (arith, c.requires, c.loop-i.invariant.size)

pub loop-i-preserved : goal.loop-i-preserved
loop-i-preserved c =
    let e = c.step_four.ensures in
    let column = column-behind c.args.n c.loop-i.i _ _ c.loop-i.curve _ refl e.1 in
    rows_more _ _ _ (rw c.well_formed.0.1.0.1 c.requires) (omega arith) e.0 column c.loop-i.invariant

pub returns : goal.returns
returns c = rows_whole _ _ _ (rw c.well_formed.0.1.0.1 c.requires) (let h = c.loop-i.invariant.short in omega arith) c.loop-i.invariant
