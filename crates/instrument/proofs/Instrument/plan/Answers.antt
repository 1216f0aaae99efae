use mathlib.Core.Path.{refl, ap, sym, ◌∙◌}
use Rattle.instrument.specs.Calls.{blocked_as}
use Rattle.instrument.proofs.Sizes.{voices-long, held-long}
use Rattle.instrument.proofs.Calls.{number_in, free-by, bar-number, check-number, check-passed, few-voices}
use Rattle.instrument.proofs.Plans.{modulated-on, modulated-off, plan-number, plan-refused, plan-fits, plan-done}
use Rattle.instrument.proofs.Instrument.plan.Goals as goal
use Rattle.instrument.proofs.Instrument.plan.Goals.{then-is_active, else-is_active}

pub returns-in-Err : goal.returns-in-Err
returns-in-Err c =
    plan-refused _ _ _ _ _ _ _ _ (bar-number _ _ _ _ refl c.barred.ensures c.in-Err.is) c.refused.ensures

pub plan_fits-requires : goal.plan_fits-requires
plan_fits-requires c = few-voices _ (free-by _ _ c.barred.ensures c.in_default.not-Err).formed

pub returns-in-Err-plan_fits : goal.returns-in-Err-plan_fits
returns-in-Err-plan_fits c =
    let x = c.args in
    let s = x.self in
    let fine = free-by _ _ c.barred.ensures c.in_default.not-Err in
    let number = ap number_in c.plan_fits.ensures
    ∙ plan-number s x.frames x.vibrato x.filter x.sine x.curve.now (voices-long s c.well_formed.0) (held-long s c.well_formed.0) fine in
    plan-refused _ _ _ _ _ _ _ _ (check-number _ _ _ _ number c.in-Err-plan_fits.is) c.refused-in-Err-plan_fits.ensures

pub apply_modulation-self-requires : goal.apply_modulation-self-requires
apply_modulation-self-requires c =
    let x = c.args in
    let s = x.self in
    let fine = free-by _ _ c.barred.ensures c.in_default.not-Err in
    let number = ap number_in c.plan_fits.ensures
    ∙ plan-number s x.frames x.vibrato x.filter x.sine x.curve.now (voices-long s c.well_formed.0) (held-long s c.well_formed.0) fine in
    plan-fits _ _ _ _ _ _ (check-passed _ _ _ number c.in_default-plan_fits.not-Err)

pub returns : goal.returns
unfolding blocked_as
returns c =
    let x = c.args in
    let s = x.self in
    let fine = free-by _ _ c.barred.ensures c.in_default.not-Err in
    let number = ap number_in c.plan_fits.ensures
    ∙ plan-number s x.frames x.vibrato x.filter x.sine x.curve.now (voices-long s c.well_formed.0) (held-long s c.well_formed.0) fine in
    let active = c.is_active.ensures in
    plan-done x.self x.frames x.vibrato x.filter x.sine _ (check-passed _ _ _ number c.in_default-plan_fits.not-Err) c.if-is_active.self
    ((elim c.if-is_active.branch [
      | then-is_active x ↦ rw x.self-is (modulated-on _ _ _ _ _ _ (sym active ∙ x.if-is_active.true) x.apply_modulation-self.ensures)
      | else-is_active x ↦ rw x.self-is (modulated-off _ _ _ _ _ (sym active ∙ x.if-is_active.false))
    ]))
    _ _ _ c.glide-self.ensures c.answered.ensures
