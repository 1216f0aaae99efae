use mathlib.Core.Path.{◌≡◌, ap, sym, ◌∙◌}
use mathlib.Core.Bool.{true}
use native.Mathlib.Omega.{arith}
use Rattle.instrument.specs.View.{formed}
use Rattle.instrument.specs.Calls.{blocked_as}
use Rattle.instrument.proofs.Sizes.{voices-long, held-long}
use Rattle.instrument.proofs.Calls.{number_in, few-voices, check-number, check-passed}
use Rattle.instrument.proofs.Mixes.{mix-number, mix-unformed, mix-refused, mix-played, mix-done}
use Rattle.instrument.proofs.Instrument.mix.Goals as goal

pub returns-then-not-well_formed : goal.returns-then-not-well_formed
returns-then-not-well_formed c =
    let x = c.args in
    mix-refused x.self _ _ _ _ (mix-unformed x.self _ _ (sym c.well_formed-2.ensures ∙ c.if-not-well_formed.true)) c.refused.ensures

pub mix_fits-requires : goal.mix_fits-requires
mix_fits-requires c = few-voices _ (sym c.well_formed-2.ensures ∙ c.if-not-well_formed.false)

pub returns-in-Err : goal.returns-in-Err
returns-in-Err c =
    let x = c.args in
    let fine : formed x.self ≡ true = sym c.well_formed-2.ensures ∙ c.if-not-well_formed.false in
    let number = ap number_in c.mix_fits.ensures ∙ mix-number x.self _ _ (voices-long x.self c.well_formed.0) (held-long x.self c.well_formed.0) fine in
    mix-refused _ _ _ _ _ (check-number _ _ _ _ number c.in-Err.is) c.refused-in-Err.ensures

pub overflow_sub-count : goal.overflow_sub-count
overflow_sub-count c =
    let x = c.args in
    let long = voices-long x.self c.well_formed.0 in
    let held = held-long x.self c.well_formed.0 in
    let fine : formed x.self ≡ true = sym c.well_formed-2.ensures ∙ c.if-not-well_formed.false in
    let accepted = check-passed _ _ _ (ap number_in c.mix_fits.ensures ∙ mix-number x.self _ _ long held fine) c.in_default.not-Err in
    omega (arith, (mix-played _ _ _ long held accepted c.mix-self.ensures).size)

pub returns : goal.returns
unfolding blocked_as
returns c =
    let x = c.args in
    let long = voices-long x.self c.well_formed.0 in
    let held = held-long x.self c.well_formed.0 in
    let fine : formed x.self ≡ true = sym c.well_formed-2.ensures ∙ c.if-not-well_formed.false in
    let accepted = check-passed _ _ _ (ap number_in c.mix_fits.ensures ∙ mix-number x.self _ _ long held fine) c.in_default.not-Err in
    mix-done _ _ _ long held accepted c.mix-self.ensures _ _ c.put.ensures c.answered.ensures
