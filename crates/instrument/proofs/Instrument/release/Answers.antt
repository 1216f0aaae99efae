use mathlib.Core.Path.{refl, sym, ◌∙◌}
use borrow.Author.Rules.{rules}
use Rattle.model.specs.Voices.{has_handle, released_voice}
use Rattle.voice.specs.View.{shown}
use Rattle.instrument.proofs.Calls.{free-by, barred-call}
use Rattle.instrument.specs.Calls.{placed_as}
use Rattle.instrument.proofs.Controls.{release-none, release-one}
use Rattle.instrument.proofs.Found.{found-some, found-none, is-none}
use Rattle.instrument.proofs.Sizes.{voices-long}
use Rattle.instrument.proofs.Instrument.release.Goals as goal

pub returns-in-Err : goal.returns-in-Err
returns-in-Err c = barred-call _ _ _ _ _ refl c.barred.ensures c.in-Err.is c.refused.ensures

pub returns-in_default-found : goal.returns-in_default-found
unfolding shown
returns-in_default-found c =
    let fine = free-by _ _ c.barred.ensures c.in_default.not-Err in
    let long = voices-long c.args.self c.well_formed.0 in
    let none = found-none c.args.self fine.counted long _ (sym (is-none _ c.in_default-found.not-Some) ∙ c.find_first-found.ensures (has_handle c.args.handle) (λ v b p. search rules)) in
    release-none c.args.self fine long _ _ refl _ none c.answered.ensures

pub returns : goal.returns
unfolding placed_as shown
returns c =
    let fine = free-by _ _ c.barred.ensures c.in_default.not-Err in
    let long = voices-long c.args.self c.well_formed.0 in
    let some = found-some c.args.self fine.counted long _ _ (sym c.in-Some.is ∙ c.find_first-found.ensures (has_handle c.args.handle) (λ v b p. search rules)) in
    release-one c.args.self fine long _ _ some.0 _ _ some.1 (c.change_at-self.ensures released_voice (λ v w p. search rules)) c.answered-2.ensures
