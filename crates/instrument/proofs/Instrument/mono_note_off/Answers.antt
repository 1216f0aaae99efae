use mathlib.Core.Path.{refl, sym, ◌∙◌}
use borrow.Author.Rules.{rules}
use Rattle.voice.specs.View.{shown}
use Rattle.voice.specs.Changes.{off_sounding}
use Rattle.model.specs.Voices.{sounding, aimed_at}
use Rattle.instrument.specs.Calls.{placed_as}
use Rattle.instrument.proofs.Calls.{free}
use Rattle.instrument.proofs.Found.{found-some, found-none, is-none, none-changed}
use Rattle.instrument.proofs.Offs.{mono-none, mono-last, mono-back}
use Rattle.instrument.proofs.Sizes.{held-long, voices-long}
use Rattle.instrument.proofs.Instrument.mono_note_off.Goals as goal

pub returns-then-rest-self : goal.returns-then-rest-self
returns-then-rest-self c =
    mono-none c.args.self (free _ c.requires) (held-long c.args.self c.well_formed.0) _ _ c.without-rest.ensures _ c.if-rest-self.true c.answered.ensures

pub returns-in_default : goal.returns-in_default
unfolding placed_as
returns-in_default c =
    mono-last c.args.self (free _ c.requires) (held-long c.args.self c.well_formed.0) _ _ c.without-rest.ensures _ _ c.if-rest-self.false c.answered-in_default.ensures
    (sym c.newest.ensures ∙ is-none _ c.in_default.not-Some)
    (c.change_all-self.ensures (off_sounding c.args.self.sustain) (λ v w p. search rules))

pub returns-in_default-found : goal.returns-in_default-found
unfolding placed_as shown
returns-in_default-found c =
    let s = c.args.self in
    let f = free _ c.requires in
    let long = voices-long s c.well_formed.0 in
    let none = found-none s f.counted long _ (sym (is-none _ c.in_default-found.not-Some) ∙ c.find_first-found.ensures sounding (λ v b p. search rules)) in
    mono-back s f (held-long s c.well_formed.0) _ _ c.without-rest.ensures _ _ c.if-rest-self.false c.answered-in_default-found.ensures _ _ (sym c.newest.ensures ∙ c.in-Some.is) refl
    (none-changed s f.counted long _ none _)

pub returns : goal.returns
unfolding placed_as shown
returns c =
    let s = c.args.self in
    let f = free _ c.requires in
    let long = voices-long s c.well_formed.0 in
    let some = found-some s f.counted long _ _ (sym c.in-Some-found.is ∙ c.find_first-found.ensures sounding (λ v b p. search rules)) in
    mono-back s f (held-long s c.well_formed.0) _ _ c.without-rest.ensures _ _ c.if-rest-self.false c.answered-2.ensures _ _ (sym c.newest.ensures ∙ c.in-Some.is)
    some.0 (c.change_at-self.ensures (aimed_at s.design.glide c.in-Some.newest) (λ v w p. search rules))
