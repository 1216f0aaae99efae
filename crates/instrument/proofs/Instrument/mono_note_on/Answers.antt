use mathlib.Core.Path.{refl, sym, ◌∙◌}
use native.Mathlib.Omega.{arith}
use borrow.Author.Rules.{rules}
use Rattle.voice.specs.View.{shown}
use Rattle.model.specs.Voices.{sounding}
use Rattle.model.specs.Notes.{kept_voice}
use Rattle.table.proofs.Shown.{handle-at}
use Rattle.instrument.specs.View.{view}
use Rattle.instrument.specs.Calls.{placed_as}
use Rattle.instrument.proofs.Calls.{free, counts}
use Rattle.instrument.proofs.Found.{found-some, found-none, is-none}
use Rattle.instrument.proofs.Ons.{spawn-ready, with-256, mono-kept, mono-spent, mono-new}
use Rattle.instrument.proofs.Sizes.{voices-long, held-long, next_fits}
use Rattle.instrument.proofs.Instrument.mono_note_on.Goals as goal

pub bounds-self-place : goal.bounds-self-place
unfolding shown
bounds-self-place c =
    let x = c.args.self in
    let f = free _ c.requires in
    let some = found-some x f.counted (voices-long x c.well_formed.0) _ _ (sym c.in-Some.is ∙ c.find_first-found.ensures sounding (λ v b p. search rules)) in
    let few = (counts x f.counted).voices64 in
    let h = some.1 in
    omega arith

pub offset_bounds-self-place : goal.offset_bounds-self-place
unfolding shown
offset_bounds-self-place c =
    let x = c.args.self in
    let f = free _ c.requires in
    let some = found-some x f.counted (voices-long x c.well_formed.0) _ _ (sym c.in-Some.is ∙ c.find_first-found.ensures sounding (λ v b p. search rules)) in
    let few = (counts x f.counted).voices64 in
    let h = some.1 in
    omega arith

pub returns-in-Some : goal.returns-in-Some
unfolding placed_as shown
returns-in-Some c =
    let x = c.args.self in
    let f = free _ c.requires in
    let long = voices-long x c.well_formed.0 in
    let some = found-some x f.counted long _ _ (sym c.in-Some.is ∙ c.find_first-found.ensures sounding (λ v b p. search rules)) in
    mono-kept x f long (held-long x c.well_formed.0)
    _ c.ranges.note.fits _ c.with-with.ensures _ _ _ _ some.0 _ some.1 _ _
    (handle-at x.table.count x.table.voices _ some.1) (c.change_at-self.ensures (kept_voice x.design.glide c.args.legato c.args.note c.args.velocity) (λ v w p. search rules)) c.answered.ensures

pub returns-then-self : goal.returns-then-self
unfolding shown
returns-then-self c =
    let x = c.args.self in
    let f = free _ c.requires in
    let long = voices-long x c.well_formed.0 in
    let none = found-none x f.counted long _ (sym (is-none _ c.in_default.not-Some) ∙ c.find_first-found.ensures sounding (λ v b p. search rules)) in
    mono-spent x f long (held-long x c.well_formed.0) _ c.ranges.note.fits _ c.with-with.ensures _ _ _ _ refl _ none
    c.if-self.true c.refused.ensures

pub spawn_voice-requires : goal.spawn_voice-requires
unfolding placed_as
spawn_voice-requires c =
    let x = c.args.self in
    let l = voices-long x c.well_formed.0 in
    let h = held-long x c.well_formed.0 in
    let f = free _ c.requires in
    spawn-ready x f l h c.with-with.result (with-256 x f l h _ c.ranges.note.fits _ c.with-with.ensures) c.if-self.false (next_fits x c.well_formed.0)

pub returns : goal.returns
unfolding placed_as view shown
returns c =
    let x = c.args.self in
    let f = free _ c.requires in
    let long = voices-long x c.well_formed.0 in
    let none = found-none x f.counted long _ (sym (is-none _ c.in_default.not-Some) ∙ c.find_first-found.ensures sounding (λ v b p. search rules)) in
    mono-new x f long (held-long x c.well_formed.0) _ c.ranges.note.fits _ c.with-with.ensures _ _ _ _ refl _ none
    c.if-self.false c.spawn_voice.ensures
