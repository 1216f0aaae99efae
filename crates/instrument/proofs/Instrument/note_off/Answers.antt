use mathlib.Core.Path.{refl, sym, ◌∙◌}
use borrow.Author.Rules.{rules}
use Rattle.model.specs.Notes.{plays, off_voice}
use Rattle.instrument.proofs.Calls.{is-poly, free-by, passed, barred-call}
use Rattle.instrument.specs.Calls.{placed_as}
use Rattle.instrument.proofs.Offs.{poly-none, poly-one, off-poly, off-mono}
use Rattle.instrument.proofs.Found.{found-some, found-none, is-none}
use Rattle.instrument.proofs.Sizes.{voices-long}
use Rattle.instrument.proofs.Instrument.note_off.Goals as goal

pub returns-in-Err : goal.returns-in-Err
returns-in-Err c = barred-call _ _ _ _ _ refl c.barred.ensures c.in-Err.is c.refused.ensures

pub mono_note_off-requires : goal.mono_note_off-requires
mono_note_off-requires c =
    sym c.barred.ensures ∙ passed _ c.in_default.not-Err

pub returns-in-Mono : goal.returns-in-Mono
returns-in-Mono c =
    let fine = free-by _ _ c.barred.ensures c.in_default.not-Err in
    off-mono _ fine _ _ _ c.in-Mono.is c.mono_note_off.ensures

pub returns-in_default-found : goal.returns-in_default-found
returns-in_default-found c =
    let fine = free-by _ _ c.barred.ensures c.in_default.not-Err in
    let long = voices-long c.args.self c.well_formed.0 in
    let none = found-none c.args.self fine.counted long _ (sym (is-none _ c.in_default-found.not-Some) ∙ c.find_last-found.ensures (plays c.args.note) (λ v b p. search rules)) in
    off-poly _ fine _ _ (is-poly _ c.in_default-mode.not-Mono) (poly-none c.args.self fine long _ _ refl _ none c.answered.ensures)

pub returns : goal.returns
unfolding placed_as
returns c =
    let fine = free-by _ _ c.barred.ensures c.in_default.not-Err in
    let long = voices-long c.args.self c.well_formed.0 in
    let some = found-some c.args.self fine.counted long _ _ (sym c.in-Some.is ∙ c.find_last-found.ensures (plays c.args.note) (λ v b p. search rules)) in
    off-poly _ fine _ _ (is-poly _ c.in_default-mode.not-Mono)
    (poly-one c.args.self fine long _ _ some.0 _ _ some.1 (c.change_at-self.ensures (off_voice c.args.self.sustain) (λ v w p. search rules)) c.answered-2.ensures)
