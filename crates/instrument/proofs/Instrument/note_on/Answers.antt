use mathlib.Core.Path.{refl, sym, ◌∙◌}
use Rattle.instrument.specs.Calls.{placed_as}
use Rattle.instrument.proofs.Calls.{is-poly, free-by, passed, counts, barred-call}
use Rattle.instrument.proofs.Ons.{spawn-ready, on-off, off-is, on-mono, poly-spent, poly-new}
use Rattle.instrument.proofs.Sizes.{voices-long, held-long, next_fits}
use Rattle.instrument.proofs.Instrument.note_on.Goals as goal

pub returns-then-level : goal.returns-then-level
returns-then-level c =
    on-off _ _ _ _ (off-is _ _ _ c.velocity_of-level.ensures c.if-level.true) c.note_off.result c.note_off.ensures

pub returns-in-Err : goal.returns-in-Err
returns-in-Err c = barred-call _ _ _ _ _ refl c.barred.ensures c.in-Err.is c.refused.ensures

pub mono_note_on-requires : goal.mono_note_on-requires
mono_note_on-requires c =
    sym c.barred.ensures ∙ passed _ c.in_default.not-Err

pub returns-in-Mono : goal.returns-in-Mono
returns-in-Mono c =
    let fine = free-by _ _ c.barred.ensures c.in_default.not-Err in
    on-mono _ fine _ _ _ _ (off-is _ _ _ c.velocity_of-level.ensures c.if-level.false) _ c.velocity_of-level.ensures _ c.in-Mono.is c.mono_note_on.ensures

pub returns-then-self : goal.returns-then-self
returns-then-self c =
    let fine = free-by _ _ c.barred.ensures c.in_default.not-Err in
    poly-spent _ fine _ _ _ _ (off-is _ _ _ c.velocity_of-level.ensures c.if-level.false) _ c.velocity_of-level.ensures
    (is-poly _ c.in_default-mode.not-Mono) c.if-self.true c.refused-then-self.ensures

pub spawn_voice-requires : goal.spawn_voice-requires
unfolding placed_as
spawn_voice-requires c =
    let fine = free-by _ _ c.barred.ensures c.in_default.not-Err in
    let x = c.args.self in
    spawn-ready x fine (voices-long x c.well_formed.0) (held-long x c.well_formed.0) x.held (counts x fine.counted).held256 c.if-self.false (next_fits x c.well_formed.0)

pub returns : goal.returns
returns c =
    let fine = free-by _ _ c.barred.ensures c.in_default.not-Err in
    poly-new _ fine _ _ _ _ (off-is _ _ _ c.velocity_of-level.ensures c.if-level.false) _ c.velocity_of-level.ensures
    (is-poly _ c.in_default-mode.not-Mono) c.if-self.false c.spawn_voice.ensures
