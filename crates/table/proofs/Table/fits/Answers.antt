use mathlib.Core.Path.{◌≡◌, ◌∙◌}
use mathlib.Core.Bool.{◌&&◌}
use borrow.Author.Rules.{rules}
use borrow.Author.Tests.{le-leb, lt-leb}
use lib.Dec.{leb}
use Rattle.lists.specs.All.{all}
use Rattle.lists.specs.Choose.{and-fails, and_then}
use Rattle.model.specs.Voices.{sounding}
use Rattle.voice.specs.View.{shown}
use Rattle.table.specs.Check.{voice_fits, mode_agrees}
use Rattle.table.specs.View.{seen_in}
use Rattle.table.proofs.Fits.{fits-once, fits-fails}
use Rattle.table.proofs.Table.fits.Goals as goal
use Rattle.table.proofs.Table.fits.Goals.{then-sounding-design, else-sounding-design, then-mode_fits, else-mode_fits}

pub returns-then-voices_fit : goal.returns-then-voices_fit
unfolding shown
returns-then-voices_fit c =
    let a = c.args in
    let n = c.count_of-sounding in
    let k = c.copies-copies in
    let few : c.if-sounding-design.value ≡ (leb n.result a.design.max_voices && mode_agrees a.design.mode a.held n.result) =
    elim c.if-sounding-design.branch [
      | then-sounding-design w ↦ w.value-is ∙ and_then _ _ _ (le-leb _ _ w.if-sounding-design.true) w.mode_fits.ensures
      | else-sounding-design w ↦ let no = lt-leb n.result a.design.max_voices w.if-sounding-design.false in w.value-is ∙ no ∙ and-fails _ _ no
    ] in
    let each : c.if-mode_fits.value ≡ (c.if-sounding-design.value && all (voice_fits a.next k.result) (seen_in a.self.now)) =
    elim c.if-mode_fits.branch [
      | then-mode_fits w ↦ w.value-is ∙ and_then _ _ _ w.if-mode_fits.true w.voices_fit.ensures
      | else-mode_fits w ↦ w.value-is ∙ w.if-mode_fits.false ∙ and-fails _ _ w.if-mode_fits.false
    ] in
    fits-once a.design a.next a.held _ n.result k.result _ _ (n.ensures sounding (λ v b p. search rules)) k.ensures few each _ c.if-voices_fit.true c.handles_distinct.ensures

pub returns-else-voices_fit : goal.returns-else-voices_fit
unfolding shown
returns-else-voices_fit c =
    let a = c.args in
    let n = c.count_of-sounding in
    let k = c.copies-copies in
    let few : c.if-sounding-design.value ≡ (leb n.result a.design.max_voices && mode_agrees a.design.mode a.held n.result) =
    elim c.if-sounding-design.branch [
      | then-sounding-design w ↦ w.value-is ∙ and_then _ _ _ (le-leb _ _ w.if-sounding-design.true) w.mode_fits.ensures
      | else-sounding-design w ↦ let no = lt-leb n.result a.design.max_voices w.if-sounding-design.false in w.value-is ∙ no ∙ and-fails _ _ no
    ] in
    let each : c.if-mode_fits.value ≡ (c.if-sounding-design.value && all (voice_fits a.next k.result) (seen_in a.self.now)) =
    elim c.if-mode_fits.branch [
      | then-mode_fits w ↦ w.value-is ∙ and_then _ _ _ w.if-mode_fits.true w.voices_fit.ensures
      | else-mode_fits w ↦ w.value-is ∙ w.if-mode_fits.false ∙ and-fails _ _ w.if-mode_fits.false
    ] in
    fits-fails a.design a.next a.held _ n.result k.result _ _ (n.ensures sounding (λ v b p. search rules)) k.ensures few each c.if-voices_fit.false
