use mathlib.Core.Path.{sym, ◌∙◌}
use borrow.Author.Rules.{rules}
use Rattle.model.specs.Queries.{sounds_note}
use Rattle.instrument.proofs.Queries.{voice-refused, voice-found}
use Rattle.instrument.proofs.Instrument.voice_of.Goals as goal

pub returns-then-not-well_formed : goal.returns-then-not-well_formed
returns-then-not-well_formed c = voice-refused _ (sym c.well_formed-2.ensures ∙ c.if-not-well_formed.true) _

pub returns : goal.returns
returns c =
    voice-found c.args.self.now (sym c.well_formed-2.ensures ∙ c.if-not-well_formed.false) c.args.note c.find_first-found.result _ _
    (c.find_first-found.ensures (sounds_note c.args.note) (λ v b p. search rules)) c.and_then.ensures (λ k p. search rules)
