use mathlib.Core.Path.{refl}
use Rattle.instrument.proofs.Calls.{free-by, barred-call}
use Rattle.instrument.specs.Calls.{placed_as}
use Rattle.instrument.proofs.Controls.{all-off-call}
use borrow.Author.Rules.{rules}
use Rattle.model.specs.Voices.{released_voice}
use Rattle.instrument.proofs.Instrument.all_notes_off.Goals as goal

pub returns-in-Err : goal.returns-in-Err
returns-in-Err c = barred-call _ _ _ _ _ refl c.barred.ensures c.in-Err.is c.refused.ensures

pub returns : goal.returns
unfolding placed_as
returns c =
    let fine = free-by _ _ c.barred.ensures c.in_default.not-Err in
    all-off-call _ fine _ _ (c.change_all-self.ensures released_voice (λ v w p. search rules)) c.answered.ensures
