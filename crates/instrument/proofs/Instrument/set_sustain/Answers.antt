use mathlib.Core.Path.{refl}
use Rattle.instrument.proofs.Calls.{free-by, barred-call}
use Rattle.instrument.specs.Calls.{placed_as}
use Rattle.instrument.proofs.Controls.{pedal-down-call, pedal-up-call}
use borrow.Author.Rules.{rules}
use Rattle.model.specs.Controls.{lifted_voice}
use Rattle.instrument.proofs.Instrument.set_sustain.Goals as goal

pub returns-in-Err : goal.returns-in-Err
returns-in-Err c = barred-call _ _ _ _ _ refl c.barred.ensures c.in-Err.is c.refused.ensures

pub returns-then-down : goal.returns-then-down
unfolding placed_as
returns-then-down c =
    let fine = free-by _ _ c.barred.ensures c.in_default.not-Err in
    pedal-down-call _ fine _ _ c.if-down.true c.answered.ensures

pub returns : goal.returns
unfolding placed_as
returns c =
    let fine = free-by _ _ c.barred.ensures c.in_default.not-Err in
    pedal-up-call _ fine _ _ _ c.if-down.false (c.change_all-self.ensures lifted_voice (λ v w p. search rules)) c.answered-2.ensures
