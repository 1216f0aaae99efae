use mathlib.Core.Path.{refl}
use Rattle.instrument.proofs.Calls.{free-by, barred-call}
use Rattle.instrument.specs.Calls.{tuned_as}
use Rattle.instrument.proofs.Controls.{bend-call}
use borrow.Author.Rules.{rules}
use Rattle.stream.specs.Pitch.{bent}
use Rattle.model.specs.Voices.{with_copies}
use Rattle.instrument.proofs.Instrument.set_bend.Goals as goal

pub returns-in-Err : goal.returns-in-Err
returns-in-Err c = barred-call _ _ _ _ _ refl c.barred.ensures c.in-Err.is c.refused.ensures

pub returns : goal.returns
unfolding tuned_as
returns c =
    let fine = free-by _ _ c.barred.ensures c.in_default.not-Err in
    bend-call _ fine _ _ _ (c.change_all-self.ensures (with_copies (bent c.args.factor)) (λ v w p. search rules)) c.answered.ensures
