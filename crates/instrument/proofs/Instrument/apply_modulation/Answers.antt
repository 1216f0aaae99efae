use mathlib.Core.Path.{refl}
use Rattle.instrument.specs.Calls.{moved_as}
use Rattle.instrument.proofs.Plans.{applies}
use borrow.Author.Rules.{rules}
use lib.Ieee.{binary32, mul}
use Rattle.model.specs.Voices.{with_copies}
use Rattle.instrument.specs.Plans.{wobble_of}
use Rattle.instrument.proofs.Instrument.apply_modulation.Goals as goal

pub returns : goal.returns
unfolding moved_as
returns c =
    applies c.args.self c.args.frames c.args.vibrato c.args.filter c.args.sine _ _ _ _ _ _ _ _ _ c.factor.ensures c.factor-2.ensures
    c.tremolo_gain.ensures
    c.step_of-step.ensures c.phase_on.ensures c.phase_on-2.ensures c.phase_on-3.ensures (c.change_all-self.ensures (with_copies
    (wobble_of c.args.self.design.modulation (mul binary32 c.args.self.bend c.factor.result)
    (mul binary32 c.args.self.brightness c.factor-2.result))) (λ v w p. search rules)) refl
