use Rattle.design.specs.declared.PlayMode.TheVariants.{Mono}
use mathlib.Core.Bool.{true}
use Rattle.forms.specs.Forms.{then_mode, legato}
use Rattle.forms.proofs.Chains.{cut-some, lead}
use Rattle.forms.proofs.Modes.{mode-some}
use Rattle.forms.proofs.mode.Goals as goal

-- `forms::mode` meets its contract: the words, then the one of the three that stands there.

pub returns : goal.returns
returns c =
    lead then_mode _ _ _ _ _ _ (cut-some then_mode _ c.in_ok-word.word c.in_ok-word.ensures.cases)
    (mode-some _ (Mono true) _ (cut-some legato _ c.in_ok-rest.rest c.in_ok-rest.ensures.cases))
