use Rattle.forms.proofs.Chains.{cut-none, cut-some, lead, lead-none}
use Rattle.forms.proofs.led_decimal.Goals as goal

-- `forms::led_decimal` meets its contract: the words, then the number.

pub returns-in_err-strip_prefix : goal.returns-in_err-strip_prefix
returns-in_err-strip_prefix c = rw c.from_residual.ensures (lead-none _ _ _ _ _ (cut-none _ _ c.in_err-strip_prefix.ensures.cases))

pub returns : goal.returns
returns c = lead _ _ _ _ _ _ _ (cut-some _ _ c.in_ok-strip_prefix.field-0 c.in_ok-strip_prefix.ensures.cases) c.decimal.ensures
