use Rattle.std.proofs.lemmas.Grind.{common_steps}
use native.Mathlib.Omega.{arith}
use Rattle.forms.specs.Forms.{voices}
use Rattle.forms.proofs.Chains.{words-other}
use Rattle.forms.proofs.Lines.{is-design, is_none}
use Rattle.forms.proofs.read.Goals as goal

-- `forms::read` meets its contract: one law for each way out.

pub returns-in-Some : goal.returns-in-Some
returns-in-Some c = is-design _ (omega arith) _ c.in-Some.ensures

pub returns : goal.returns
returns c =
    let n = words-other voices _ _ c.as_slice.ensures c.if-eq.ensures in
    is_none _ (omega arith) c.in_default.ensures c.in_default-on_line.ensures (λ v. n (grind (arith, common_steps, v)))
