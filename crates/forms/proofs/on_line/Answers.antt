use Rattle.std.proofs.lemmas.Grind.{common_steps}
use native.Mathlib.Omega.{arith}
use mathlib.Core.Path.{refl}
use Rattle.forms.specs.Forms.{on_text, OnFits, close}
use Rattle.forms.proofs.Chains.{AtEnd, apart, and_then, ended, words-same, line-some, as_form}
use Rattle.forms.proofs.Lines.{on_same, on_form}
use Rattle.forms.proofs.on_line.Goals as goal

-- `forms::on_line` meets its contract: its parts, one after the other, and the end.

pub returns : goal.returns
returns c =
    let e = words-same close _ _ c.as_slice.ensures c.if-ne.ensures in
    on_form _ (c.in_ok-note.note, (c.in_ok-velocity.velocity, (c.in_ok-built.built, tt))) _ _ _
    (line-some on_text OnFits _ _ _ (as_form _ _ _ _ _ _ on_same AtEnd _ (c.in_ok-note.note, (c.in_ok-velocity.velocity, (c.in_ok-built.built, tt))) _
    (and_then _ _ _ _ _ _ _ _ _ _ _ c.in_ok-note.ensures
    (and_then _ _ _ _ _ _ _ _ _ _ _ c.in_ok-velocity.ensures
    (and_then _ _ _ _ _ _ _ _ _ _ _ c.in_ok-built.ensures
    (ended close _ (grind (arith, common_steps, e)))
    (λ w rest k. (apart 41 _ (omega arith))))
    (λ w rest k. tt))
    (λ w rest k. (apart 32 _ (omega arith))))))
    (omega (arith, (c.in_ok-note.ensures.yes _ _ refl).fits)) refl refl

pub overflow_cast-result : goal.overflow_cast-result
overflow_cast-result c = omega (arith, (c.in_ok-note.ensures.yes _ _ refl).fits)
