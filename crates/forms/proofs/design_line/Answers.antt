use Rattle.std.proofs.lemmas.Grind.{common_steps}
use native.Mathlib.Omega.{arith}
use Rattle.forms.specs.Forms.{design_text, DesignFits, close_design}
use Rattle.forms.proofs.Chains.{AtEnd, apart, step, stop, and_then, ended, words-same, words-differ, line-none, line-some, as_form}
use Rattle.forms.proofs.Lines.{design_same, within}
use Rattle.forms.proofs.design_line.Goals as goal

-- `forms::design_line` meets its contract: its parts, one after the other, and the end.

pub returns-in_err-rate : goal.returns-in_err-rate
returns-in_err-rate c =
    rw c.from_residual.ensures (line-none design_text DesignFits _ (λ f h b. stop _ _ _ _ _ _ c.in_err-rate.ensures (within h.rate) (apart 41 _ (omega arith))
    b))

pub returns-in_err-max : goal.returns-in_err-max
returns-in_err-max c =
    rw c.from_residual-in_err-max.ensures (line-none design_text DesignFits _ (λ f h b. stop _ _ _ _ _ _ c.in_err-max.ensures (within h.max) (apart 41 _ (omega arith))
    (step _ _ _ _ _ _ _ _ c.in_ok-rate.ensures (within h.rate) (apart 41 _ (omega arith))
    b)))

pub returns-in_err-mode : goal.returns-in_err-mode
returns-in_err-mode c =
    rw c.from_residual-in_err-mode.ensures (line-none design_text DesignFits _ (λ f h b. stop _ _ _ _ _ _ c.in_err-mode.ensures tt tt
    (step _ _ _ _ _ _ _ _ c.in_ok-max.ensures (within h.max) (apart 41 _ (omega arith))
    (step _ _ _ _ _ _ _ _ c.in_ok-rate.ensures (within h.rate) (apart 41 _ (omega arith))
    b))))

pub returns-in_err-unison : goal.returns-in_err-unison
returns-in_err-unison c =
    rw c.from_residual-in_err-unison.ensures (line-none design_text DesignFits _ (λ f h b. stop _ _ _ _ _ _ c.in_err-unison.ensures (within h.unison) (apart 32 _ (omega arith))
    (step _ _ _ _ _ _ _ _ c.in_ok-mode.ensures tt tt
    (step _ _ _ _ _ _ _ _ c.in_ok-max.ensures (within h.max) (apart 41 _ (omega arith))
    (step _ _ _ _ _ _ _ _ c.in_ok-rate.ensures (within h.rate) (apart 41 _ (omega arith))
    b)))))

pub returns-in_err-width : goal.returns-in_err-width
returns-in_err-width c =
    rw c.from_residual-in_err-width.ensures (line-none design_text DesignFits _ (λ f h b. stop _ _ _ _ _ _ c.in_err-width.ensures h.width tt
    (step _ _ _ _ _ _ _ _ c.in_ok-unison.ensures (within h.unison) (apart 32 _ (omega arith))
    (step _ _ _ _ _ _ _ _ c.in_ok-mode.ensures tt tt
    (step _ _ _ _ _ _ _ _ c.in_ok-max.ensures (within h.max) (apart 41 _ (omega arith))
    (step _ _ _ _ _ _ _ _ c.in_ok-rate.ensures (within h.rate) (apart 41 _ (omega arith))
    b))))))

pub returns-in_err-amp : goal.returns-in_err-amp
returns-in_err-amp c =
    rw c.from_residual-in_err-amp.ensures (line-none design_text DesignFits _ (λ f h b. stop _ _ _ _ _ _ c.in_err-amp.ensures h.amp tt
    (step _ _ _ _ _ _ _ _ c.in_ok-width.ensures h.width tt
    (step _ _ _ _ _ _ _ _ c.in_ok-unison.ensures (within h.unison) (apart 32 _ (omega arith))
    (step _ _ _ _ _ _ _ _ c.in_ok-mode.ensures tt tt
    (step _ _ _ _ _ _ _ _ c.in_ok-max.ensures (within h.max) (apart 41 _ (omega arith))
    (step _ _ _ _ _ _ _ _ c.in_ok-rate.ensures (within h.rate) (apart 41 _ (omega arith))
    b)))))))

pub returns-in_err-glide : goal.returns-in_err-glide
returns-in_err-glide c =
    rw c.from_residual-in_err-glide.ensures (line-none design_text DesignFits _ (λ f h b. stop _ _ _ _ _ _ c.in_err-glide.ensures h.glide tt
    (step _ _ _ _ _ _ _ _ c.in_ok-amp.ensures h.amp tt
    (step _ _ _ _ _ _ _ _ c.in_ok-width.ensures h.width tt
    (step _ _ _ _ _ _ _ _ c.in_ok-unison.ensures (within h.unison) (apart 32 _ (omega arith))
    (step _ _ _ _ _ _ _ _ c.in_ok-mode.ensures tt tt
    (step _ _ _ _ _ _ _ _ c.in_ok-max.ensures (within h.max) (apart 41 _ (omega arith))
    (step _ _ _ _ _ _ _ _ c.in_ok-rate.ensures (within h.rate) (apart 41 _ (omega arith))
    b))))))))

pub returns-in_err-modulation : goal.returns-in_err-modulation
returns-in_err-modulation c =
    rw c.from_residual-in_err-modulation.ensures (line-none design_text DesignFits _ (λ f h b. stop _ _ _ _ _ _ c.in_err-modulation.ensures h.modulation tt
    (step _ _ _ _ _ _ _ _ c.in_ok-glide.ensures h.glide tt
    (step _ _ _ _ _ _ _ _ c.in_ok-amp.ensures h.amp tt
    (step _ _ _ _ _ _ _ _ c.in_ok-width.ensures h.width tt
    (step _ _ _ _ _ _ _ _ c.in_ok-unison.ensures (within h.unison) (apart 32 _ (omega arith))
    (step _ _ _ _ _ _ _ _ c.in_ok-mode.ensures tt tt
    (step _ _ _ _ _ _ _ _ c.in_ok-max.ensures (within h.max) (apart 41 _ (omega arith))
    (step _ _ _ _ _ _ _ _ c.in_ok-rate.ensures (within h.rate) (apart 41 _ (omega arith))
    b)))))))))

pub returns-then-ne : goal.returns-then-ne
returns-then-ne c =
    let n = words-differ close_design _ _ c.as_slice.ensures c.if-ne.ensures in
    line-none design_text DesignFits _ (λ f h b.
    let r =
    step _ _ _ _ _ _ _ _ c.in_ok-modulation.ensures h.modulation tt
    (step _ _ _ _ _ _ _ _ c.in_ok-glide.ensures h.glide tt
    (step _ _ _ _ _ _ _ _ c.in_ok-amp.ensures h.amp tt
    (step _ _ _ _ _ _ _ _ c.in_ok-width.ensures h.width tt
    (step _ _ _ _ _ _ _ _ c.in_ok-unison.ensures (within h.unison) (apart 32 _ (omega arith))
    (step _ _ _ _ _ _ _ _ c.in_ok-mode.ensures tt tt
    (step _ _ _ _ _ _ _ _ c.in_ok-max.ensures (within h.max) (apart 41 _ (omega arith))
    (step _ _ _ _ _ _ _ _ c.in_ok-rate.ensures (within h.rate) (apart 41 _ (omega arith))
    b))))))) in
    n (grind (arith, common_steps, r)))

pub returns : goal.returns
returns c =
    let e = words-same close_design _ _ c.as_slice.ensures c.if-ne.ensures in
    line-some design_text DesignFits _ _ _ (as_form _ _ _ _ _ _ design_same AtEnd _ (
      c.in_ok-rate.rate,
      (
        c.in_ok-max.max,
        (
          c.in_ok-mode.mode,
          (c.in_ok-unison.unison, (c.in_ok-width.width, (c.in_ok-amp.amp, (c.in_ok-glide.glide, (c.in_ok-modulation.modulation, tt))))),
        ),
      ),
    ) _
    (and_then _ _ _ _ _ _ _ _ _ _ _ c.in_ok-rate.ensures
    (and_then _ _ _ _ _ _ _ _ _ _ _ c.in_ok-max.ensures
    (and_then _ _ _ _ _ _ _ _ _ _ _ c.in_ok-mode.ensures
    (and_then _ _ _ _ _ _ _ _ _ _ _ c.in_ok-unison.ensures
    (and_then _ _ _ _ _ _ _ _ _ _ _ c.in_ok-width.ensures
    (and_then _ _ _ _ _ _ _ _ _ _ _ c.in_ok-amp.ensures
    (and_then _ _ _ _ _ _ _ _ _ _ _ c.in_ok-glide.ensures
    (and_then _ _ _ _ _ _ _ _ _ _ _ c.in_ok-modulation.ensures
    (ended close_design _ (grind (arith, common_steps, e)))
    (λ w rest k. tt))
    (λ w rest k. tt))
    (λ w rest k. tt))
    (λ w rest k. tt))
    (λ w rest k. (apart 32 _ (omega arith))))
    (λ w rest k. tt))
    (λ w rest k. (apart 41 _ (omega arith))))
    (λ w rest k. (apart 41 _ (omega arith)))))
