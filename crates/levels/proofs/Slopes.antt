-- A tick as a step of its stage, and the frames of a run.
use mathlib.Core.Path.{◌≡◌, refl, ap, sym, ◌∙◌}
use mathlib.Core.Bool.{false}
use lib.Ieee.{Float, binary32, sub, le, add}
use Rattle.lists.specs.Choose.{cond-false}
use Rattle.float32.specs.Numbers.{zero, one}
use Rattle.envelope.specs.declared.EnvGen.{EnvGen}
use Rattle.envelope.specs.declared.Stage.{Stage}
use Rattle.envelope.specs.declared.Stage.TheVariants.{Idle, Attack, Decay, Sustain, Release}
use Rattle.envelope.specs.Gates.{at}
use Rattle.envelope.specs.Ticks.{rise, fall, decline, ticked_attack, ticked_decay, ticked_release, ticked_in, ticked}
use Rattle.levels.specs.Runs.{in_stage, slope_of}

-- in the stage st
step_in : (e : EnvGen) (st : Stage) (x y : Float) → e.stage ≡ st → ticked_in st (at e st x) ≡ at e st y → ticked (in_stage e x) ≡ in_stage e y
unfolding ticked in_stage at
step_in e st x y h p = ap (λ (s : Stage). ticked_in s (at e s x)) h ∙ p ∙ sym (ap (λ (s : Stage). at e s y) h)

module _ (e : EnvGen) (x y : Float) where
  pub attack_step : e.stage ≡ Attack → le e.a zero ≡ false → y ≡ add binary32 x (slope_of one e.a e.sr) → le one y ≡ false
      → ticked (in_stage e x) ≡ in_stage e y
  unfolding ticked_attack rise at
  attack_step h p k q = rw k (step_in e Attack x _ h (cond-false _ _ _ p ∙ cond-false _ _ _ (rw k at q)))

  pub decay_step : e.stage ≡ Decay → le e.d zero ≡ false → y ≡ sub binary32 x (slope_of (sub binary32 one e.s) e.d e.sr) → le y e.s ≡ false
      → ticked (in_stage e x) ≡ in_stage e y
  unfolding ticked_decay fall at
  decay_step h p k q = rw k (step_in e Decay x _ h (cond-false _ _ _ p ∙ cond-false _ _ _ (rw k at q)))

  pub release_step : e.stage ≡ Release → le e.r zero ≡ false → y ≡ sub binary32 x (slope_of e.rel_from e.r e.sr) → le y zero ≡ false
      → ticked (in_stage e x) ≡ in_stage e y
  unfolding ticked_release decline at
  release_step h p k q = rw k (step_in e Release x _ h (cond-false _ _ _ p ∙ cond-false _ _ _ (rw k at q)))

  pub sustain_step : e.stage ≡ Sustain → y ≡ e.s → ticked (in_stage e x) ≡ in_stage e y
  unfolding at
  sustain_step h k = rw k (step_in e Sustain x _ h refl)

  pub idle_step : e.stage ≡ Idle → y ≡ zero → ticked (in_stage e x) ≡ in_stage e y
  unfolding at
  idle_step h k = rw k (step_in e Idle x _ h refl)
