-- What the runs promise: the frames of one stage, without a tick for each.
use Rattle.std.specs.Prelude.{◌≡◌, Bool, false, List, ℕ, ◌≤◌, length, take, drop, Float}
use Rattle.std.specs.Float.{binary32}
use Rattle.std.specs.Float.Ieee.{mul, div}
use Rattle.envelope.specs.declared.EnvGen.{EnvGen}
use Rattle.envelope.specs.Gates.{at}
use Rattle.envelope.specs.Ticks.{ticked}
use Rattle.model.specs.Voices.{aged}
use Rattle.model.specs.Mix.{levels}
use Rattle.levels.specs.declared.Loudness.{Loudness}
use Rattle.levels.specs.declared.Run.{Run}

-- (level × gain) × tremolo gain
abbrev pub loud : Loudness → Float → Float
loud by x = mul binary32 (mul binary32 x by.gain) by.trem

-- the envelope at another level of its stage
unfoldable pub in_stage : EnvGen → Float → EnvGen
in_stage e x = at e e.stage x

-- e has gone through n of the frames and is w now: their levels stand first, and nothing else is changed
pub record Ran (e : EnvGen) (by : Loudness) (old new : List Float) (w : EnvGen) (n : ℕ) : Type 0 where
  pub env : w ≡ aged n e
  pub numbers : take n new ≡ levels by.gain by.trem n e
  pub rest : drop n new ≡ drop n old
  pub size : length new ≡ length old
  pub within : n ≤ length old

-- the run of the stage of e, up to r
abbrev pub RunAs : EnvGen → Loudness → List Float → List Float → Run → Type 0
RunAs e by old new r = Ran e by old new (in_stage e r.level) r.at

-- the change of a level in one frame
abbrev pub slope_of : Float → Float → Float → Float
slope_of height time rate = div binary32 height (mul binary32 time rate)

-- in the stage of e a tick is one step, unless the step's level is an end
unfoldable pub Steps : EnvGen → (Float → Float → Type 0) → (Float → Bool → Type 0) → Type 0
Steps e next ends = (x y : Float) → next x y → ends y false → ticked (in_stage e x) ≡ in_stage e y
