-- The levels of one voice in a part of a block (document 01, "Copies, Plan and Mix": what `render_block` multiplies the samples by).
use Rattle.std.specs.Prelude.{◌≡◌, ℕ, ◌-◌, min, List, length, take, drop, replicate, Float}
use Rattle.float32.specs.Numbers.{zero}
use Rattle.envelope.specs.declared.EnvGen.{EnvGen}
use Rattle.model.specs.Voices.{aged}
use Rattle.model.specs.Mix.{levels}
use Rattle.levels.specs.declared.Filled.{Filled}

-- every frame, and r is the envelope after them
pub record FilledAll (e : EnvGen) (gain trem : Float) (old new : List Float) (r : EnvGen) : Type 0 where
  pub env : r ≡ aged (length old) e
  pub numbers : new ≡ levels gain trem (length old) e

-- m frames, at most 64: the envelope after them, and their levels with zeros behind
pub record FilledAs (e : EnvGen) (gain trem : Float) (m : ℕ) (r : Filled) : Type 0 where
  pub env : r.env ≡ aged (min m 64) e
  pub numbers : take (min m 64) r.levels ≡ levels gain trem (min m 64) e
  pub rest : drop (min m 64) r.levels ≡ replicate (64 - min m 64) zero
  pub size : length r.levels ≡ 64
