-- The pitch of a copy (document 01, "Copies, Plan and Mix": the copy's record, and `glide_block`).
use Rattle.std.specs.Prelude.{◌≡◌, cond, List, [], ◌∷◌, ℕ, zero, suc, Float, length, Option, Some}
use Rattle.std.specs.Float.{binary32}
use Rattle.std.specs.Float.Ieee.{of_bits, add, sub, mul, is_nan}
use Rattle.float32.specs.Numbers.{zero as +0, one, max_of, clamp_of}
use Rattle.stream.specs.declared.UnisonCopy.{UnisonCopy}

-- a copy with another pitch, target and glide; with another bend; with another cutoff
unfoldable pub pitched : UnisonCopy → Float → Float → Float → UnisonCopy
pitched c p t g = record { l = c.l; r = c.r; pitch = p; pitch_target = t; glide = g; bend = c.bend; cutoff = c.cutoff }

unfoldable pub with_bend : UnisonCopy → Float → UnisonCopy
with_bend c b = record { l = c.l; r = c.r; pitch = c.pitch; pitch_target = c.pitch_target; glide = c.glide; bend = b; cutoff = c.cutoff }

unfoldable pub with_cutoff : UnisonCopy → Option Float → UnisonCopy
with_cutoff c k = record { l = c.l; r = c.r; pitch = c.pitch; pitch_target = c.pitch_target; glide = c.glide; bend = c.bend; cutoff = k }

-- `set_bend`
unfoldable pub bent : Float → UnisonCopy → UnisonCopy
bent x c = with_bend c (max_of x +0)

-- 0.01
abbrev pub least_cutoff : Float
least_cutoff = of_bits binary32 0x3c23_d70a

-- `set_cutoff`: "the cutoff last set, at least 0.01 (3C23D70A)"
unfoldable pub cut_to : Float → UnisonCopy → UnisonCopy
cut_to x c = with_cutoff c (Some (max_of x least_cutoff))

-- the smallest normal float
abbrev pub least_normal : Float
least_normal = of_bits binary32 0x0080_0000

-- a coefficient within the smallest normal float and 1; a NaN snaps
unfoldable pub coefficient : Float → Float
coefficient x = cond (is_nan x) one (clamp_of x least_normal one)

-- `glide_pitch`: aimed at a scale, with a coefficient
unfoldable pub glided_to : Float → Float → UnisonCopy → UnisonCopy
glided_to scale coeff c = pitched c c.pitch (max_of scale +0) (coefficient coeff)

-- the pitch one sample later
unfoldable pub glide_step : UnisonCopy → Float
glide_step c = add binary32 c.pitch (mul binary32 (sub binary32 c.pitch_target c.pitch) c.glide)

-- the copy one sample later, and the pitch that the oscillators then see
unfoldable pub stepped : UnisonCopy → UnisonCopy
stepped c = pitched c (glide_step c) c.pitch_target c.glide

unfoldable pub heard : UnisonCopy → Float
heard c = mul binary32 c.pitch c.bend

-- the copy n samples later
unfoldable pub glided : ℕ → UnisonCopy → UnisonCopy
glided zero c = c
glided (suc n) c = glided n (stepped c)

-- `glide_block`: n pitch numbers
unfoldable pub curve : ℕ → UnisonCopy → List Float
curve zero c = []
curve (suc n) c = heard (stepped c) ∷ curve n (stepped c)

-- what `glide_block` promises: the lent numbers and the next copy
pub record GlidedOver (c : UnisonCopy) (old new : List Float) (d : UnisonCopy) : Type 0 where
  pub numbers : new ≡ curve (length old) c
  pub next : d ≡ glided (length old) c
