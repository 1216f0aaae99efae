-- Building copy k of n (document 01, "Copies, Plan and Mix", its first three sentences).
use Rattle.std.specs.Prelude.{cond, ℕ, ◌-◌, leb, Float, pos, None}
use Rattle.std.specs.Float.{binary32}
use Rattle.std.specs.Float.Ieee.{of_bits, of_int, add, sub, mul, div, eq, neg}
use Rattle.float32.specs.Numbers.{zero, one, min_of, clamp_of}
use Rattle.float32.specs.Root.{root_of}
use Rattle.stream.specs.declared.UnisonCopy.{UnisonCopy}
use Rattle.stream.specs.Pitch.{bent, cut_to}

abbrev pub half : Float
half = of_bits binary32 0x3f00_0000

abbrev pub two : Float
two = of_bits binary32 0x4000_0000

-- a whole number as a float
abbrev pub whole : ℕ → Float
whole n = of_int binary32 (pos n)

-- "spread (k/(n−1) − 0.5) × 2, or 0 for n = 1"
unfoldable pub spread_of : ℕ → ℕ → Float
spread_of k n = cond (leb n 1) zero (mul binary32 (sub binary32 (div binary32 (whole k) (whole (n - 1))) half) two)

-- where the copy stands, from -1 on the left to 1 on the right
unfoldable pub pan_of : ℕ → ℕ → Float → Float
pan_of k n width = clamp_of (mul binary32 (spread_of k n) width) (neg one) one

-- "1/√n from the correctly rounded root"
unfoldable pub norm_of : ℕ → Float
norm_of n = div binary32 one (root_of n)

-- "gains as in `build_copies`"; "a new copy has pitch, target, glide and bend 1, no cutoff"
unfoldable pub new_copy : ℕ → ℕ → Float → UnisonCopy
new_copy k n width = record {
  l = mul binary32 (min_of (sub binary32 one (pan_of k n width)) one) (norm_of n);
  r = mul binary32 (min_of (add binary32 one (pan_of k n width)) one) (norm_of n);
  pitch = one;
  pitch_target = one;
  glide = one;
  bend = one;
  cutoff = None;
}

-- "bend and brightness not equal to 1 are then applied"
abbrev pub unless_one : Float → (UnisonCopy → UnisonCopy) → UnisonCopy → UnisonCopy
unless_one x f c = cond (eq x one) c (f c)

unfoldable pub caught_up : Float → Float → UnisonCopy → UnisonCopy
caught_up bend brightness c = unless_one brightness (cut_to brightness) (unless_one bend (bent bend) c)
