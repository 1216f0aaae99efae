-- A part of a block, m frames from frame a on, of at most 64: what the inner functions say of it. The contracts of `pub` functions cite none of this.
use Rattle.std.specs.Prelude.{◌≡◌, List, [], ◌∷◌, ℕ, ◌+◌, ◌*◌, ◌≤◌, Float, length, take, drop, get_or}
use Rattle.std.specs.Float.{binary32, nan}
use Rattle.std.specs.Float.Ieee.{add, mul}
use Rattle.stream.specs.declared.UnisonCopy.{UnisonCopy}
use Rattle.model.specs.Mix.{add_side, Mixing, mixing}
use Rattle.voice.specs.declared.Voice.{Voice}
use Rattle.voice.specs.View.{shown}

-- `side_copy` of a part: the samples begin at its first frame, and those of the next copy stand n places behind
unfoldable pub part_copy : (UnisonCopy → Float) → ℕ → ℕ → List Float → Mixing → UnisonCopy → Mixing
part_copy gain_of n m es z c = mixing (drop n z.samples) (add_side (gain_of c) (take m z.samples) es z.sums)

-- one frame of one side: the samples of the copies stand n places apart
unfoldable pub framed : (UnisonCopy → Float) → ℕ → Float → List Float → List UnisonCopy → Float → Float
framed side n e xs [] s = s
framed side n e xs (c ∷ cs) s = framed side n e (drop n xs) cs (add binary32 s (mul binary32 (mul binary32 (get_or xs 0 nan) e) (side c)))

-- a sample for each level of each of k copies, n places from one copy to the next, and a sum of each side for each level
pub record PartFits (n k : ℕ) (samples levels left right : List Float) : Type 0 where
  pub inputs : n * k + length levels ≤ length samples + n
  pub first : length levels ≤ length samples
  pub left_sums : length levels ≤ length left
  pub right_sums : length levels ≤ length right

-- n samples for each of k copies, and a part from frame a on of those n
pub record CopiesFit (n k a : ℕ) (samples levels left right : List Float) : Type 0 where
  pub inputs : n * k ≤ length samples
  pub frames : a + length levels ≤ n
  pub left_sums : length levels ≤ length left
  pub right_sums : length levels ≤ length right

-- as many sums on either side, and as many samples for each copy of the voice
pub record SidesFit (v : Voice) (samples left right : List Float) : Type 0 where
  pub inputs : length left * length (shown v).copies ≤ length samples
  pub sides : length right ≡ length left

-- the sums of both sides, from those at entry; x is the left side's gain, or how a copy gives it, and y the right side's
pub record BothSides {A : Type 0} (added : A → List Float → List Float) (x y : A) (left₀ right₀ left right : List Float) : Type 0 where
  pub on_left : left ≡ added x left₀
  pub on_right : right ≡ added y right₀
