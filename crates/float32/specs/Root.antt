-- The correctly rounded root of a whole number from 1 to 8 (document 01, "Copies, Plan and Mix": 1/√n from the correctly rounded root).
use Rattle.std.specs.Prelude.{◌≡◌, false, List, [], ◌∷◌, ℕ, ◌+◌, ◌*◌, ◌^◌, ◌≤◌, ◌<◌, Float, get_or}
use Rattle.std.specs.Float.{nan, binary32}
use Rattle.std.specs.Float.Ieee.{of_bits, round}

-- the roots of 0 to 8
abbrev pub roots : List Float
roots =
    of_bits binary32 0
    ∷ of_bits binary32 0x3f80_0000
    ∷ of_bits binary32 0x3fb5_04f3
    ∷ of_bits binary32 0x3fdd_b3d7
    ∷ of_bits binary32 0x4000_0000
    ∷ of_bits binary32 0x400f_1bbd
    ∷ of_bits binary32 0x401c_c471
    ∷ of_bits binary32 0x4029_53fd
    ∷ of_bits binary32 0x4035_04f3
    ∷ []

-- the root of n, where n is at most 8
unfoldable pub root_of : ℕ → Float
root_of n = get_or roots n nan

-- x is p / 2 ^ k with the 24 digits of a float, and no float is nearer to the real root of n: (p - 1/2)² < n × 2 ^ 2k < (p + 1/2)², four times over
pub record NearestRoot (n : ℕ) (x : Float) : Type 0 where
  pub p : ℕ
  pub k : ℕ
  pub value : x ≡ round binary32 false p (2 ^ k)
  pub digits : (2 ^ 23 ≤ p) × (p < 2 ^ 24)
  pub above : 4 * (p * p) + 1 < 4 * (n * 2 ^ (2 * k)) + 4 * p
  pub under : 4 * (n * 2 ^ (2 * k)) < 4 * (p * p) + 4 * p + 1

-- every root from 1 to 8 is the nearest float
unfoldable pub RootsNearest : Type 0
RootsNearest = (n : ℕ) → 1 ≤ n → n ≤ 8 → NearestRoot n (root_of n)
