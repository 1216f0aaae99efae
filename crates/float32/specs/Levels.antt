-- Levels stay from 0 to 1: what a tick of an envelope keeps, though every operation is rounded.
-- `le zero x` is x ≥ 0, also for -0 and +∞, and not for a NaN.
use Rattle.std.specs.Prelude.{◌≡◌, Bool, true, false, cond, ℕ, ◌≤◌, T, pos, Float}
use Rattle.std.proofs.Math.Path.{refl}
use Rattle.std.proofs.Common.{subst, zero-lt-suc, mul-le-mul_right}
use denote.Floats.{is_true}
use Rattle.std.specs.Float.{binary32}
use Rattle.std.specs.Float.Ieee.{of_bits, of_int, round, fits, is_nan, add, sub, mul, div, lt, le}
use Rattle.std.specs.Float.Ieee.Order.{round_mono}
use Rattle.float32.specs.Numbers.{zero, one, clamp_of}
use Rattle.float32.specs.Rounded.{round-one}
use Rattle.float32.specs.Signs.{le-numbers, not-below, not-under, short-of-one, bounded-finite, sum-nonnegative, difference-at-most-one, rest-nonnegative, quotient-nonnegative, product-positive}

-- a number from 0 to 1, -0 among them
pub record Within (x : Float) : Type 0 where
  pub low : le zero x ≡ true
  pub high : le x one ≡ true

pub zero-within : Within zero
zero-within = record { low = unfold le of_bits in refl; high = unfold le of_bits in refl }

pub one-within : Within one
one-within = record { low = unfold le of_bits in refl; high = unfold le of_bits in refl }

-- what a clamp to 0 and 1 gives
pub clamp-within : (x : Float) → is_nan x ≡ false → Within (clamp_of x zero one)
unfolding clamp_of
clamp-within x n = by (lt x zero) refl (lt one x) refl
  where
    by : (a : Bool) → lt x zero ≡ a → (b : Bool) → lt one x ≡ b → Within (cond (lt x zero) zero (cond (lt one x) one x))
    by true p b q = rw p zero-within
    by false p true q = rw (p, q) one-within
    by false p false q = rw (p, q) (record { low = not-below x zero n (unfold is_nan of_bits in refl) p; high = not-below one x (unfold is_nan of_bits in refl) n q })

-- a rate: a whole number from 1 on, as a float, is from 1 on
pub whole-from-one : (n : ℕ) → 1 ≤ n → le one (of_int binary32 (pos n)) ≡ true
unfolding of_int
whole-from-one n h =
    is_true _
    (subst (λ (z : Float). T (le z (round binary32 false n 1))) round-one
    (round_mono binary32 1 1 n 1 (zero-lt-suc 0) (zero-lt-suc 0) (mul-le-mul_right 1 h)))

-- the step of a tick is not below 0: a height over the number of ticks, which is a time above 0 by a rate from 1 on
pub step-nonnegative : (height time rate : Float) → Within height → T (fits binary32 time) → is_nan time ≡ false → le time zero ≡ false → le one rate ≡ true
    → le zero (div binary32 height (mul binary32 time rate)) ≡ true
step-nonnegative height time rate w f n h k =
    quotient-nonnegative height (mul binary32 time rate) (bounded-finite height w.low w.high) w.low (product-positive time rate f n h k)

-- a step up that does not reach 1
pub sum-within : (x y : Float) → le zero x ≡ true → le zero y ≡ true → le one (add binary32 x y) ≡ false → Within (add binary32 x y)
sum-within x y h k l = let z = sum-nonnegative x y h k in record { low = z; high = short-of-one (add binary32 x y) z l }

-- a step down that does not reach z
pub difference-within : (x y z : Float) → Within x → le zero y ≡ true → le zero z ≡ true → le (sub binary32 x y) z ≡ false → Within (sub binary32 x y)
difference-within x y z w h k l =
    let t = difference-at-most-one x y w.low w.high h in
    record { low = not-under (sub binary32 x y) z (le-numbers (sub binary32 x y) one t).0 k l; high = t }

-- what is left of 1
pub rest-within : (x : Float) → Within x → Within (sub binary32 one x)
rest-within x w =
    record { low = rest-nonnegative x w.low w.high; high = difference-at-most-one one x one-within.low one-within.high w.low }
