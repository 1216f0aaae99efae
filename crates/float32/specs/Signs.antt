-- Which results are from 0 on, above 0 or at most 1: of a sum, a difference, a quotient and a product.
use Rattle.std.specs.Prelude.{◌≡◌, Bool, true, not, ◌&&◌, cond, ◌⊎◌, ℕ, ◌+◌, ◌-◌, ◌*◌, ◌^◌, ◌≤◌, ◌<◌, T, ltb, eqb, ℤ, pos, Float}
use Rattle.std.proofs.Math.Path.{refl}
use Rattle.std.proofs.Common.{sym, ap, ◌∙◌, true≢false, inl, inr, zero-le, zero-mul, zero-lt-suc, mul-one, one-mul, mul-pos, mul_comm, mul-le-mul, mul-le-mul_right, lt_of_le_of_lt, lt_of_lt_of_le, le_of_eq, eq-zero-or-pos, arith, ltb-true, ltb-false, le-ltb, lt-ltb, ne_eqb, ltb→lt, eqb→eq, pow_pos}
use Rattle.std.proofs.Math.Bool.{false}
use Rattle.std.proofs.lemmas.Bool.{false≢true}
use Rattle.std.proofs.Math.Nat.{le_trans}
use denote.Floats.{passes, is_true}
use Rattle.std.specs.Float.{nan, inf, fin, NotNan, ◌≤ᶠ◌}
use Rattle.std.proofs.lemmas.Float.{le_left, le_right, le_of_lt, lt_of_not-le, le_of_not-lt, lt_of_le_of_lt as lt_from_le, T_from_true, T_from_false}
use Rattle.std.specs.Float.Ieee.{up, down, binary32, of_bits, fits, is_nan, units, odd, round, sum, add, sub, mul, div, lt, le}
use Rattle.std.specs.Float.Ieee.Fits.{up_pos, down_pos, and_r}
use Rattle.std.specs.Float.Ieee.Order.{round_mono}
use Rattle.std.specs.Float.Ieee.Scale.{finite}
use Rattle.std.specs.Float.Ieee.Positive.{above, above_of_le, first_pos}
use Rattle.float32.specs.Numbers.{zero as none, one}
use Rattle.float32.specs.Rounded.{empty, round-signed, round-zero, at-most-back, beyond, positive-low, negative-high, round-high, sum_same, sum_more, sum_less, add_is, sub_is, div_is, small}

-- a number with a minus that is not below 0 is -0
no_minus : (m : ℕ) (e : ℤ) → le none (fin true m e) ≡ true → m ≡ 0
unfolding le of_bits
no_minus m e h = by (eq-zero-or-pos m)
  where
    by : (m ≡ 0) ⊎ (0 < m) → m ≡ 0
    by (inl z) = z
    by (inr p) =
        let q : 0 < m * up e * 1 = mul-pos (mul-pos p (up_pos e)) (zero-lt-suc 0) in
        absurd (false≢true (sym (ap (λ (b : Bool). b && eqb (0 * down e) 0) (ne_eqb (0 * down e) (m * up e * 1) (λ z. let y : 0 * down e ≡ 0 = zero-mul (down e) in omega arith))) ∙ h))

sign-tells : (s : Bool) (m : ℕ) (e d : ℤ) → le none (fin s m e) ≡ true → s ≡ true → m * up e * down d ≡ 0
sign-tells false m e d h k = absurd (false≢true k)
sign-tells true m e d h k = empty m e d (no_minus m e h)

-- ---- over one denominator: a is what x, with the sign s, has, and b is what y has
sum_low : (s t : Bool) (a b c : ℕ) → 0 < c → (s ≡ true → a ≡ 0) → (t ≡ true → b ≡ 0) → le none (sum binary32 s a t b c) ≡ true
sum_low false false a b c p f g = rw (sum_same false a b c) (positive-low (round-signed false (a + b) c))
sum_low false true a b c p f g = let z = g refl in rw (sum_more false a b c (omega arith)) (positive-low (round-signed false (a - b) c))
sum_low true true a b c p f g =
    let y = f refl in
    let z = g refl in
    let n : a + b ≡ 0 = omega arith in
    rw (sum_same true a b c, n, round-zero true c p) (unfold le of_bits in refl)
sum_low true false a b c p f g = by (eq-zero-or-pos b)
  where
    by : (b ≡ 0) ⊎ (0 < b) → le none (sum binary32 true a false b c) ≡ true
    by (inl z) = let y = f refl in rw (sum_more true a b c (omega arith), le-ltb b a (omega arith)) (positive-low (round-signed false (a - b) c))
    by (inr q) = let y = f refl in rw (sum_less true a b c (omega arith)) (positive-low (round-signed false (b - a) c))

difference-high : (s t : Bool) (a b c : ℕ) → 0 < c → a ≤ c → (s ≡ true → a ≡ 0) → (t ≡ true → b ≡ 0) → le (sum binary32 s a (not t) b c) one ≡ true
difference-high false false a b c p h f g = by (ltb a b) refl
  where
    by : (x : Bool) → ltb a b ≡ x → le (sum binary32 false a true b c) one ≡ true
    by true l = rw (sum_less false a b c (ltb-true a b l)) (negative-high (round-signed true (b - a) c))
    by false l = rw (sum_more false a b c (ltb-false a b l)) (round-high (a - b) c p (omega arith))
difference-high false true a b c p h f g = let z = g refl in rw (sum_same false a b c) (round-high (a + b) c p (omega arith))
difference-high true false a b c p h f g = rw (sum_same true a b c) (negative-high (round-signed true (a + b) c))
difference-high true true a b c p h f g =
    let y = f refl in
    let z = g refl in
    rw (sum_more true a b c (omega arith), le-ltb b a (omega arith)) (round-high (a - b) c p (omega arith))

difference_low : (t : Bool) (a b c : ℕ) → b ≤ a → le none (sum binary32 false a (not t) b c) ≡ true
difference_low false a b c h = rw (sum_more false a b c h) (positive-low (round-signed false (a - b) c))
difference_low true a b c h = rw (sum_same false a b c) (positive-low (round-signed false (a + b) c))

-- ---- comparisons
-- what is not under a number from 0 on is from 0 on itself
pub not-under : (v z : Float) → is_nan v ≡ false → le none z ≡ true → le v z ≡ false → le none v ≡ true
not-under v z n h k =
    let t : none ≤ᶠ z = T_from_true _ h in
    is_true _ (le_of_lt none v (lt_from_le none z v t (lt_of_not-le v z (T_from_false _ n) (le_right none z t) (T_from_false _ k))))

-- a NaN is not compared
a_number : (x : Float) → NotNan x → is_nan x ≡ false
unfolding is_nan
a_number nan t = absurd t
a_number (inf s) t = refl
a_number (fin s m e) t = refl

pub le-numbers : (v w : Float) → le v w ≡ true → (is_nan v ≡ false) × (is_nan w ≡ false)
le-numbers v w h = (a_number v (le_left v w (T_from_true _ h)), a_number w (le_right v w (T_from_true _ h)))

pub not-below : (v w : Float) → is_nan v ≡ false → is_nan w ≡ false → lt v w ≡ false → le w v ≡ true
not-below v w p q h = is_true _ (le_of_not-lt v w (T_from_false _ p) (T_from_false _ q) (T_from_false _ h))

-- what is from 0 on and not from 1 on is at most 1
pub short-of-one : (v : Float) → le none v ≡ true → le one v ≡ false → le v one ≡ true
short-of-one v h k = is_true _ (le_of_lt v one (lt_of_not-le one v (unfold is_nan of_bits in tt) (le_right none v (T_from_true _ h)) (T_from_false _ k)))

-- what is from 0 to 1 is finite
pub bounded-finite : (x : Float) → le none x ≡ true → le x one ≡ true → finite x ≡ true
unfolding le of_bits
bounded-finite nan l h = absurd (false≢true l)
bounded-finite (inf true) l h = absurd (false≢true l)
bounded-finite (inf false) l h = absurd (false≢true h)
bounded-finite (fin s m e) l h = refl

-- a sum of two that are from 0 on, an infinity among them
pub sum-nonnegative : (x y : Float) → le none x ≡ true → le none y ≡ true → le none (add binary32 x y) ≡ true
unfolding le of_bits
sum-nonnegative nan y h k = absurd (false≢true h)
sum-nonnegative (inf s) nan h k = absurd (false≢true k)
sum-nonnegative (inf true) (inf t) h k = absurd (false≢true h)
sum-nonnegative (inf false) (inf true) h k = absurd (false≢true k)
sum-nonnegative (inf false) (inf false) h k = unfold add in refl
sum-nonnegative (inf true) (fin t n d) h k = absurd (false≢true h)
sum-nonnegative (inf false) (fin t n d) h k = unfold add in refl
sum-nonnegative (fin s m e) nan h k = absurd (false≢true k)
sum-nonnegative (fin s m e) (inf true) h k = absurd (false≢true k)
sum-nonnegative (fin s m e) (inf false) h k = unfold add in refl
sum-nonnegative (fin s m e) (fin t n d) h k =
    ap (le none) (add_is s m e t n d)
    ∙ sum_low s t (m * up e * down d) (n * up d * down e) (down e * down d) (mul-pos (down_pos e) (down_pos d)) (sign-tells s m e d h) (sign-tells t n d e k)

-- a difference is at most its first term, so at most 1
under_one : (s : Bool) (m : ℕ) (e d : ℤ) → le none (fin s m e) ≡ true → le (fin s m e) one ≡ true → m * up e * down d ≤ down e * down d
under_one true m e d l h = le_trans (le_of_eq (sign-tells true m e d l refl)) zero-le
under_one false m e d l h = mul-le-mul_right (down d) (size m e h)
  where
    size : (m : ℕ) (e : ℤ) → le (fin false m e) one ≡ true → m * up e ≤ down e
    size m e h = unfold le of_bits in le_trans (le_of_eq (sym (mul-one (m * up e)))) (le_trans (at-most-back (m * up e * 1) (1 * down e) h) (le_of_eq (one-mul (down e))))

pub difference-at-most-one : (x y : Float) → le none x ≡ true → le x one ≡ true → le none y ≡ true → le (sub binary32 x y) one ≡ true
unfolding le of_bits
difference-at-most-one nan y l h k = absurd (false≢true l)
difference-at-most-one (inf true) y l h k = absurd (false≢true l)
difference-at-most-one (inf false) y l h k = absurd (false≢true h)
difference-at-most-one (fin s m e) nan l h k = absurd (false≢true k)
difference-at-most-one (fin s m e) (inf true) l h k = absurd (false≢true k)
difference-at-most-one (fin s m e) (inf false) l h k = unfold sub in refl
difference-at-most-one (fin s m e) (fin t n d) l h k =
    ap (λ (z : Float). le z one) (sub_is s m e t n d)
    ∙ difference-high s t (m * up e * down d) (n * up d * down e) (down e * down d) (mul-pos (down_pos e) (down_pos d)) (under_one s m e d l h) (sign-tells s m e d l) (sign-tells t n d e k)

-- what is left of 1
pub rest-nonnegative : (x : Float) → le none x ≡ true → le x one ≡ true → le none (sub binary32 one x) ≡ true
unfolding le of_bits
rest-nonnegative nan l h = absurd (false≢true l)
rest-nonnegative (inf true) l h = absurd (false≢true l)
rest-nonnegative (inf false) l h = absurd (false≢true h)
rest-nonnegative (fin s m e) l h =
    ap (le none) (sub_is false 1 (pos 0) s m e)
    ∙ difference_low s (1 * down e) (m * up e * 1) (1 * down e) (le_trans (under_one s m e (pos 0) l h) (le_of_eq (mul_comm (down e) 1)))

above-none : (n : ℕ) (d : ℤ) → 0 * down d < n * up d * 1 → 0 < n
above-none n d h = first_pos n (up d) (first_pos (n * up d) 1 (lt_of_le_of_lt zero-le h))

-- a number from 0 on by a number above 0, an infinity among the latter
pub quotient-nonnegative : (x y : Float) → finite x ≡ true → le none x ≡ true → lt none y ≡ true → le none (div binary32 x y) ≡ true
unfolding le of_bits
quotient-nonnegative nan y f h k = absurd (false≢true f)
quotient-nonnegative (inf s) y f h k = absurd (false≢true f)
quotient-nonnegative (fin s m e) nan f h k = absurd (false≢true k)
quotient-nonnegative (fin s m e) (inf true) f h k = absurd (false≢true k)
quotient-nonnegative (fin true m e) (inf false) f h k = unfold div in refl
quotient-nonnegative (fin false m e) (inf false) f h k = unfold div in refl
quotient-nonnegative (fin s m e) (fin true n d) f h k = absurd (false≢true k)
quotient-nonnegative (fin true m e) (fin false n d) f h k =
    let p : 0 < n = above-none n d (ltb-true _ _ k) in
    let c : 0 < n * up d * down e = mul-pos (mul-pos p (up_pos d)) (down_pos e) in
    ap (le none) (div_is true m e false n d p ∙ ap (λ (z : ℕ). round binary32 true z (n * up d * down e)) (sign-tells true m e d h refl) ∙ round-zero true (n * up d * down e) c)
quotient-nonnegative (fin false m e) (fin false n d) f h k = ap (le none) (div_is false m e false n d (above-none n d (ltb-true _ _ k))) ∙ positive-low (round-signed false _ _)

-- ---- a number above 0 by a number from 1 on
above_zero : (s : Bool) (m : ℕ) (e : ℤ) → le (fin s m e) none ≡ false → (s ≡ false) × (0 < m)
unfolding le of_bits
above_zero true m e h = absurd (unfold lt is_nan of_bits in lt_of_not-le (fin true m e) none tt tt (T_from_false _ h))
above_zero false m e h = (refl, above-none m e (beyond (m * up e * 1) (0 * down e) h))

from_one : (s : Bool) (m : ℕ) (e : ℤ) → le one (fin s m e) ≡ true → (s ≡ false) × (down e ≤ m * up e)
unfolding le of_bits
from_one true m e h =
    let z : 1 * down e ≡ 0 = eqb→eq (1 * down e) 0 (and_r (eqb (1 * down e) (m * up e * 1)) (eqb (1 * down e) 0) (passes _ h)) in
    let p : 0 < 1 * down e = mul-pos (zero-lt-suc 0) (down_pos e) in
    let n : ⊥ = omega arith in
    absurd n
from_one false m e h = (refl, le_trans (le_of_eq (sym (one-mul (down e)))) (le_trans (at-most-back (1 * down e) (m * up e * 1) h) (le_of_eq (mul-one (m * up e)))))

above→lt : (z : Float) → T (above z) → lt none z ≡ true
unfolding lt of_bits
above→lt nan t = absurd t
above→lt (inf s) t = is_true _ t
above→lt (fin true m e) t = absurd t
above→lt (fin false m e) t = lt-ltb _ _ (lt_of_le_of_lt (le_of_eq (zero-mul (down e))) (mul-pos (mul-pos (ltb→lt 0 m t) (up_pos e)) (zero-lt-suc 0)))

-- what is no smaller than the smallest number above 0 is not rounded to 0
round-positive : (a c : ℕ) → 0 < c → c ≤ a * 2 ^ 149 → lt none (round binary32 false a c) ≡ true
round-positive a c p h =
    above→lt _ (above_of_le (round binary32 false 1 (2 ^ 149)) _ (unfold round units odd in tt)
    (round_mono binary32 1 (2 ^ 149) a c (pow_pos 149) p (le_trans (le_of_eq (one-mul c)) h)))

large : (a b c d : ℕ) → 0 < a → c ≤ 2 ^ 149 → d ≤ b → c * d ≤ a * b * 2 ^ 149
large a b c d p h k =
    le_trans (mul-le-mul h k)
    (le_trans (le_of_eq (mul_comm (2 ^ 149) b))
    (mul-le-mul_right (2 ^ 149) (le_trans (le_of_eq (sym (one-mul b))) (mul-le-mul_right b p))))

far-positive : (n : ℕ) → 0 < n → lt none (cond (eqb n 0) nan (inf false)) ≡ true
far-positive n h = rw (ne_eqb n 0 (λ z. omega arith)) (above→lt (inf false) tt)

pub product-positive : (x y : Float) → T (fits binary32 x) → is_nan x ≡ false → le x none ≡ false → le one y ≡ true → lt none (mul binary32 x y) ≡ true
product-positive nan y t n h k = absurd (true≢false (unfold is_nan in n))
product-positive (inf true) y t n h k = absurd (true≢false (unfold le of_bits in h))
product-positive (inf false) nan t n h k = absurd (false≢true (unfold le of_bits in k))
product-positive (inf false) (inf true) t n h k = absurd (false≢true (unfold le of_bits in k))
product-positive (inf false) (inf false) t n h k = unfold mul lt of_bits in refl
product-positive (inf false) (fin true o d) t n h k = absurd (true≢false (from_one true o d k).0)
product-positive (inf false) (fin false o d) t n h k = unfold mul in far-positive o (first_pos o (up d) (lt_of_lt_of_le (down_pos d) (from_one false o d k).1))
product-positive (fin s m e) nan t n h k = absurd (false≢true (unfold le of_bits in k))
product-positive (fin s m e) (inf true) t n h k = absurd (false≢true (unfold le of_bits in k))
product-positive (fin true m e) (inf false) t n h k = absurd (true≢false (above_zero true m e h).0)
product-positive (fin false m e) (inf false) t n h k = unfold mul in far-positive m (above_zero false m e h).1
product-positive (fin true m e) (fin u o d) t n h k = absurd (true≢false (above_zero true m e h).0)
product-positive (fin false m e) (fin true o d) t n h k = absurd (true≢false (from_one true o d k).0)
product-positive (fin false m e) (fin false o d) t n h k =
    let p : 0 < m * up e = mul-pos (above_zero false m e h).1 (up_pos e) in
    unfold mul in round-positive (m * up e * (o * up d)) (down e * down d) (mul-pos (down_pos e) (down_pos d))
    (large (m * up e) (o * up d) (down e) (down d) p (small false m e t).fine (from_one false o d k).1)
