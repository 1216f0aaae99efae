-- What a rounded number keeps of its sign and its size, and which rounded number a sum, a difference and a quotient is.
use Rattle.std.specs.Prelude.{◌≡◌, Bool, true, false, not, ◌&&◌, ◌||◌, cond, ℕ, zero, suc, ◌+◌, ◌-◌, ◌*◌, ◌%◌, ◌^◌, ◌≤◌, ◌<◌, T, leb, ltb, eqb, ℤ, pos, Float}
use Rattle.std.proofs.Math.Path.{refl}
use Rattle.std.proofs.Common.{sym, ◌∙◌, subst, zero-le, zero-mul, zero-lt-suc, mul-one, one-mul, mul-pos, mul-le-mul_right, lt_of_le_of_lt, le_trans, le_of_eq, arith, le-ltb, lt-ltb, ne_eqb, ltb→lt, leb→le, eqb→eq, lit<, lit≤, pow_pos}
use denote.Floats.{is_true}
use Rattle.std.specs.Float.{inf, fin, binary32}
use Rattle.std.specs.Float.Ieee.{up, down, low, prec, emax, of_bits, units, odd, round, sum, add, sub, le, div, unlike, fits}
use Rattle.std.specs.Float.Ieee.Fits.{up_pos, down_pos, round_is, and_l, and_r}
use Rattle.std.specs.Float.Ieee.Order.{round_mono}
use Rattle.std.specs.Float.Ieee.Scale.{round_same}
use Rattle.float32.specs.Numbers.{zero as none, one}

-- ---- what it takes to fit
pub record Small (m : ℕ) (e : ℤ) : Type 0 where
  pub digits : m < 2 ^ 24
  pub fine : down e ≤ 2 ^ 149
  pub bounded : m * up e < 2 ^ 128 * down e

pub small : (s : Bool) (m : ℕ) (e : ℤ) → T (fits binary32 (fin s m e)) → Small m e
unfolding fits
small s zero e t =
    let flat : up e * down e ≡ 1 = eqb→eq (up e * down e) 1 t in
    let over : 1 * down e ≤ up e * down e = mul-le-mul_right (down e) (up_pos e) in
    let low : down e ≤ 1 = le_trans (le_of_eq (sym (one-mul (down e)))) (le_trans over (le_of_eq flat)) in
    record { digits = lit< tt; fine = le_trans low (lit≤ tt); bounded = lt_of_le_of_lt (le_of_eq (zero-mul (up e))) (mul-pos (pow_pos 128) (down_pos e)) }
small s (suc m) e t =
    let a : Bool = eqb (suc m % 2) 1 in
    let b : Bool = ltb (suc m) (2 ^ 24) in
    let c : Bool = leb (down e) (2 ^ 149) in
    let d : Bool = ltb (suc m * up e) (2 ^ 128 * down e) in
    record {
      digits = ltb→lt (suc m) (2 ^ 24) (and_r a b (and_l (a && b) c (and_l (a && b && c) d t)));
      fine = leb→le (down e) (2 ^ 149) (and_r (a && b) c (and_l (a && b && c) d t));
      bounded = ltb→lt (suc m * up e) (2 ^ 128 * down e) (and_r (a && b && c) d t);
    }

-- a number with m = 0 has no size
pub empty : (m : ℕ) (e d : ℤ) → m ≡ 0 → m * up e * down d ≡ 0
empty m e d z = rw (z, zero-mul (up e), zero-mul (down d))

-- ---- signs
pub data Signed (s : Bool) : Float → Type 0 where
  far : Signed s (inf s)
  near : (m : ℕ) (e : ℤ) → Signed s (fin s m e)

odd-signed : (d : ℕ) (s : Bool) (q k l : ℕ) → Signed s (odd d s q k l)
unfolding odd
odd-signed d s zero k l = near _ _
odd-signed d s (suc q) k l = near _ _

units-signed : (s : Bool) (q k : ℕ) → Signed s (units binary32 s q k)
unfolding units
units-signed s q k = by (ltb (q * 2 ^ k) (2 ^ (low binary32 + suc (emax binary32))))
  where
    by : (b : Bool) → Signed s (cond b (odd (suc (prec binary32)) s q k (low binary32)) (inf s))
    by true = odd-signed (suc (prec binary32)) s q k (low binary32)
    by false = far

pub round-signed : (s : Bool) (a c : ℕ) → Signed s (round binary32 s a c)
round-signed s a c = subst (Signed s) (sym (round_is binary32 s a c)) (units-signed s _ _)

pub round-zero : (s : Bool) (c : ℕ) → 0 < c → round binary32 s 0 c ≡ fin s 0 (pos 0)
round-zero s c p = round_same binary32 s 0 c 0 1 p (zero-lt-suc 0) (sym (zero-mul c)) ∙ at_one s
  where
    at_one : (s : Bool) → round binary32 s 0 1 ≡ fin s 0 (pos 0)
    at_one s = unfold round units odd in refl

-- ---- sizes: how `le` compares two numbers that are not negative
pub at_most : (a b : ℕ) → a ≤ b → (ltb a b || (eqb a b && true)) ≡ true
at_most a b h = grind arith

pub at-most-back : (a b : ℕ) → (ltb a b || (eqb a b && true)) ≡ true → a ≤ b
at-most-back a b h = grind arith

pub beyond : (a b : ℕ) → (ltb a b || (eqb a b && true)) ≡ false → b < a
beyond a b h = grind arith

pub positive-low : {x : Float} → Signed false x → le none x ≡ true
unfolding le of_bits
positive-low far = refl
positive-low (near m e) = at_most (0 * down e) (m * up e * 1) (le_trans (le_of_eq (zero-mul (down e))) zero-le)

pub negative-high : {x : Float} → Signed true x → le x one ≡ true
unfolding le of_bits
negative-high far = refl
negative-high (near m e) =
    let p : 0 < 1 * down e = mul-pos (zero-lt-suc 0) (down_pos e) in
    rw (lt-ltb 0 (m * up e * 1 + 1 * down e) (omega arith))

pub round-one : round binary32 false 1 1 ≡ one
round-one = unfold round units odd of_bits in refl

pub round-high : (a c : ℕ) → 0 < c → a ≤ c → le (round binary32 false a c) one ≡ true
round-high a c p h =
    is_true _
    (subst (λ (z : Float). T (le (round binary32 false a c) z)) round-one
    (round_mono binary32 a c 1 1 p (zero-lt-suc 0) (le_trans (le_of_eq (mul-one a)) (le_trans h (le_of_eq (sym (one-mul c)))))))

-- ---- sums of two numbers over one denominator
pub sum_same : (s : Bool) (a b c : ℕ) → sum binary32 s a s b c ≡ round binary32 s (a + b) c
unfolding sum
sum_same false a b c = refl
sum_same true a b c = refl

pub sum_more : (s : Bool) (a b c : ℕ) → b ≤ a → sum binary32 s a (not s) b c ≡ round binary32 (s && ltb b a) (a - b) c
unfolding sum
sum_more false a b c h = rw (le-ltb a b h)
sum_more true a b c h = rw (le-ltb a b h)

pub sum_less : (s : Bool) (a b c : ℕ) → a < b → sum binary32 s a (not s) b c ≡ round binary32 (not s) (b - a) c
unfolding sum
sum_less false a b c h = rw (lt-ltb a b h)
sum_less true a b c h = rw (lt-ltb a b h)

module _ (s : Bool) (m : ℕ) (e : ℤ) (t : Bool) (n : ℕ) (d : ℤ) where
  pub add_is : add binary32 (fin s m e) (fin t n d) ≡ sum binary32 s (m * up e * down d) t (n * up d * down e) (down e * down d)
  unfolding add
  add_is = refl

  pub sub_is : sub binary32 (fin s m e) (fin t n d) ≡ sum binary32 s (m * up e * down d) (not t) (n * up d * down e) (down e * down d)
  unfolding sub
  sub_is = refl

  pub div_is : 0 < n → div binary32 (fin s m e) (fin t n d) ≡ round binary32 (unlike s t) (m * up e * down d) (n * up d * down e)
  unfolding div
  div_is h = rw (ne_eqb n 0 (λ z. omega arith))
