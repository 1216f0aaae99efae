-- The order of levels is an order, for every float: of two numbers it is the library's (`below_numbers`).
use Rattle.std.proofs.Common.{◌≡◌, refl, Bool, true, false, arith}
use Rattle.std.specs.Prelude.{Float}
use Rattle.std.specs.Float.{nan, binary32}
use Rattle.std.specs.Float.Ieee.{of_bits, is_nan, lt, le}
use Rattle.std.proofs.lemmas.Float.{lt_irrefl, le_of_lt, le_trans, lt_of_le_of_lt as lt_from_le, T_from_true}
use denote.Floats.{is_true}
use Rattle.float32.specs.Order.{below}
use Rattle.float32.specs.OrderLaws.{OrderOfLevels}
use Rattle.float32.specs.Signs.{le-numbers, not-below}
use Rattle.float32.proofs.Library.{below_from_nan, below_nan, below_numbers}

-- ---- numbers by value
le_of : (x y : Float) → lt x y ≡ true → le x y ≡ true
le_of x y p = is_true _ (le_of_lt x y (T_from_true _ p))

le_through : (x y z : Float) → le x y ≡ true → le y z ≡ true → le x z ≡ true
le_through x y z p q = is_true _ (le_trans x y z (T_from_true _ p) (T_from_true _ q))

not-back : (x y : Float) → le x y ≡ true → lt y x ≡ false
not-back x y p = by (lt y x) refl
  where
    by : (b : Bool) → lt y x ≡ b → lt y x ≡ false
    by true e = absurd (lt_irrefl x (lt_from_le x y x (T_from_true _ p) (T_from_true _ e)))
    by false e = e

by_value_lem : (a b : Float) → lt a b ≡ true → below a b ≡ true
by_value_lem a b h = let n = le-numbers a b (le_of a b h) in grind (arith, h, below_numbers a b n.0 n.1)

-- ---- one of two, and of three
one_way_lem : (a b : Float) → below a b ≡ true → below b a ≡ false
one_way_lem a b h = by (is_nan a) refl (is_nan b) refl
  where
    by : (x : Bool) → is_nan a ≡ x → (y : Bool) → is_nan b ≡ y → below b a ≡ false
    by true p y q = grind (arith, h, below_from_nan a b p)
    by false p true q = below_from_nan b a q
    by false p false q = grind (arith, h, below_numbers a b p q, below_numbers b a q p, le_of a b, not-back a b)

not-above : (a b c : Float) → below b a ≡ false → below c b ≡ false → below c a ≡ false
not-above a b c h k = by (is_nan c) refl (is_nan b) refl (is_nan a) refl
  where
    by : (x : Bool) → is_nan c ≡ x → (y : Bool) → is_nan b ≡ y → (z : Bool) → is_nan a ≡ z → below c a ≡ false
    by true p y q z r = below_from_nan c a p
    by false p true q z r = grind (arith, k, below_nan c b p q)
    by false p false q true r = grind (arith, h, below_nan b a q r)
    by false p false q false r =
        grind (
          arith,
          h,
          k,
          below_numbers b a q r,
          below_numbers c b p q,
          below_numbers c a p r,
          not-below b a q r,
          not-below c b p q,
          not-below a c r p,
          le_through a b c,
          le_through b c a,
          le_through c a b,
          not-back a b,
          not-back b a,
          not-back b c,
          not-back c b,
          not-back a c,
        )

-- ---- zeros and NaN
zeros-apart : below (of_bits binary32 0x8000_0000) (of_bits binary32 0) ≡ true
unfolding below of_bits
zeros-apart = refl

pub level_order : OrderOfLevels
unfolding is_nan
level_order = record {
  by_value = by_value_lem;
  zeros = zeros-apart;
  nan_last = λ a h. below_nan a nan h refl;
  nan_below_none = λ a. below_from_nan nan a refl;
  ordered = record { one_way = one_way_lem; through = not-above };
}
