-- The library's words for a float against this crate's.
use Rattle.std.proofs.Common.{◌≡◌, refl, Bool, true, false, cond, is_lt, Less, Equal, Greater}
use Rattle.std.specs.Prelude.{Float}
use Rattle.std.specs.Float.{nan, inf, fin, binary32, trunc, round_with, float_is_finite, is_sign_negative, total_cmp}
use Rattle.std.specs.Float.Ieee.{is_nan, lt}
use Rattle.std.specs.Float.Ieee.Scale.{finite}
use Rattle.float32.specs.Numbers.{whole_part}
use Rattle.float32.specs.Order.{below, smaller}

-- both take every float that is a number
pub finite_alike : (x : Float) → float_is_finite x ≡ finite x
unfolding float_is_finite
finite_alike nan = refl
finite_alike (inf s) = refl
finite_alike (fin s m e) = refl

-- both cut toward zero; the library's goes by the sign too
pub whole_alike : (x : Float) → whole_part x ≡ trunc binary32 x
unfolding whole_part round_with
whole_alike nan = refl
whole_alike (inf s) = refl
whole_alike (fin false m e) = refl
whole_alike (fin true m e) = refl

-- ---- the order of levels
pub below_from_nan : (a b : Float) → is_nan a ≡ true → below a b ≡ false
unfolding is_nan below
below_from_nan nan b e = refl
below_from_nan (inf s) b e = cc
below_from_nan (fin s m x) b e = cc

pub below_nan : (a b : Float) → is_nan a ≡ false → is_nan b ≡ true → below a b ≡ true
unfolding is_nan below
below_nan nan b e f = cc
below_nan a (inf s) e f = cc
below_nan a (fin s m x) e f = cc
below_nan (inf s) nan e f = refl
below_nan (fin s m x) nan e f = refl

-- two numbers of one sign, of unlike signs
one_sign : (x y : Bool) → is_lt (cond x Less (cond y Greater Equal)) ≡ x
one_sign true y = refl
one_sign false true = refl
one_sign false false = refl

plus_minus : (y : Bool) → is_lt (cond y Greater Greater) ≡ false
plus_minus true = refl
plus_minus false = refl

minus_plus : (x : Bool) → is_lt (cond x Less Less) ≡ true
minus_plus true = refl
minus_plus false = refl

-- of two numbers the library's order is that of levels
pub below_numbers : (a b : Float) → is_nan a ≡ false → is_nan b ≡ false → below a b ≡ is_lt (total_cmp a b)
unfolding is_nan lt below smaller is_sign_negative
below_numbers nan b p q = cc
below_numbers (inf s) nan p q = cc
below_numbers (fin s m e) nan p q = cc
below_numbers (inf false) (inf false) p q = refl
below_numbers (inf false) (inf true) p q = refl
below_numbers (inf true) (inf false) p q = refl
below_numbers (inf true) (inf true) p q = refl
below_numbers (inf false) (fin false n d) p q = refl
below_numbers (inf false) (fin true n d) p q = refl
below_numbers (inf true) (fin false n d) p q = refl
below_numbers (inf true) (fin true n d) p q = refl
below_numbers (fin false m e) (inf false) p q = refl
below_numbers (fin false m e) (inf true) p q = refl
below_numbers (fin true m e) (inf false) p q = refl
below_numbers (fin true m e) (inf true) p q = refl
below_numbers (fin false m e) (fin false n d) p q = simp one_sign
below_numbers (fin true m e) (fin true n d) p q = simp one_sign
below_numbers (fin false m e) (fin true n d) p q = simp plus_minus
below_numbers (fin true m e) (fin false n d) p q = simp minus_plus
