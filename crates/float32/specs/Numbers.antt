-- The helpers on floats, as document 01 fixes them ("Forms in this Rust that stand in the way"; "Copies, Plan and Mix", the sentence on two zeros).
-- Each is total: a float is a number with its sign, an infinity or the one NaN.
use Rattle.std.specs.Prelude.{◌&&◌, cond, ◌*◌, ◌/◌, Float}
use Rattle.std.specs.Float.{nan, inf, fin, binary32}
use Rattle.std.specs.Float.Ieee.{of_bits, is_nan, eq, lt, sub, round, up, down}

abbrev pub zero : Float
zero = of_bits binary32 0

abbrev pub one : Float
one = of_bits binary32 0x3f80_0000

-- f32 `max`: a NaN gives the other, and two zeros give +0
unfoldable pub max_of : Float → Float → Float
max_of a b = cond (is_nan a) b (cond (is_nan b) a (cond (eq a zero && eq b zero) zero (cond (lt a b) b a)))

-- f32 `min`: a NaN gives the other
unfoldable pub min_of : Float → Float → Float
min_of a b = cond (is_nan a) b (cond (is_nan b) a (cond (lt b a) b a))

-- f32 `clamp`: what is below the low bound becomes it, what is above the high bound becomes that; -0 is not below 0, and a NaN is neither
unfoldable pub clamp_of : Float → Float → Float → Float
clamp_of x low high = cond (lt x low) low (cond (lt high x) high x)

-- the whole part, cut toward zero, with x's sign
unfoldable pub whole_part : Float → Float
whole_part nan = nan
whole_part (inf s) = inf s
whole_part (fin s m e) = round binary32 s (m * up e / down e) 1

-- f32 `fract`: x minus its whole part, so a NaN for an infinity and for a NaN
unfoldable pub fract_of : Float → Float
fract_of x = sub binary32 x (whole_part x)
