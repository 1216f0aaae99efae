-- The order of levels (document 01, "mod.rs": quietest is by level in `total_cmp` order; a NaN counts above every number, all NaNs alike).
use Rattle.std.specs.Prelude.{Bool, true, false, ◌*◌, ltb, Float}
use Rattle.std.specs.Float.{nan, inf, fin}
use Rattle.std.specs.Float.Ieee.{up, down}

-- of two numbers without their signs, the first is smaller
unfoldable pub smaller : Float → Float → Bool
smaller nan b = false
smaller (inf s) b = false
smaller (fin s m e) nan = false
smaller (fin s m e) (inf t) = true
smaller (fin s m e) (fin t n d) = ltb (m * up e * down d) (n * up d * down e)

-- a with the sign s is below b with the sign t: a negative number is below a positive one, also where both are zeros
abbrev pub below_by_sign : Bool → Bool → Float → Float → Bool
below_by_sign false false a b = smaller a b
below_by_sign false true a b = false
below_by_sign true false a b = true
below_by_sign true true a b = smaller b a

-- a is below b
unfoldable pub below : Float → Float → Bool
below nan b = false
below (inf s) nan = true
below (inf s) (inf t) = below_by_sign s t (inf s) (inf t)
below (inf s) (fin t n d) = below_by_sign s t (inf s) (fin t n d)
below (fin s m e) nan = true
below (fin s m e) (inf t) = below_by_sign s t (fin s m e) (inf t)
below (fin s m e) (fin t n d) = below_by_sign s t (fin s m e) (fin t n d)
