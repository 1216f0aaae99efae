-- What ties the order of levels to IEEE 754's comparison, so that a reader need not take `below` on trust.
use Rattle.std.specs.Prelude.{◌≡◌, true, false, Float}
use Rattle.std.specs.Float.{nan, binary32}
use Rattle.std.specs.Float.Ieee.{of_bits, is_nan, lt}
use Rattle.float32.specs.Numbers.{zero}
use Rattle.float32.specs.Order.{below}
use Rattle.lists.specs.Least.{Ordered}

-- the order of levels: a number below another by value is below it; -0 is below +0; a NaN is above every number and below nothing;
-- it never holds both ways, and not being above is transitive
pub record OrderOfLevels : Type 0 where
  pub by_value : (a b : Float) → lt a b ≡ true → below a b ≡ true
  pub zeros : below (of_bits binary32 0x8000_0000) zero ≡ true
  pub nan_last : (a : Float) → is_nan a ≡ false → below a nan ≡ true
  pub nan_below_none : (a : Float) → below nan a ≡ false
  pub ordered : Ordered below
