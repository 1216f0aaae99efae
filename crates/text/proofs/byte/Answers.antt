use mathlib.Core.Path.{refl}
use native.Mathlib.Omega.{arith}
use Rattle.text.proofs.byte.Goals as goal

-- two digits are below 256
pub overflow_cast-result : goal.overflow_cast-result
overflow_cast-result c = omega (arith, (c.in_ok-value.ensures.yes _ _ refl).fits)
