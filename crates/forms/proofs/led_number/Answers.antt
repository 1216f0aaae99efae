use mathlib.Core.Path.{refl}
use native.Mathlib.Omega.{arith}
use Rattle.forms.proofs.led_number.Goals as goal

pub overflow_cast-result : goal.overflow_cast-result
overflow_cast-result c = omega (arith, (c.in_ok-n.ensures.yes _ _ refl).fits)
