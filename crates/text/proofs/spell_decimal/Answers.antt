use native.Mathlib.Omega.{arith}
use Rattle.text.proofs.Spells.{figuring-more}
use Rattle.text.proofs.spell_decimal.Goals as goal

-- `text::spell_decimal` meets its contract: `Figuring` holds of the digits that stand in the buffer.

pub loop-i-preserved : goal.loop-i-preserved
loop-i-preserved c = figuring-more _ _ _ _ _ c.loop-i.invariant (omega arith) (omega arith)
