use mathlib.Core.Path.{refl}
use Rattle.text.proofs.Spells.{glyphing-none}
use Rattle.text.proofs.spell_word.Goals as goal

-- `text::spell_word` meets its contract: `Glyphing` holds of the digits that stand in the array.

pub loop-i-init : goal.loop-i-init
loop-i-init c = glyphing-none _ _ refl
