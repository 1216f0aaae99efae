use Rattle.text.proofs.Spells.{Glyphing}
use Rattle.text.proofs.spell_word.Given as goal

abbrev pub invariant-loop-i : goal.invariant-loop-i
invariant-loop-i l = Glyphing l.n l.digits l.rest l.i
