use Rattle.text.proofs.Spells.{Figuring}
use Rattle.text.proofs.spell_decimal.Given as goal

abbrev pub invariant-loop-i : goal.invariant-loop-i
invariant-loop-i l = Figuring l.n l.buffer l.rest l.i
