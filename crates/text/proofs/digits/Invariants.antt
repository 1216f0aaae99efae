use Rattle.text.proofs.Words.{Spelling}
use Rattle.text.proofs.digits.Given as goal

abbrev pub invariant-loop-byte : goal.invariant-loop-byte
invariant-loop-byte g l = Spelling l.digits l.value l.byte-index
