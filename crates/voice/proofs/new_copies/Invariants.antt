use mathlib.Core.Path.{◌≡◌}
use lib.ListN.{take}
use Rattle.voice.specs.New.{made_copies}
use Rattle.voice.proofs.new_copies.Given as goal

abbrev pub invariant-loop-k : goal.invariant-loop-k
invariant-loop-k l = take l.k l.copy-items ≡ made_copies l.width l.bend l.brightness l.n l.k
