use Rattle.stream.proofs.Glides.{Glide}
use Rattle.stream.proofs.UnisonCopy.glide_block.Given as goal

abbrev pub invariant-loop-place : goal.invariant-loop-place
invariant-loop-place l = Glide l.self l.place-index l.pitch l.initial.place-items l.place-items
