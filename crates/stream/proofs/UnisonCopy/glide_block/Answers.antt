use Rattle.std.proofs.Common.{refl, arith}
use Rattle.stream.specs.Pitch.{pitched, stepped, heard, glide_step}
use Rattle.stream.proofs.Glides.{glide-start, glide-more, glide-end}
use Rattle.stream.proofs.UnisonCopy.glide_block.Goals as goal

pub loop-place-init : goal.loop-place-init
loop-place-init c = glide-start c.args.self c.args.out.now

pub loop-place-preserved : goal.loop-place-preserved
unfolding heard pitched stepped glide_step
loop-place-preserved c =
    let size = c.loop-place.auto in
    glide-more c.args.self c.loop-place.place-index c.loop-place.pitch _ c.args.out.now c.loop-place.place-items (omega arith) refl c.loop-place.invariant

pub returns : goal.returns
unfolding pitched
returns c =
    glide-end c.args.self c.loop-place.place-index c.loop-place.pitch c.args.out.now c.loop-place.place-items (let size = c.loop-place.auto in omega arith) c.loop-place.invariant
