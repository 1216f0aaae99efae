use Rattle.std.proofs.Common.{arith, ◌<◌, length, ◌∙◌}
use Rattle.std.proofs.lemmas.List.{length-set}
use Rattle.wire.proofs.Loops.{made-more}
use Rattle.wire.proofs.first_made.Goals as goal

pub loop-j-preserved : goal.loop-j-preserved
loop-j-preserved g c =
    let size = c.loop-j.invariant.0 in
    let h : c.loop-j.j < length c.args.items.now = omega arith in
    (length-set _ _ _ ∙ size, made-more _ _ _ c.loop-j.j c.index-items-j.result _ h (rw size h) c.make.ensures c.loop-j.invariant.1)
