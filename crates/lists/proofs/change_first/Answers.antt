use Rattle.std.proofs.Common.{arith, refl}
use lib.ListN.{length-take}
use Rattle.lists.specs.Changed.{changed-more, changed-part}
use Rattle.lists.proofs.change_first.Goals as goal

pub loop-item-init : goal.loop-item-init
loop-item-init g c = refl

pub loop-item-preserved : goal.loop-item-preserved
loop-item-preserved g c = changed-more _ _ _ _ _ _ c.loop-item.invariant (let a = c.loop-item.auto in omega arith) c.change.ensures

pub returns : goal.returns
returns g c =
    let a = c.loop-item.auto in
    let size = length-take c.min-end.result c.args.items.now in
    changed-part _ c.loop-item.item-index _ _ _ _ c.min-end.ensures (omega (arith, size)) c.loop-item.invariant
