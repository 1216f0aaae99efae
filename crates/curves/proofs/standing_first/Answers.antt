use Rattle.std.proofs.Common.{rules, tests}
use Rattle.std.proofs.lemmas.Iterator.{IsFirst-from_position, YieldsList-from_slice}
use Rattle.curves.proofs.Standing.{Still, head-stands}
use Rattle.curves.proofs.standing_first.Goals as goal

pub returns : goal.returns
returns c =
    let cs = c.args.copies.now in
    let first = IsFirst-from_position _ _ c.position.result (λ _. Unit {0}) Still c.position.ensures.ran (YieldsList-from_slice cs cc) (λ x q k. tt)
    (λ x q k. search (rules, tests)) in
    rw c.unwrap_or.ensures (head-stands cs c.position.result first)
