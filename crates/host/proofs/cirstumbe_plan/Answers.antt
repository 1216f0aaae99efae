use Rattle.std.proofs.Common.{◌≡◌, true, false, rules, tests, ◌∙◌}
use Rattle.wire.specs.Reads.{numbered}
use Rattle.host.proofs.Laws.{unread-outcome, unread-lent, hosted, same-lent}
use Rattle.host.proofs.cirstumbe_plan.Goals as goal

pub returns-then-not-is_numbered : goal.returns-then-not-is_numbered
returns-then-not-is_numbered c =
    let k : numbered c.args.h ≡ false = search (rules, tests) in
    record { call = unread-outcome _ k _ _ c.refused.ensures; lent = unread-lent _ k _ }

pub returns : goal.returns
returns c =
    let k : numbered c.args.h ≡ true = search (rules, tests) in
    let from = c.state.ensures in
    let p = c.planned-made.ensures in
    record { call = hosted _ _ k from _ _ _ _ _ p.call c.outcome.ensures; lent = p.lent ∙ same-lent _ _ k from _ }
