use Rattle.std.proofs.Common.{◌≡◌, true, false, rules, tests}
use Rattle.wire.specs.Reads.{numbered}
use Rattle.host.proofs.Laws.{unread-outcome, hosted}
use Rattle.host.proofs.hosted.Goals as goal

pub returns-then-not-is_numbered : goal.returns-then-not-is_numbered
returns-then-not-is_numbered g c = λ call made.
    let k : numbered c.args.h.now ≡ false = search (rules, tests) in
    unread-outcome _ k call _ c.refused.ensures

pub returns : goal.returns
returns g c = λ call made.
    let k : numbered c.args.h.now ≡ true = search (rules, tests) in
    let m = c.called.ensures in
    hosted _ _ k m.1 call _ _ _ _ (made _ _ m.2) c.outcome.ensures
