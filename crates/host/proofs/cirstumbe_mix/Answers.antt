use Rattle.std.proofs.Common.{◌≡◌, true, false, refl, rules, tests, ◌∙◌}
use Rattle.wire.specs.Reads.{numbered}
use Rattle.host.proofs.Laws.{unread-call, unread-report, unread-lent, hosted, hosted-report, same-lent}
use Rattle.host.proofs.cirstumbe_mix.Goals as goal

pub returns-then-not-is_numbered : goal.returns-then-not-is_numbered
returns-then-not-is_numbered c =
    let k : numbered c.args.h ≡ false = search (rules, tests) in
    rw c.unmixed.ensures (record { call = unread-call _ k _ _ refl; report = unread-report _ k _; lent = unread-lent _ k _ })

pub returns : goal.returns
returns c =
    let k : numbered c.args.h ≡ true = search (rules, tests) in
    let from = c.state.ensures in
    let m = c.mix.ensures in
    let o = c.mix_outcome.ensures in
    record {
      call = hosted _ _ k from _ _ _ _ _ m.call o.hosted;
      report = o.reported ∙ hosted-report _ _ k from _ _ _ _ m;
      lent = m.lent ∙ same-lent _ _ k from _;
    }
