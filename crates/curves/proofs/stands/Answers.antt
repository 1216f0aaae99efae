use Rattle.std.proofs.Common.{take, rules, tests}
use Rattle.std.proofs.lemmas.Iterator.{cases_from_all, YieldsList-from_slice}
use Rattle.curves.proofs.Standing.{Still, Moves, moving, copies-shown, stands-by}
use Rattle.curves.proofs.stands.Goals as goal

pub returns : goal.returns
returns c =
    let v = c.args.v in
    let n = c.copies_shown-n in
    let asked = cases_from_all _ _ _ Still Moves c.all.ensures.ran (YieldsList-from_slice (take n.result v.copies) cc)
    (λ x q k. search (rules, tests)) (λ x q k. moving _ (search (rules, tests))) in
    stands-by v _ _ (copies-shown v n.result n.ensures.1) asked
