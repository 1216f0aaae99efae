use borrow.Author.Rules.{rules}
use Rattle.std.proofs.lemmas.Iterator.{YieldsList-from_slice}
use Rattle.std.proofs.lemmas.Iterator.Consumers.{YieldsList-from_filter, YieldsList-from_enumerate}
use Rattle.voice.specs.View.{shown}
use Rattle.table.proofs.Searches.{quietest-found, reduced, kept}
use Rattle.table.proofs.Table.quietest_by.Goals as goal

pub returns : goal.returns
returns g c = λ p d.
    let vs = c.live.result.now in
    quietest-found p vs c.args.self.now c.live.ensures c.reduce.result
    (reduced _ _ (kept p vs) _ (λ a x r q k. search rules) c.reduce.result c.reduce.ensures.ran
    (YieldsList-from_filter _ (λ w. p (shown w.1)) (YieldsList-from_enumerate (YieldsList-from_slice vs cc) cc) c.filter.ensures.closure
    (λ x b q k. let s = k.shows in let e = k.called in rw (← s) (search (rules, d)))))
    c.map.result c.map.ensures.cases (λ x n k. search rules)
