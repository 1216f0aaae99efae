use borrow.Author.Rules.{rules}
use Rattle.table.proofs.Searches.{found-last}
use Rattle.table.proofs.Table.find_last.Goals as goal

pub returns : goal.returns
returns g c = λ p d.
    let run = c.rposition.ensures.runs in
    let rest = c.iter.ensures.rest in
    let back = rw (run.1, rest) at (c.iter.ensures.runs_back run.0 run.0.seen) in
    found-last p c.live.result.now c.args.self.now c.live.ensures run.0 back c.rposition.result (rw rest at c.rposition.ensures.bound) (rw rest at run.2)
    (λ x b q k. search (rules, d))
