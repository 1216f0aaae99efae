use borrow.Author.Rules.{rules}
use Rattle.table.proofs.Searches.{handle-of}
use Rattle.table.proofs.Table.handle_at.Goals as goal

pub returns : goal.returns
returns c =
    handle-of c.live.result.now c.args.self.now c.live.ensures c.args.place c.get.result c.get.ensures.lookup.3 c.map.result c.map.ensures.cases
    (λ x n e. search rules)
