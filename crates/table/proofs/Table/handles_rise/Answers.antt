use borrow.Author.Rules.{rules}
use lib.Dec.{ltb}
use Rattle.std.proofs.lemmas.List.Sorted.{answers_always}
use Rattle.table.proofs.Handles.{rising}
use Rattle.table.proofs.Table.handles_rise.Goals as goal

pub returns : goal.returns
returns c =
    rising c.live.result.now c.args.self.now c.live.ensures _ (c.is_sorted_by.ensures.cases (λ v w. ltb v.handle w.handle) (answers_always _ _ _ (λ f a r q k. search rules)))
