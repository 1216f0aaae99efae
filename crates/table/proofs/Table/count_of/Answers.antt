use borrow.Author.Rules.{rules}
use Rattle.std.proofs.lemmas.Iterator.{YieldsList-from_slice}
use Rattle.std.proofs.lemmas.Iterator.Consumers.{YieldsList-from_filter, count_from_yields_List}
use Rattle.voice.specs.View.{shown}
use Rattle.table.proofs.Searches.{counted}
use Rattle.table.proofs.Table.count_of.Goals as goal

pub returns : goal.returns
returns g c = λ p d.
    counted p c.live.result.now c.args.self.now c.live.ensures _
    (count_from_yields_List c.filter.result c.count.result c.count.ensures.ran
    (YieldsList-from_filter _ (λ v. p (shown v)) (YieldsList-from_slice c.live.result.now cc) c.filter.ensures.closure
    (λ x b q k. let s = k.shows in let e = k.called in rw (← s) (search (rules, d)))))
