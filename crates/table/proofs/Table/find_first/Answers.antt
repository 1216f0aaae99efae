use borrow.Author.Rules.{rules}
use Rattle.std.proofs.lemmas.Iterator.{YieldsList-from_slice}
use Rattle.std.proofs.lemmas.Iterator.Search.{position_from_yields_List}
use Rattle.voice.specs.View.{shown}
use Rattle.table.proofs.Searches.{found}
use Rattle.table.proofs.Table.find_first.Goals as goal

pub returns : goal.returns
returns g c = λ p d.
    found p c.live.result.now c.args.self.now c.live.ensures _
    (position_from_yields_List (λ v. p (shown v)) _ _ c.position.result c.position.ensures.ran (YieldsList-from_slice _ c.iter.ensures.rest) (λ x b q k. search (rules, d)))
