use borrow.Author.Rules.{rules}
use lib.Dec.{leb}
use Rattle.std.proofs.lemmas.Iterator.{YieldsList-from_slice}
use Rattle.std.proofs.lemmas.Iterator.Search.{all_from_yields_List}
use Rattle.lists.specs.Count.{count}
use Rattle.model.specs.Voices.{handles, has_handle}
use Rattle.table.specs.View.{voices_in}
use Rattle.table.proofs.Handles.{rise-settles, all-lone}
use Rattle.table.proofs.Table.handles_distinct.Goals as goal

pub returns-then-handles_rise : goal.returns-then-handles_rise
returns-then-handles_rise c = rise-settles (handles (voices_in c.args.self.now)) _ c.handles_rise.ensures c.if-handles_rise.true

pub returns-else-handles_rise : goal.returns-else-handles_rise
returns-else-handles_rise c =
    let t = c.args.self.now in
    all-lone c.live.result.now t c.live.ensures _
    (all_from_yields_List (λ v. leb (count (has_handle v.handle) (voices_in t)) 1) _ _ c.all.result c.all.ensures.ran (YieldsList-from_slice _ c.iter.ensures.rest) (λ x b q k. search rules))
