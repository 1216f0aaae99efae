use borrow.Author.Rules.{rules}
use Rattle.std.proofs.lemmas.Iterator.{YieldsList-from_slice}
use Rattle.std.proofs.lemmas.Iterator.Search.{all_from_yields_List}
use Rattle.voice.specs.View.{seen}
use Rattle.table.specs.Check.{voice_fits}
use Rattle.table.proofs.Handles.{all-seen}
use Rattle.table.proofs.Table.voices_fit.Goals as goal

pub returns : goal.returns
returns c =
    all-seen (voice_fits c.args.next c.args.copies) c.live.result.now _ c.live.ensures _
    (all_from_yields_List (λ v. voice_fits c.args.next c.args.copies (seen v)) _ _ c.all.result c.all.ensures.ran (YieldsList-from_slice _ c.iter.ensures.rest) (λ x b q k. search rules))
