use Rattle.lists.specs.Changed.{changed-seen}
use Rattle.voice.specs.View.{seen}
use Rattle.voice.specs.Changes.{on_seen}
use Rattle.table.proofs.Edits.{holds-all}
use Rattle.table.proofs.Sizes.{voices-long}
use Rattle.table.proofs.Table.change_all.Goals as goal

pub returns : goal.returns
returns g c = λ f m.
    let t = c.args.self in
    holds-all t (voices-long t c.well_formed.0) _ c.min-count.ensures f _ (changed-seen _ seen (on_seen f) m _ _ _ c.change_first.ensures)
