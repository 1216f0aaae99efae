use Rattle.table.proofs.Edits.{holds-changed, holds-unchanged}
use Rattle.table.proofs.Sizes.{voices-long}
use Rattle.table.proofs.Table.change_at.Goals as goal
use Rattle.table.proofs.Table.change_at.Goals.{then-place-self, else-place-self}

pub returns : goal.returns
returns g c = λ f m.
    let t = c.args.self in
    let long = voices-long t c.well_formed.0 in
    elim c.if-place-self.branch [
      | then-place-self w ↦ rw w.self-is (holds-changed t long _ c.min.ensures f _ _ w.if-place-self.true (m _ _ w.change.ensures))
      | else-place-self w ↦ rw w.self-is (holds-unchanged t long _ c.min.ensures f _ w.if-place-self.false)
    ]
