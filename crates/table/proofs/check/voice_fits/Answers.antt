use borrow.Author.Rules.{rules}
use Rattle.voice.proofs.Sizes.{copies-long}
use Rattle.table.proofs.Checks.{fits-all, fits-other, fits-not}
use Rattle.table.proofs.check.voice_fits.Goals as goal
use Rattle.table.proofs.check.voice_fits.Goals.{then-v-next, else-v-next}

pub returns-then-v-copies : goal.returns-then-v-copies
returns-then-v-copies c =
    let a = c.if-v-copies.true in
    fits-all _ _ c.args.v (copies-long c.args.v c.well_formed.0) a.0 a.1 a.2 a.3 _ c.stage_fits.ensures

pub returns-else-v-copies : goal.returns-else-v-copies
returns-else-v-copies c =
    let size = copies-long c.args.v c.well_formed.0 in
    elim c.if-v-next.branch [
      | then-v-next w ↦ let a = w.if-v-next.true in fits-other _ _ c.args.v size a.0 a.1 a.2 _ w.t-6-is (search rules)
      | else-v-next w ↦ fits-not _ _ c.args.v size w.if-v-next.either _ (search rules)
    ]
