use Rattle.table.proofs.Edits.{holds_pushed, holds-full}
use Rattle.table.proofs.Sizes.{voices-long}
use Rattle.table.proofs.Table.push.Goals as goal

pub returns-then-end-lt64 : goal.returns-then-end-lt64
returns-then-end-lt64 c =
    let t = c.args.self in
    holds_pushed t (voices-long t c.well_formed.0) _ c.min-end.ensures _ c.if-end-lt64.true

pub returns-else-end-lt64 : goal.returns-else-end-lt64
returns-else-end-lt64 c =
    let t = c.args.self in
    holds-full t (voices-long t c.well_formed.0) _ c.min-end.ensures _ c.if-end-lt64.false
