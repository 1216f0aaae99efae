use borrow.Author.Rules.{rules}
use Rattle.held.proofs.Holding.{with-room, with-full}
use Rattle.held.proofs.Held.with.Goals as goal

pub returns-then-held-ge256 : goal.returns-then-held-ge256
returns-then-held-ge256 c = with-full _ _ c.without-held.result (search rules) c.without-held.ensures c.if-held-ge256.true

pub returns : goal.returns
returns c = with-room _ _ c.without-held.result (search rules) c.without-held.ensures c.ranges.note.fits c.if-held-ge256.false
