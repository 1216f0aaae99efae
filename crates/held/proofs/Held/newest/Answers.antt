use borrow.Author.Rules.{rules}
use Rattle.held.proofs.Holding.{newest-of}
use Rattle.held.proofs.Held.newest.Goals as goal

pub returns : goal.returns
returns c =
    let e = newest-of c.as_slice.result.now c.last.result _ _ c.last.ensures.value c.map.ensures.cases (λ x k p. search rules) in rw c.as_slice.ensures at e
