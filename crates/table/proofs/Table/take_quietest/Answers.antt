use Rattle.table.proofs.Adding.{take-nobody, take-one}
use borrow.Author.Rules.{rules}
use Rattle.table.proofs.Table.take_quietest.Goals as goal

pub returns-in_err-victim : goal.returns-in_err-victim
returns-in_err-victim c =
    let t = c.args.self.now in
    rw c.from_residual.ensures (take-nobody t (search rules) c.requires _ c.if-self-max.false c.in_err-victim.ensures)

pub returns : goal.returns
returns c =
    let t = c.args.self.now in
    rw c.copy_within.ensures.after (take-one t (search rules) c.requires _ c.if-self-max.false c.in_ok-victim.victim c.in_ok-victim.ensures)
