use borrow.Author.Rules.{rules}
use Rattle.voice.specs.View.{shown}
use Rattle.model.specs.Voices.{sounding}
use Rattle.table.proofs.Adding.{kill-none, kill-nobody, kill-one}
use Rattle.table.proofs.Table.kill_quietest.Goals as goal

pub returns-then-count_of-max : goal.returns-then-count_of-max
unfolding shown
returns-then-count_of-max c =
    let t = c.args.self.now in
    let n = c.count_of.ensures sounding (λ v b p. search rules) in
    kill-none t (search rules) c.requires _ (rw n at c.if-count_of-max.true)

pub returns-in_err-victim : goal.returns-in_err-victim
unfolding shown
returns-in_err-victim c =
    let t = c.args.self.now in
    let n = c.count_of.ensures sounding (λ v b p. search rules) in
    rw c.from_residual.ensures (kill-nobody t (search rules) c.requires _ (rw n at c.if-count_of-max.false) c.in_err-victim.ensures)

pub returns : goal.returns
unfolding shown
returns c =
    let t = c.args.self.now in
    let n = c.count_of.ensures sounding (λ v b p. search rules) in
    kill-one t (search rules) c.requires _ (rw n at c.if-count_of-max.false) c.in_ok-victim.victim c.in_ok-victim.ensures _ c.killed.ensures
