use Rattle.std.proofs.Common.{rules, map, sym, ap, length, ◌∙◌}
use Rattle.std.proofs.lemmas.Iterator.{same_from_all, YieldsList-from_zip}
use borrow.Author.Tests.{tests, eqb-true}
use Rattle.std.proofs.lemmas.List.{length-map}
use Rattle.equal_states.proofs.Prefixes.{yields_shown}
use Rattle.equal_states.proofs.all_alike.Goals as goal

pub returns-then-a-b : goal.returns-then-a-b
returns-then-a-b g c =
    let f = g.T.Alike.shown in
    let xs = c.args.a.now in
    let ys = c.args.b.now in
    let one = length-map xs f ∙ c.if-a-b.true ∙ sym (length-map ys f) in
    let zipped = YieldsList-from_zip (yields_shown f xs (search rules)) (yields_shown f ys (search rules)) in
    same_from_all c.all.new.self _ c.all.result (map f xs) (map f ys) c.all.ensures.ran zipped one (λ x q k. search (rules, tests)) (λ x q k. search (rules, tests))

pub returns-else-a-b : goal.returns-else-a-b
returns-else-a-b g c =
    let f = g.T.Alike.shown in
    (λ t. absurd (c.if-a-b.false (eqb-true _ _ t)), λ e. absurd (c.if-a-b.false (sym (length-map _ f) ∙ ap length e ∙ length-map _ f)))
