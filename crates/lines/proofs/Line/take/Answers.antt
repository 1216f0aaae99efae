use Rattle.std.proofs.Common.{rules, length, ◌≡◌, ◌<◌, ◌++◌, ◌∷◌, [], take, take_all, of_calls, get_or, Ok}
use mathlib.Core.Path.{◌∙◌, ap, sym, subst}
use Rattle.std.proofs.lemmas.List.Sums.{fold_more}
use Rattle.std.specs.Fn.{Called, CalledAt}
use Rattle.std.specs.List.{fold}
use Rattle.lines.specs.Lines.{after}
use Rattle.std.proofs.lemmas.Fn.{FoldsTo-push}
use Rattle.lines.proofs.Lines.{after-feed, after-other}
use Rattle.lines.proofs.Line.take.Goals as goal
use Rattle.lines.proofs.Line.take.Goals.{then-byte-eq10+in_ok-each, else-byte-eq10}

pub loop-byte-preserved : goal.loop-byte-preserved
loop-byte-preserved g c =
    let inside : c.loop-byte.byte-index < length c.args.block.now = search rules in
    let byte = get_or c.args.block.now c.loop-byte.byte-index 0 in
    let before = fold (after g.row.N) ([], c.args.self.now) (take c.loop-byte.byte-index c.args.block.now) in
    let more = fold_more (after g.row.N) ([], c.args.self.now) c.args.block.now c.loop-byte.byte-index 0 inside in
    elim c.if-byte-eq10.branch [
      | then-byte-eq10+in_ok-each w ↦
          let next = more ∙ after-feed g.row.N before byte (search rules) in
          let called : CalledAt g.F.FnMut c.loop-byte.each before.1 (Ok tt) w.each.new.self =
          record {
            shown = w.text.result;
            shows = w.text.ensures ∙ c.loop-byte.invariant.1;
            called = subst (λ r. Called g.F.FnMut c.loop-byte.each (w.text.result, tt) r w.each.new.self) w.in_ok-each.was w.each.ensures;
          } in (
            search of_calls,
            w.self-is ∙ w.clear.ensures ∙ sym (ap (λ s. s.1) next),
            rw (next, w.each-is) (FoldsTo-push _ _ _ _ _ _ c.loop-byte.invariant.2 called),
          )
      | else-byte-eq10 w ↦
          let next = more ∙ after-other g.row.N before byte (search rules) in (
            search of_calls,
            w.self-is ∙ w.push.ensures ∙ ap (λ l. take g.row.N (l ++ byte ∷ [])) (search rules) ∙ sym (ap (λ s. s.1) next),
            rw (next, w.each-is) c.loop-byte.invariant.2,
          )
    ]

pub returns-clause-lines : goal.returns-clause-lines
returns-clause-lines g c =
    let whole : take c.loop-byte.byte-index c.args.block.now ≡ c.args.block.now = take_all _ _ (search rules) in
    (c.loop-byte.each, rw whole at c.loop-byte.invariant.2)
