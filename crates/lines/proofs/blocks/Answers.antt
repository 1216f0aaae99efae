use Rattle.std.proofs.Common.{rules, arith, ◌<◌, ◌++◌, ◌∷◌, [], take, length, length-append, of_calls, inl}
use Rattle.std.proofs.lemmas.Fn.{FoldsTo-push, called_at}
use Rattle.std.proofs.lemmas.List.Elements.{All-push}
use Rattle.lines.proofs.Lines.{Consumes-more, Consumes-none}
use Rattle.lines.proofs.blocks.Goals as goal

pub returns-then-count-eq0 : goal.returns-then-count-eq0
returns-then-count-eq0 g c =
    let so_far = c.loop-turn.invariant.1 in
    let read = c.in_ok-count.ensures.bytes in
    let consumed = Consumes-none (g.R.Read.remaining c.args.input.now) _ _ so_far.0 _ c.read.new.buf c.if-count-eq0.true so_far.4 read.0 in
    (so_far.0, c.loop-turn.each, so_far.1, (so_far.2, consumed, λ room. inl (read.1 c.if-count-eq0.true (search rules))))

pub loop-turn-preserved : goal.loop-turn-preserved
loop-turn-preserved g c =
    let so_far = c.loop-turn.invariant.1 in
    let block = take c.in_ok-count.count c.read.new.buf in
    let full : 0 < length block = omega (arith, c.in_ok-count.ensures.bound, c.if-count-eq0.false) in (
      search of_calls,
      (
        so_far.0 ++ block ∷ [],
        FoldsTo-push _ _ _ _ _ _ so_far.1 (called_at g.F.FnMut c.each.ensures c.in_ok-each.was),
        All-push (λ x. 0 < length x) _ _ so_far.2 full,
        rw so_far.3 at (length-append so_far.0 (block ∷ [])),
        Consumes-more _ _ _ so_far.0 block so_far.4 c.in_ok-count.ensures.bytes.0,
      ),
    )
