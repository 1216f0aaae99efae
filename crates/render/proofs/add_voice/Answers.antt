use mathlib.Core.Path.{◌≡◌, sym, ◌∙◌}
use native.Mathlib.Omega.{arith}
use borrow.Author.Tests.{leb-true}
use lib.ListN.{length, take, length-take}
use Rattle.std.proofs.lemmas.List.{take_rest}
use Rattle.model.specs.Mix.{on_left, on_right}
use Rattle.voice.specs.View.{shown}
use Rattle.render.specs.Mixes.{Fits}
use Rattle.render.proofs.Parts.{front-added}
use Rattle.render.proofs.add_voice.Goals as goal

pub returns-then-stand_from : goal.returns-then-stand_from
returns-then-stand_from c =
    let x = c.args in
    let part : length (take x.n x.left.now) ≡ x.n = simp length-take (omega arith) in
    let e = rw (part, take_rest x.samples.now x.p) at c.add_parts.ensures in
    let room = leb-true _ _ (sym c.stand_from.ensures ∙ c.if-stand_from.true) in
    let fits : Fits x.v x.n x.p x.samples.now x.left.now x.right.now = record {
      frames = omega arith;
      inputs = rw c.copies_shown.ensures.1 at room;
      left_sums = omega arith;
      right_sums = omega arith;
    } in
    record {
      env = λ _. e.0;
      left_sums = λ _. front-added on_left x.n x.trem _ x.left.now _ (shown x.v) e.1.on_left;
      right_sums = λ _. front-added on_right x.n x.trem _ x.right.now _ (shown x.v) e.1.on_right;
      refused = λ f. absurd (f fits);
    }
