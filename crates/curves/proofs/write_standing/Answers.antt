use mathlib.Core.Path.{ap, ◌∙◌}
use Rattle.curves.specs.Glides.{flat_curve}
use Rattle.curves.proofs.Glides.{fits}
use Rattle.curves.proofs.Standing.{copies-shown}
use Rattle.curves.proofs.write_standing.Goals as goal

pub returns : goal.returns
returns c =
    let n = c.copies_shown-n in
    let whole = fits _ _ _ _ _ c.fills.ensures n.ensures.1 c.if-not-fills.false in
    record {
      numbers = λ _. c.write_flat.ensures ∙ ap (flat_curve c.args.frames) (copies-shown c.args.v n.result n.ensures.1);
      other = λ no. absurd (no whole);
    }
