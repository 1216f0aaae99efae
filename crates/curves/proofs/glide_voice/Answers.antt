use mathlib.Core.Path.{ap, ◌∙◌}
use mathlib.Core.List.{flat_map}
use Rattle.model.specs.Voices.{with_copies, with_voice}
use Rattle.stream.specs.Pitch.{glided, curve as curve_of}
use Rattle.voice.specs.View.{shown, seen}
use Rattle.voice.specs.Changes.{on_seen}
use Rattle.curves.proofs.Glides.{fits}
use Rattle.curves.proofs.Standing.{copies-shown, copies-back}
use Rattle.curves.proofs.glide_voice.Goals as goal

pub returns-then-fills : goal.returns-then-fills
unfolding seen shown on_seen with_copies with_voice
returns-then-fills c =
    let a = c.args in
    let n = c.copies_shown-n in
    let g = c.glide_copies.ensures in
    let fitting = fits _ _ _ _ _ c.fills.ensures n.ensures.1 c.if-fills.true in
    record {
      voice = λ _. rw (copies-back a.v (glided a.frames) n.result _ n.ensures.1 g.copies);
      numbers = λ _. g.numbers ∙ ap (flat_map (curve_of a.frames)) (copies-shown a.v n.result n.ensures.1);
      other = λ no. absurd (no fitting);
    }
