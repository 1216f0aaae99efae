-- A voice with other copies, where they stood.
use mathlib.Core.Path.{◌≡◌, ap, sym, ◌∙◌}
use mathlib.Core.List.{List, map}
use lib.ListN.{take}
use Rattle.std.proofs.lemmas.List.{map-id}
use Rattle.stream.specs.declared.UnisonCopy.{UnisonCopy}
use Rattle.model.specs.Voices.{with_copies, with_voice}
use Rattle.voice.specs.declared.Voice.{Voice}
use Rattle.voice.specs.View.{shown, seen}
use Rattle.voice.specs.Changes.{on_seen}

unfoldable pub copied : Voice → List UnisonCopy → Voice
copied v cs = record {
  handle = v.handle;
  note = v.note;
  copies = cs;
  copy_count = v.copy_count;
  built_hz = v.built_hz;
  env = v.env;
  gain = v.gain;
  releasing = v.releasing;
  sustained = v.sustained;
}

pub copied_seen : (f : UnisonCopy → UnisonCopy) (v : Voice) (cs : List UnisonCopy)
    → map (λ (c : UnisonCopy). c) (take v.copy_count cs) ≡ map f (map (λ (c : UnisonCopy). c) (take v.copy_count v.copies)) → seen (copied v cs) ≡ on_seen (with_copies f) (seen v)
unfolding seen shown on_seen with_copies with_voice copied
copied_seen f v cs e =
    let q : take v.copy_count cs ≡ map f (take v.copy_count v.copies) = sym (map-id _) ∙ (e ∙ ap (map f) (map-id _)) in
    rw q
