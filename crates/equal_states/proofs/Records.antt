-- The parts of a voice, and the voice that is seen.
use mathlib.Core.Path.{◌≡◌, ap}
use Rattle.model.specs.Types as model
use Rattle.voice.specs.View.{Seen, seen, shown}
use Rattle.voice.specs.declared.Voice.{Voice}
use Rattle.equal_states.specs.Same.{copies_shown}

module _ (a b : Voice) where
  pub voice_same : a.handle ≡ b.handle → a.note.0 ≡ b.note.0 → copies_shown a ≡ copies_shown b → a.built_hz ≡ b.built_hz → a.env ≡ b.env → a.gain ≡ b.gain
      → a.releasing ≡ b.releasing → a.sustained ≡ b.sustained → seen a ≡ seen b
  unfolding seen shown
  voice_same h n c z e g r s =
      λ i. record {
        voice = record {
          handle = h i;
          note = n i;
          copies = (c i).1;
          built_hz = z i;
          env = e i;
          gain = g i;
          releasing = r i;
          sustained = s i;
        };
        count = (c i).0;
      }

  pub record Alikes : Type 0 where
    pub handle : a.handle ≡ b.handle
    pub note : a.note.0 ≡ b.note.0
    pub copies : copies_shown a ≡ copies_shown b
    pub built_hz : a.built_hz ≡ b.built_hz
    pub env : a.env ≡ b.env
    pub gain : a.gain ≡ b.gain
    pub releasing : a.releasing ≡ b.releasing
    pub sustained : a.sustained ≡ b.sustained

  pub voice_parts : seen a ≡ seen b → Alikes
  unfolding seen shown
  voice_parts q =
      let v = ap (λ (x : Seen). x.voice) q in
      record {
        handle = ap (λ (x : model.Voice). x.handle) v;
        note = ap (λ (x : model.Voice). x.note) v;
        copies = λ i. ((q i).count, (v i).copies);
        built_hz = ap (λ (x : model.Voice). x.built_hz) v;
        env = ap (λ (x : model.Voice). x.env) v;
        gain = ap (λ (x : model.Voice). x.gain) v;
        releasing = ap (λ (x : model.Voice). x.releasing) v;
        sustained = ap (λ (x : model.Voice). x.sustained) v;
      }
