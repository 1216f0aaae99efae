-- A new voice, from what it is made of (document 01, "Copies, Plan and Mix", its first three sentences). Of an accepted design it is the model's (proofs/Born.antt).
use Rattle.std.specs.Prelude.{false, List, [], ◌∷◌, ◌++◌, ℕ, zero, suc, min, Float}
use Rattle.note.specs.Frequency.{freq_of}
use Rattle.envelope.specs.declared.EnvGen.{EnvGen}
use Rattle.envelope.specs.Start.{new_env}
use Rattle.envelope.specs.Gates.{gated_on}
use Rattle.stream.specs.declared.UnisonCopy.{UnisonCopy}
use Rattle.stream.specs.Copies.{new_copy, caught_up}
use Rattle.design.specs.declared.InstrumentDesign.{InstrumentDesign}
use Rattle.design.specs.Accepted.{copies_of}
use Rattle.voice.specs.View.{Seen}

-- copies 0 to k − 1 of n, with bend and brightness caught up
unfoldable pub made_copies : Float → Float → Float → ℕ → ℕ → List UnisonCopy
made_copies width bend brightness n zero = []
made_copies width bend brightness n (suc k) = made_copies width bend brightness n k ++ (caught_up bend brightness (new_copy k n width) ∷ [])

-- as many as the design asks for and a voice has room for
abbrev pub copies_made : InstrumentDesign → ℕ
copies_made d = min (copies_of d) 8

-- gated on, from zeros where the settings are refused
unfoldable pub made_env : InstrumentDesign → EnvGen
made_env d = gated_on (new_env d.amp.a d.amp.d d.amp.s d.amp.r d.sample_rate).state

-- of a design, a bend, a brightness, a handle, a note and a velocity
unfoldable pub made_voice : InstrumentDesign → Float → Float → ℕ → ℕ → Float → Seen
made_voice d bend brightness handle note velocity = record {
  voice = record {
    handle = handle;
    note = note;
    copies = made_copies d.unison_width bend brightness (copies_made d) (copies_made d);
    built_hz = freq_of note;
    env = made_env d;
    gain = velocity;
    releasing = false;
    sustained = false;
  };
  count = copies_made d;
}
