-- Document 01's examples ("Examples to prove together"): one table, E1 to E13, of inputs and what the definitions make of them.
-- Where 01 names no number, the line holds for all of them, or takes the script's.
use Rattle.std.specs.Prelude.{◌≡◌, Bool, true, false, List, [], ◌∷◌, ◌++◌, map, ℕ, zero, suc, Float, length, replicate, Option, Ok, Err}
use Rattle.std.specs.Float.{nan, binary32}
use Rattle.std.specs.Float.Ieee.{of_bits}
use Rattle.float32.specs.Numbers.{zero as +0, one}
use Rattle.envelope.specs.declared.EnvGen.{EnvGen}
use Rattle.envelope.specs.Start.{settled}
use Rattle.envelope.specs.Gates.{gated_on}
use Rattle.envelope.specs.Ticks.{ticked}
use Rattle.stream.specs.Pitch.{curve}
use Rattle.stream.specs.Copies.{new_copy, half, two}
use Rattle.design.specs.declared.InstrumentDesign.{InstrumentDesign}
use Rattle.design.specs.declared.PlayMode.{PlayMode}
use Rattle.design.specs.declared.PlayMode.TheVariants.{Poly, Mono}
use Rattle.design.specs.Accepted.{is_accepted}
use Rattle.model.specs.Types.{Voice, Call, Reply}
use Rattle.model.specs.Types.{Call.note_on, Call.control, Call.plan, Call.mix, Control.note_off, Control.release}
use Rattle.model.specs.Types.{Reply.started, Reply.kept as keeps, Reply.off, Reply.released, Reply.planned, Reply.mixed}
use Rattle.model.specs.Step.{step}
use Rattle.model.specs.Start.{fresh, start_of}
use Rattle.model.specs.Runs.{after, replies}
use Rattle.outcome.specs.declared.Refusal.TheVariants.{CutShort}
use Rattle.midi.specs.declared.Event.TheVariants.{On, Off}
use Rattle.midi.specs.Answers.{told, ended}
use Rattle.midi.specs.Streams.{answers_of}

-- ---- a list of calls from a start

-- the script's design, with another mode and another sustain level: rate 48000, max 1, one copy, every time 0, glide 1, no modulation
abbrev pub designed : PlayMode → Float → InstrumentDesign
designed mode s = record {
  sample_rate = 48000;
  max_voices = 1;
  mode = mode;
  unison = 1;
  unison_width = +0;
  amp = record { a = +0; d = +0; s = s; r = +0 };
  glide = one;
  modulation = record { vibrato_rate = +0; vibrato_cents = +0; tremolo_rate = +0; tremolo_depth = +0; filter_rate = +0; filter_octaves = +0 };
}

-- "s=38D1B717" and "s=38D1B718": the greatest sustain level that counts as faded, and the next float
abbrev pub faint : Float
faint = of_bits binary32 0x38d1_b717

abbrev pub audible : Float
audible = of_bits binary32 0x38d1_b718

-- a voice as the script prints it
pub record Row : Type 0 where
  pub handle : ℕ
  pub note : ℕ
  pub releasing : Bool
  pub sustained : Bool
  pub level : Float

abbrev pub row : ℕ → ℕ → Bool → Bool → Float → Row
row handle note releasing sustained level = record { handle = handle; note = note; releasing = releasing; sustained = sustained; level = level }

abbrev pub row_of : Voice → Row
row_of v = row v.handle v.note v.releasing v.sustained v.env.level

-- the design is accepted; the calls reply so; and the table stands so at the end
pub record Plays (d : InstrumentDesign) (calls : List Call) (said : List Reply) (rows : List Row) : Type 0 where
  pub ready : (start_of d).reply ≡ Ok tt
  pub reply : replies (start_of d).model calls ≡ said
  pub table : map row_of (after (start_of d).model calls).voices ≡ rows

-- blocks of one frame of one copy: a Plan and a Mix for each number, which stands for all that the host hands and lends
abbrev pub frames : List Float → List Call
frames [] = []
frames (x ∷ xs) = plan 1 x x x (x ∷ []) ∷ mix (x ∷ []) (x ∷ x ∷ []) ∷ frames xs

-- the replies to n of them at which no voice ends, and to one at which the voice of the handle h ends
abbrev pub frames_kept : ℕ → List Reply
frames_kept zero = []
frames_kept (suc n) = planned ∷ mixed 0 (replicate 64 0) ∷ frames_kept n

abbrev pub frame_ending : ℕ → List Reply
frame_ending h = planned ∷ mixed 1 (h ∷ replicate 63 0) ∷ []

-- a note-on's voice is in the table after the frame x, and ends at the frame y
pub record KeptThenEnded (d : InstrumentDesign) (x y : Float) : Type 0 where
  pub first : Plays d (note_on 60 one true ∷ frames (x ∷ [])) (started 1 0 0 ∷ frames_kept 1) (row 1 60 false false one ∷ [])
  pub second : Plays d (note_on 60 one true ∷ frames (x ∷ y ∷ [])) (started 1 0 0 ∷ (frames_kept 1 ++ frame_ending 1)) []

-- ---- an envelope

-- the level after each of n ticks
abbrev pub levels_over : ℕ → EnvGen → List Float
levels_over zero e = []
levels_over (suc n) e = (ticked e).level ∷ levels_over n (ticked e)

-- ---- the table

pub record WorkedExamples : Type 0 where
  -- E1 "fresh, NaN velocity: off, not found": of every accepted design
  pub e1 : (d : InstrumentDesign) → is_accepted d ≡ true → (n : ℕ) (built : Bool) → (step (fresh d) (note_on n nan built)).reply ≡ off false
  -- E2 "the script"
  pub e2 : Plays (designed Poly half)
      (note_on 60 one true ∷ note_on 64 half true ∷ note_on 67 one true ∷ [])
      (started 1 0 0 ∷ started 2 1 0 ∷ started 3 2 1 ∷ [])
      (row 2 64 true false +0 ∷ row 3 67 false false +0 ∷ [])
  -- E3 "a=d=0, s=0.5: levels 1, 0.5, 0.5"
  pub e3 : (r : Float) (rate : ℕ) → levels_over 3 (gated_on (settled +0 +0 half r rate)) ≡ one ∷ half ∷ half ∷ []
  -- E4 "rate 8192, a=2^−11: 0.25, 0.5, 0.75, 1"
  pub e4 : (d s r : Float)
      → levels_over 4 (gated_on (settled (of_bits binary32 0x3a00_0000) d s r 8192)) ≡ of_bits binary32 0x3e80_0000 ∷ half ∷ of_bits binary32 0x3f40_0000 ∷ one ∷ []
  -- E5 "s=38D1B717, a=d=0: kept after 1 frame, ended after 2"
  pub e5 : (x y : Float) → KeptThenEnded (designed Poly faint) x y
  -- E6 "s=38D1B718 kept": however many frames follow
  pub e6 : (x y : Float) (later : List Float) → Plays (designed Poly audible)
      (note_on 60 one true ∷ frames (x ∷ y ∷ later))
      (started 1 0 0 ∷ frames_kept (suc (suc (length later))))
      (row 1 60 false false audible ∷ [])
  -- E7 "r=0: released voice ends at the next frame"
  pub e7 : (x y : Float) → Plays (designed Poly half)
      (note_on 60 one true ∷ (frames (x ∷ []) ++ (control (release 1) ∷ frames (y ∷ []))))
      (started 1 0 0 ∷ (frames_kept 1 ++ (released true ∷ frame_ending 1)))
      []
  -- E8 "pitch 1, target 2, glide 0.5, bend 2: 3, 3.5"
  pub e8 : (l r : Float) (cutoff : Option Float)
      → curve 2 (record { l = l; r = r; pitch = one; pitch_target = two; glide = half; bend = two; cutoff = cutoff })
      ≡ of_bits binary32 0x4040_0000 ∷ of_bits binary32 0x4060_0000 ∷ []
  -- E9 "unison 4, width 1, copy 0: gains 0.5 and 0"
  pub e9 : ((new_copy 0 4 one).l ≡ half) × ((new_copy 0 4 one).r ≡ +0)
  -- E10 "Mono 60, 64, off 64: handle 1 plays 60", legato or not
  pub e10 : (legato : Bool) → Plays (designed (Mono legato) half)
      (note_on 60 one true ∷ note_on 64 one true ∷ control (note_off 64) ∷ [])
      (started 1 0 0 ∷ keeps 1 ∷ off true ∷ [])
      (row 1 60 false false +0 ∷ [])
  -- E11 "90 3C 40 F8 3E 40: two ons"
  pub e11 : answers_of (0x90 ∷ 0x3C ∷ 0x40 ∷ 0xF8 ∷ 0x3E ∷ 0x40 ∷ []) ≡ told (On 60 (of_bits binary32 0x3f01_0204)) ∷ told (On 62 (of_bits binary32 0x3f01_0204)) ∷ ended ∷ []
  -- E12 "90 3C 00: off"
  pub e12 : answers_of (0x90 ∷ 0x3C ∷ 0x00 ∷ []) ≡ told (Off 60) ∷ ended ∷ []
  -- E13 "90 3C: refusal 10"
  pub e13 : answers_of (0x90 ∷ 0x3C ∷ []) ≡ Err CutShort ∷ []
