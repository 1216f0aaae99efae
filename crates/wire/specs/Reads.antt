-- What the numbers of a host's state stand for in the model (document 01, "Well formed", last sentence: a state is read up to its counts),
-- and which numbers stand for a state at all.
use Rattle.std.specs.Prelude.{Bool, true, false, Option, Some, None, Result, MatchResult, not, ◌&&◌, cond, ◌≡◌, map, ℕ, leb, eqb, Float, take}
use Rattle.lists.specs.All.{all}
use Rattle.envelope.specs.declared.EnvGen.{EnvGen}
use Rattle.envelope.specs.declared.Stage.{Stage}
use Rattle.envelope.specs.declared.Stage.TheVariants.{Idle, Attack, Decay, Sustain, Release}
use Rattle.design.specs.declared.InstrumentDesign.{InstrumentDesign}
use Rattle.design.specs.declared.PlayMode.{PlayMode}
use Rattle.design.specs.declared.PlayMode.TheVariants.{Poly, Mono}
use Rattle.stream.specs.declared.UnisonCopy.{UnisonCopy}
use Rattle.model.specs.Types as model
use Rattle.voice.specs.View.{Seen}
use Rattle.instrument.specs.View.{view, counted}
use Rattle.instrument.specs.declared.Instrument.{Instrument}
use Rattle.outcome.specs.declared.Refusal.{Refusal}
use Rattle.outcome.specs.declared.Refusal.TheVariants.{Malformed}
use Rattle.wire.specs.declared.HostDesign.{HostDesign}
use Rattle.wire.specs.declared.HostEnv.{HostEnv}
use Rattle.wire.specs.declared.HostCopy.{HostCopy}
use Rattle.wire.specs.declared.HostVoice.{HostVoice}
use Rattle.wire.specs.declared.HostState.{HostState}

-- a yes or no: 0 is no
abbrev pub flag_of : ℕ → Bool
flag_of n = not (eqb n 0)

-- 0 Poly, 1 Mono, 2 Mono with legato (document 01, "The script program": poly, mono or legato)
unfoldable pub mode_of : ℕ → PlayMode
mode_of n = cond (eqb n 0) Poly (cond (eqb n 1) (Mono false) (Mono true))

-- 0 Idle, 1 Attack, 2 Decay, 3 Sustain, 4 Release (document 01, "envelope.rs": the record has a stage)
unfoldable pub stage_of : ℕ → Stage
stage_of n = cond (eqb n 0) Idle (cond (eqb n 1) Attack (cond (eqb n 2) Decay (cond (eqb n 3) Sustain Release)))

-- a new copy has no cutoff: the number is looked at only where one was set (document 01, "Copies, Plan and Mix")
unfoldable pub cutoff_of : HostCopy → Option Float
cutoff_of c = cond (flag_of c.cutoff_set) (Some c.cutoff) None

-- a design, number by number (document 01, "The script program": the words of a design)
unfoldable pub design_of : HostDesign → InstrumentDesign
design_of d = record {
  sample_rate = d.sample_rate;
  max_voices = d.max_voices;
  mode = mode_of d.mode;
  unison = d.unison;
  unison_width = d.unison_width;
  amp = record { a = d.a; d = d.d; s = d.s; r = d.r };
  glide = d.glide;
  modulation = record {
    vibrato_rate = d.vibrato_rate;
    vibrato_cents = d.vibrato_cents;
    tremolo_rate = d.tremolo_rate;
    tremolo_depth = d.tremolo_depth;
    filter_rate = d.filter_rate;
    filter_octaves = d.filter_octaves;
  };
}

-- five settings, a stage, a level and the release start (document 01, "envelope.rs")
unfoldable pub env_of : HostEnv → EnvGen
env_of e = record { a = e.a; d = e.d; s = e.s; r = e.r; sr = e.sr; stage = stage_of e.stage; level = e.level; rel_from = e.rel_from }

-- a copy with the cutoff last set (document 01, "Copies, Plan and Mix")
unfoldable pub copy_of : HostCopy → UnisonCopy
copy_of c = record { l = c.l; r = c.r; pitch = c.pitch; pitch_target = c.pitch_target; glide = c.glide; bend = c.bend; cutoff = cutoff_of c }

-- a voice with its copies up to their count
unfoldable pub voice_of : HostVoice → model.Voice
voice_of v = record {
  handle = v.handle;
  note = v.note;
  copies = map copy_of (take v.copy_count v.copies);
  built_hz = v.built_hz;
  env = env_of v.env;
  gain = v.gain;
  releasing = flag_of v.releasing;
  sustained = flag_of v.sustained;
}

-- with the count as it stands, which may be beyond the array
unfoldable pub seen_of : HostVoice → Seen
seen_of v = record { voice = voice_of v; count = v.copy_count }

-- a state with its voices and held notes up to their counts
unfoldable pub model_of : HostState → model.Model
model_of h = record {
  design = design_of h.design;
  voices = map voice_of (take h.voice_count h.voices);
  next = h.next_handle;
  pedal = flag_of h.sustain;
  bend = h.bend;
  brightness = h.brightness;
  vib_phase = h.vib_phase;
  flt_phase = h.flt_phase;
  trem_phase = h.trem_phase;
  trem = h.trem;
  held = take h.held_count h.held;
  frames = h.frames;
}

-- the number names a mode
abbrev pub mode_numbered : HostDesign → Bool
mode_numbered d = leb d.mode 2

-- the number names a stage
abbrev pub stage_numbered : HostEnv → Bool
stage_numbered e = leb e.stage 4

-- the number is a yes or no
abbrev pub copy_numbered : HostCopy → Bool
copy_numbered c = leb c.cutoff_set 1

-- the count is within its array, and each number up to it names a stage, or yes or no
unfoldable pub voice_numbered : HostVoice → Bool
voice_numbered v = leb v.copy_count 8 && stage_numbered v.env && leb v.releasing 1 && leb v.sustained 1 && all copy_numbered (take v.copy_count v.copies)

-- the same of the whole state, with its mode: numbers that fail it stand for no state, so for none that is well formed (document 01, refusal 1)
unfoldable pub numbered : HostState → Bool
numbered h = leb h.voice_count 64 && leb h.held_count 256 && mode_numbered h.design && leb h.sustain 1 && all voice_numbered (take h.voice_count h.voices)

-- what is read from the numbers: the state that they stand for, its counts within their arrays where the numbers stand for one
pub record ReadFrom (h : HostState) (r : Instrument) : Type 0 where
  pub view : view r ≡ model_of h
  pub counted : numbered h ≡ true → counted r ≡ true

-- whole numbers are read as `ReadFrom` says, others are refused as a state that is not well formed (document 01, refusal 1)
abbrev pub ReadAs : HostState → Result Instrument Refusal → Type 0
ReadAs h r = MatchResult r (λ s. (numbered h ≡ true) × ReadFrom h s) (λ e. (numbered h ≡ false) × (e ≡ Malformed))

-- what is written of a state: numbers that stand for it, exactly where its counts are within their arrays
pub record WrittenFrom (s : Instrument) (r : HostState) : Type 0 where
  pub model : model_of r ≡ view s
  pub numbered : numbered r ≡ counted s
