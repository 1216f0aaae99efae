-- The instrument as lists, the nine calls and what they reply (document 01, "What a call replies", "mod.rs: the voice table").
use Rattle.std.specs.Prelude.{Bool, false, List, [], ℕ, Float}
use Rattle.std.specs.Float.{nan}
use Rattle.envelope.specs.declared.EnvGen.{EnvGen}
use Rattle.envelope.specs.declared.Stage.TheVariants.{Idle}
use Rattle.stream.specs.declared.UnisonCopy.{UnisonCopy}
use Rattle.design.specs.declared.InstrumentDesign.{InstrumentDesign}

pub record Voice : Type 0 where
  pub handle : ℕ
  pub note : ℕ
  pub copies : List UnisonCopy
  -- the frequency that the copies were built at
  pub built_hz : Float
  pub env : EnvGen
  pub gain : Float
  pub releasing : Bool
  pub sustained : Bool

-- the voices "in order of birth"; the held notes from the oldest to the newest; frames of the open block, 0 where none is open
pub record Model : Type 0 where
  pub design : InstrumentDesign
  pub voices : List Voice
  pub next : ℕ
  pub pedal : Bool
  pub bend : Float
  pub brightness : Float
  pub vib_phase : Float
  pub flt_phase : Float
  pub trem_phase : Float
  pub trem : Float
  pub held : List ℕ
  pub frames : ℕ

-- the calls that change voices or a controller and reply at once: they lend nothing, and are due no handle
-- note-off: note; pedal: down; bend: factor; brightness: scale; release: handle
pub data Control : Type 0 where
  note_off : ℕ → Control
  pedal : Bool → Control
  bend : Float → Control
  brightness : Float → Control
  release : ℕ → Control
  all_off : Control

-- note-on: note, velocity, whether the copies were built;
-- Plan: frames, vibrato factor, filter factor, tremolo sine, the lent curve; Mix: the lent samples, the lent output
pub data Call : Type 0 where
  note_on : ℕ → Float → Bool → Call
  control : Control → Call
  plan : ℕ → Float → Float → Float → List Float → Call
  mix : List Float → List Float → Call

-- started: the new handle, the handle killed, the handle taken out, 0 for none; silent: the new handle; kept: the Mono voice's handle;
-- off and released: whether found; mixed: how many ended, and their handles in 64 places; refused: document 01's number
pub data Reply : Type 0 where
  started : ℕ → ℕ → ℕ → Reply
  silent : ℕ → Reply
  kept : ℕ → Reply
  off : Bool → Reply
  done : Reply
  released : Bool → Reply
  planned : Reply
  mixed : ℕ → List ℕ → Reply
  refused : ℕ → Reply

-- the reply, the next model, and the lent list at exit: the curve or the output
pub record Outcome : Type 0 where
  pub reply : Reply
  pub model : Model
  pub lent : List Float

-- document 01's number of a reply, 0 where nothing is refused
abbrev pub number_of : Reply → ℕ
number_of (started h k t) = 0
number_of (silent h) = 0
number_of (kept h) = 0
number_of (off f) = 0
number_of done = 0
number_of (released f) = 0
number_of planned = 0
number_of (mixed n l) = 0
number_of (refused n) = n

-- what stands past the end of a table
abbrev pub no_envelope : EnvGen
no_envelope = record { a = nan; d = nan; s = nan; r = nan; sr = nan; stage = Idle; level = nan; rel_from = nan }

abbrev pub no_voice : Voice
no_voice = record { handle = 0; note = 0; copies = []; built_hz = nan; env = no_envelope; gain = nan; releasing = false; sustained = false }
