-- What a call on a state promises: its reply, the next state through its view, and on a refusal the very state given
-- (document 01, "What a call replies").
use Rattle.std.specs.Prelude.{◌≡◌, Bool, true, false, ◌&&◌, cond, List, ℕ, eqb, Float, Option, Some, None, Result, Ok, Err}
use Rattle.std.specs.NonZero.{non_zero_u64_get}
use Rattle.std.specs.declared.num.NonZeroU64.{NonZeroU64}
use Rattle.outcome.specs.declared.Outcome.{Outcome}
use Rattle.outcome.specs.declared.Refusal.{Refusal}
use Rattle.outcome.specs.declared.Refusal.TheVariants.{Malformed, BlockOpen, NoHandleLeft}
use Rattle.outcome.specs.Numbers.{number_of}
use Rattle.design.specs.declared.InstrumentDesign.{InstrumentDesign}
use Rattle.model.specs.Types as model
use Rattle.model.specs.Step.{refusal, lent_to, step}
use Rattle.model.specs.Start.{start_of}
use Rattle.table.specs.declared.Table.{Table}
use Rattle.held.specs.declared.Held.{Held}
use Rattle.instrument.specs.View.{view, counted, formed}
use Rattle.instrument.specs.declared.Instrument.{Instrument}
use Rattle.instrument.specs.declared.Reply.{Reply}
use Rattle.instrument.specs.declared.Reply.TheVariants.{Started, Silent, Kept, Off, Done, Released, Planned}

-- what a call gives
abbrev pub Called : Type 0
Called = Outcome Instrument Reply

-- a handle as a number, 0 for none
abbrev pub handle_or_none : Option NonZeroU64 → ℕ
handle_or_none (Some handle) = non_zero_u64_get handle
handle_or_none None = 0

-- document 01's reply, with its number and values, for each case
abbrev pub reply_of : Result Reply Refusal → model.Reply
reply_of (Ok (Started handle killed taken)) = model.Reply.started handle (handle_or_none killed) (handle_or_none taken)
reply_of (Ok (Silent handle)) = model.Reply.silent handle
reply_of (Ok (Kept handle)) = model.Reply.kept handle
reply_of (Ok (Off found)) = model.Reply.off found
reply_of (Ok Done) = model.Reply.done
reply_of (Ok (Released found)) = model.Reply.released found
reply_of (Ok Planned) = model.Reply.planned
reply_of (Err refusal) = model.Reply.refused (number_of refusal)

-- no two replies say the same: what a call replies is known whole
abbrev pub RepliesTold : Type 0
RepliesTold = (r q : Result Reply Refusal) → reply_of r ≡ reply_of q → r ≡ q

-- the number of the refusal, 0 where the call is accepted: a count beyond its array is refusal 1 before anything else is read
unfoldable pub refusal_of : Instrument → model.Call → ℕ
refusal_of s c = cond (counted s) (refusal (view s) c) 1

-- the reply that the definitions give
unfoldable pub reply_to : Instrument → model.Call → model.Reply
reply_to s c = cond (counted s) (step (view s) c).reply (model.Reply.refused 1)

-- the list lent to be written, at exit: as it was on a refusal
unfoldable pub lent_of : Instrument → model.Call → List Float
lent_of s c = cond (counted s) (step (view s) c).lent (lent_to c)

-- a call c on s that replied `said` and gave the state t
pub record StepAs (s : Instrument) (c : model.Call) (said : model.Reply) (t : Instrument) : Type 0 where
  pub reply : said ≡ reply_to s c
  -- "The state .. comes back equal", with what stands behind its counts
  pub refused : (refusal_of s c ≡ 0 → ⊥) → t ≡ s
  pub in_room : refusal_of s c ≡ 0 → counted t ≡ true
  pub next : refusal_of s c ≡ 0 → view t ≡ (step (view s) c).model

abbrev pub CallAs : Instrument → model.Call → Called → Type 0
CallAs s c r = StepAs s c (reply_of r.reply) r.state

-- a start: "2, 3 at the start"; "a refused start comes with a state of zeros, Poly, no block open"
pub record StartAs (d : InstrumentDesign) (r : Outcome Instrument (Unit {0})) : Type 0 where
  pub reply : r.reply ≡ (start_of d).reply
  pub in_room : counted r.state ≡ true
  pub state : view r.state ≡ (start_of d).model

-- what a call gives where the checks have passed: a reply, and a state in room whose view is the next model
pub record Gives (o : model.Outcome) (r : Called) : Type 0 where
  pub reply : reply_of r.reply ≡ o.reply
  pub in_room : counted r.state ≡ true
  pub next : view r.state ≡ o.model

-- ---- the parts that the calls are made of

abbrev pub answered_as : Reply → Instrument → Called
answered_as reply s = record { state = s; reply = Ok reply }

abbrev pub refused_as : Instrument → Refusal → Called
refused_as s refusal = record { state = s; reply = Err refusal }

-- what bars a call other than Mix: refusal 1, then 5
unfoldable pub barred_by : Instrument → Result (Unit {0}) Refusal
barred_by s = cond (formed s) (cond (eqb s.frames 0) (Ok tt) (Err BlockOpen)) (Err Malformed)

-- the largest next handle: none is left
abbrev pub last_handle : ℕ
last_handle = 0xffff_ffff_ffff_ffff

-- a note-on that is no note-off: refusal 8 where a handle is due and none is left, else what the definition gives
pub record OnAs (s : Instrument) (due : Bool) (o : model.Outcome) (r : Called) : Type 0 where
  pub spent : (due && eqb s.next_handle last_handle) ≡ true → r ≡ refused_as s NoHandleLeft
  pub done : (due && eqb s.next_handle last_handle) ≡ false → Gives o r

-- another table, next handle, pedal and held notes
unfoldable pub placed_as : Instrument → Table → ℕ → Bool → Held → Instrument
placed_as s table next sustain held = record {
  design = s.design;
  table = table;
  next_handle = next;
  sustain = sustain;
  bend = s.bend;
  brightness = s.brightness;
  vib_phase = s.vib_phase;
  flt_phase = s.flt_phase;
  trem_phase = s.trem_phase;
  trem = s.trem;
  held = held;
  frames = s.frames;
}

-- another table, bend and brightness
unfoldable pub tuned_as : Instrument → Table → Float → Float → Instrument
tuned_as s table bend brightness = record {
  design = s.design;
  table = table;
  next_handle = s.next_handle;
  sustain = s.sustain;
  bend = bend;
  brightness = brightness;
  vib_phase = s.vib_phase;
  flt_phase = s.flt_phase;
  trem_phase = s.trem_phase;
  trem = s.trem;
  held = s.held;
  frames = s.frames;
}

-- another table, phases and tremolo gain
unfoldable pub moved_as : Instrument → Table → Float → Float → Float → Float → Instrument
moved_as s table vib_phase flt_phase trem_phase trem = record {
  design = s.design;
  table = table;
  next_handle = s.next_handle;
  sustain = s.sustain;
  bend = s.bend;
  brightness = s.brightness;
  vib_phase = vib_phase;
  flt_phase = flt_phase;
  trem_phase = trem_phase;
  trem = trem;
  held = s.held;
  frames = s.frames;
}

-- another table, and the frames of the open block
unfoldable pub blocked_as : Instrument → Table → ℕ → Instrument
blocked_as s table frames = record {
  design = s.design;
  table = table;
  next_handle = s.next_handle;
  sustain = s.sustain;
  bend = s.bend;
  brightness = s.brightness;
  vib_phase = s.vib_phase;
  flt_phase = s.flt_phase;
  trem_phase = s.trem_phase;
  trem = s.trem;
  held = s.held;
  frames = frames;
}
