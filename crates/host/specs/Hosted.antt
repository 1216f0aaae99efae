-- What a call for a host promises: it is the instrument's call between reading the numbers of a state and writing those of the next
-- (document 01, "What a call replies"). Numbers that stand for no state are a state that is not well formed: refusal 1.
use Rattle.std.specs.Prelude.{◌≡◌, Bool, true, false, ◌&&◌, cond, List, ℕ, Float, Result, Err}
use Rattle.outcome.specs.declared.Refusal.{Refusal}
use Rattle.outcome.specs.declared.Refusal.TheVariants.{OutsideLimits}
use Rattle.design.specs.declared.InstrumentDesign.{InstrumentDesign}
use Rattle.design.specs.Accepted.{design_reply, is_accepted}
use Rattle.model.specs.Types.{Model, Call, Reply}
use Rattle.model.specs.Step.{refusal, lent_to, step}
use Rattle.model.specs.Start.{fresh, zero_state}
use Rattle.model.specs.Queries.{Answer, VoiceOf}
use Rattle.instrument.specs.declared.Instrument.{Instrument}
use Rattle.instrument.specs.Calls as code
use Rattle.instrument.specs.Calls.{reply_of, StepAs}
use Rattle.wire.specs.declared.HostDesign.{HostDesign}
use Rattle.wire.specs.declared.HostState.{HostState}
use Rattle.wire.specs.Reads.{mode_numbered, design_of, numbered, model_of, ReadFrom, WrittenFrom}
use Rattle.host.specs.Said.{said_of, report_of, said_start, said_answer, unformed, refusing}
use Rattle.host.specs.declared.HostReply.{HostReply}
use Rattle.host.specs.declared.HostOutcome.{HostOutcome}
use Rattle.host.specs.declared.HostMixOutcome.{HostMixOutcome}

-- the number of the refusal in document 01's table, 0 where the call is accepted
unfoldable pub host_refusal : HostState → Call → ℕ
host_refusal h c = cond (numbered h) (refusal (model_of h) c) unformed

-- "each reply .. given by an equation over the definitions"
unfoldable pub host_reply : HostState → Call → Reply
host_reply h c = cond (numbered h) (step (model_of h) c).reply (Reply.refused unformed)

-- "every number in lent memory": the list lent to be written, at exit; "lent memory is untouched" on a refusal
unfoldable pub host_lent : HostState → Call → List Float
host_lent h c = cond (numbered h) (step (model_of h) c).lent (lent_to c)

-- "each reply, the next state": a call c on h that replied `said` and gave the numbers t
pub record HostedAs (h : HostState) (c : Call) (said : HostReply) (t : HostState) : Type 0 where
  pub reply : said ≡ said_of (host_reply h c)
  -- "The state .. comes back equal": the very numbers given
  pub refused : (host_refusal h c ≡ 0 → ⊥) → t ≡ h
  pub numbered : host_refusal h c ≡ 0 → numbered t ≡ true
  pub next : host_refusal h c ≡ 0 → model_of t ≡ (step (model_of h) c).model

abbrev pub HostCallAs : HostState → Call → HostOutcome → Type 0
HostCallAs h c r = HostedAs h c r.reply r.state

-- Plan ("It writes n pitch numbers per copy"): reply, next state, and the lent curve
pub record HostPlanAs (h : HostState) (frames : ℕ) (vibrato filter sine : Float) (old new : List Float) (r : HostOutcome) : Type 0 where
  pub call : HostCallAs h (Call.plan frames vibrato filter sine old) r
  pub lent : new ≡ host_lent h (Call.plan frames vibrato filter sine old)

-- Mix ("writes 2n numbers", "then reports the handles dropped"): reply, report, next state, and the lent output
pub record HostMixAs (h : HostState) (samples old new : List Float) (r : HostMixOutcome) : Type 0 where
  pub call : HostedAs h (Call.mix samples old) r.reply r.state
  pub report : r.ended ≡ report_of (host_reply h (Call.mix samples old))
  pub lent : new ≡ host_lent h (Call.mix samples old)

-- a query: refusal 1 before anything else is read
unfoldable pub host_asked : HostState → Answer → Answer
host_asked h a = cond (numbered h) a (Answer.refused unformed)

-- an answer that names some voice of the note, in numbers
pub record SaysVoice (m : Model) (note : ℕ) (said : HostReply) : Type 0 where
  pub answer : Answer
  pub names : VoiceOf m note answer
  pub says : said ≡ said_answer answer

-- "the handle of some voice of a given note": "Which of several is free"
pub record HostVoiceAs (h : HostState) (note : ℕ) (said : HostReply) : Type 0 where
  pub read : numbered h ≡ true → SaysVoice (model_of h) note said
  pub unread : (numbered h ≡ true → ⊥) → said ≡ refusing unformed

-- a start: a mode that is none is a design number outside its limits, refusal 2
unfoldable pub host_design_reply : HostDesign → Result (Unit {0}) Refusal
host_design_reply d = cond (mode_numbered d) (design_reply (design_of d)) (Err OutsideLimits)

-- an accepted design, with a number that names its mode
unfoldable pub host_accepted : HostDesign → Bool
host_accepted d = mode_numbered d && is_accepted (design_of d)

-- "2, 3 at the start"; "a refused start comes with a state of zeros, Poly, no block open"
pub record HostStartAs (d : HostDesign) (r : HostOutcome) : Type 0 where
  pub reply : r.reply ≡ said_start (host_design_reply d)
  pub numbered : numbered r.state ≡ true
  pub state : model_of r.state ≡ cond (host_accepted d) (fresh (design_of d)) zero_state

-- ---- the parts

-- the numbers t after a call on h that replied `said`, where kind 0 is a refusal, and gave the state s
pub record Hosts (h : HostState) (said : Reply) (s : Instrument) (r : HostReply) (t : HostState) : Type 0 where
  pub reply : r ≡ said_of said
  pub refused : (said_of said).kind ≡ 0 → t ≡ h
  pub written : ((said_of said).kind ≡ 0 → ⊥) → WrittenFrom s t

-- numbers that stand for no state
abbrev pub unread : HostState → HostOutcome
unread h = record { reply = refusing unformed; state = h }

-- where `post` says what the instrument's call may give: that it is the call c
abbrev pub Makes : (Instrument → code.Called → Type 0) → Call → Type 0
Makes post c = (s : Instrument) (o : code.Called) → post s o → StepAs s c (reply_of o.reply) o.state

-- a query on the state that the numbers stand for, and on no other numbers: what was said of the state that was read
pub record Answered (post : Instrument → HostReply → Type 0) (h : HostState) (said : HostReply) : Type 0 where
  pub state : Instrument
  pub from : ReadFrom h state
  pub gives : post state said

pub record AskedBy (post : Instrument → HostReply → Type 0) (h : HostState) (said : HostReply) : Type 0 where
  pub read : numbered h ≡ true → Answered post h said
  pub unread : numbered h ≡ false → said ≡ refusing unformed

-- a start with a design that was read
pub record BegunAs (d : InstrumentDesign) (r : HostOutcome) : Type 0 where
  pub reply : r.reply ≡ said_start (design_reply d)
  pub numbered : numbered r.state ≡ true
  pub state : model_of r.state ≡ cond (is_accepted d) (fresh d) zero_state
