-- What a line does (document 01, "The script program").
use Rattle.std.specs.Prelude.{◌≡◌, true, Option, Some, None, Ok, Err, List, ◌++◌, ℕ, ◌+◌, ◌≤◌, ◌<◌, length, take, drop}
use Rattle.design.specs.declared.InstrumentDesign.{InstrumentDesign}
use Rattle.outcome.specs.declared.Refusal.{Refusal}
use Rattle.outcome.specs.Numbers.{number_of}
use Rattle.design.specs.Accepted.{design_reply}
use Rattle.forms.specs.declared.OnForm.{OnForm}
use Rattle.forms.specs.declared.Form.{Form}
use Rattle.forms.specs.declared.Form.TheVariants.{Design, On, Voices}
use Rattle.forms.specs.Forms.{FormAs}
use Rattle.forms.specs.Named.{bits, design_of}
use Rattle.model.specs.Types as model
use Rattle.model.specs.Start.{fresh}
use Rattle.instrument.specs.View.{view, counted}
use Rattle.instrument.specs.Calls.{reply_to, StepAs}
use Rattle.script.specs.Answers.{unread_text, ready_text, refused_text, reply_text, table_text}
use Rattle.instrument.specs.declared.Instrument.{Instrument}
use Rattle.script.specs.declared.Said.{Said}

-- a text put into a buffer that has room for it: it stands from `at` to `next`, and nothing else changes
pub record Puts (text old : List ℕ) (at : ℕ) (new : List ℕ) (next : ℕ) : Type 0 where
  pub room : at + length text ≤ length old → (new ≡ take at old ++ (text ++ drop (at + length text) old)) × (next ≡ at + length text)

-- a text printed from the start of the buffer: how many bytes, and what stands behind it is kept
pub record Printed (text old new : List ℕ) (count : ℕ) : Type 0 where
  pub bytes : new ≡ text ++ drop (length text) old
  pub size : count ≡ length text
  pub inside : length text ≤ length old

-- the call that an `on` names
abbrev pub call_of : OnForm → model.Call
call_of f = model.Call.note_on f.note (bits f.velocity) f.built

-- before the first line
abbrev pub NoDesign : Option Instrument → Type 0
NoDesign s = s ≡ None

-- the very session, and this answer
pub record Stays (s : Option Instrument) (text old new : List ℕ) (r : Said) : Type 0 where
  pub session : r.session ≡ s
  pub printed : Printed text old new r.count

-- an accepted design starts the instrument
pub record Starts (d : InstrumentDesign) (old new : List ℕ) (r : Said) : Type 0 where
  pub started : Instrument
  pub session : r.session ≡ Some started
  pub in_room : counted started ≡ true
  pub state : view started ≡ fresh d
  pub printed : Printed ready_text old new r.count

-- a design: "a refused design counts as none"
pub record Begins (d : InstrumentDesign) (old new : List ℕ) (r : Said) : Type 0 where
  pub refused : (reason : Refusal) → design_reply d ≡ Err reason → Stays None (refused_text (number_of reason)) old new r
  pub accepted : design_reply d ≡ Ok tt → Starts d old new r

-- a call on the state
pub record Calls (i : Instrument) (c : model.Call) (old new : List ℕ) (r : Said) : Type 0 where
  pub next : Instrument
  pub session : r.session ≡ Some next
  pub steps : StepAs i c (reply_to i c) next
  pub printed : Printed (reply_text (reply_to i c)) old new r.count

-- ---- by whether a design was accepted: "a second design, or one before the design prints `(unread)`"

abbrev pub DesignDoes : Option Instrument → InstrumentDesign → List ℕ → List ℕ → Said → Type 0
DesignDoes (Some i) d old new r = Stays (Some i) unread_text old new r
DesignDoes None d old new r = Begins d old new r

abbrev pub OnDoes : Option Instrument → model.Call → List ℕ → List ℕ → Said → Type 0
OnDoes (Some i) c old new r = Calls i c old new r
OnDoes None c old new r = Stays None unread_text old new r

abbrev pub VoicesDoes : Option Instrument → List ℕ → List ℕ → Said → Type 0
VoicesDoes (Some i) old new r = Stays (Some i) (table_text (view i).voices) old new r
VoicesDoes None old new r = Stays None unread_text old new r

-- by the form of the line: "Any other line .. prints `(unread)`"
abbrev pub Does : Option Form → Option Instrument → List ℕ → List ℕ → Said → Type 0
Does None s old new r = Stays s unread_text old new r
Does (Some (Design f)) s old new r = DesignDoes s (design_of f) old new r
Does (Some (On f)) s old new r = OnDoes s (call_of f) old new r
Does (Some Voices) s old new r = VoicesDoes s old new r

-- the line is read as a form, and that form is answered
pub record Answered (s : Option Instrument) (line old new : List ℕ) (r : Said) : Type 0 where
  pub form : Option Form
  pub reads : FormAs line form
  pub does : Does form s old new r

-- in a buffer of fewer than 4,096 bytes nothing is done
pub record LineAs (s : Option Instrument) (line old new : List ℕ) (r : Said) : Type 0 where
  pub small : length old < 4096 → (r.session ≡ s) × (new ≡ old) × (r.count ≡ 0)
  pub answered : 4096 ≤ length old → Answered s line old new r
