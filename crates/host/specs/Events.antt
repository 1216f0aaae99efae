-- What the envelope's tick and the MIDI step promise to a host (document 01, "envelope.rs" and "MIDI bytes").
use Rattle.std.specs.Prelude.{◌≡◌, true, false, cond, ℕ, Float, Some, None, Ok, Err}
use Rattle.float32.specs.Numbers.{zero as +0}
use Rattle.envelope.specs.Ticks.{ticked}
use Rattle.outcome.specs.Numbers.{number_of}
use Rattle.midi.specs.declared.Event.TheVariants.{On, Off, Pedal, AllOff, Bend, Other}
use Rattle.midi.specs.declared.Cursor.{Cursor}
use Rattle.midi.specs.Answers.{Answer}
use Rattle.midi.specs.Steps.{Stepped}
use Rattle.wire.specs.declared.HostEnv.{HostEnv}
use Rattle.wire.specs.Reads.{stage_numbered, env_of}
use Rattle.host.specs.Said.{flag_number}
use Rattle.host.specs.declared.events.HostEnvOutcome.{HostEnvOutcome}
use Rattle.host.specs.declared.events.HostEvent.{HostEvent}
use Rattle.host.specs.declared.events.Kind.{Kind}
use Rattle.host.specs.declared.events.Kind.TheVariants as kind

-- "The envelope's tick also exists as a call on a record that the caller keeps": a stage that is none gives 1 and the very record
pub record HostTickAs (e : HostEnv) (r : HostEnvOutcome) : Type 0 where
  pub number : r.number ≡ cond (stage_numbered e) 0 1
  pub refused : stage_numbered e ≡ false → r.env ≡ e
  pub numbered : stage_numbered e ≡ true → stage_numbered r.env ≡ true
  pub next : stage_numbered e ≡ true → env_of r.env ≡ ticked (env_of e)

-- the number of each kind of event
abbrev pub kind_of : Kind → ℕ
kind_of kind.Refused = 0
kind_of kind.On = 1
kind_of kind.Off = 2
kind_of kind.Pedal = 3
kind_of kind.AllOff = 4
kind_of kind.Bend = 5
kind_of kind.Other = 6
kind_of kind.End = 7

abbrev pub event_at : Cursor → ℕ → ℕ → ℕ → Float → ℕ → ℕ → HostEvent
event_at c kind number note velocity down bend = record {
  kind = kind;
  number = number;
  place = c.place;
  velocity = velocity;
  bend = bend;
  down = down;
  status = c.status;
  note = note;
}

-- the number and values of each answer, at the cursor behind it
abbrev pub event_in : Cursor → Answer → HostEvent
event_in c (Err r) = event_at c 0 (number_of r) 0 +0 0 0
event_in c (Ok (Some (On note velocity))) = event_at c 1 0 note velocity 0 0
event_in c (Ok (Some (Off note))) = event_at c 2 0 note +0 0 0
event_in c (Ok (Some (Pedal down))) = event_at c 3 0 0 +0 (flag_number down) 0
event_in c (Ok (Some AllOff)) = event_at c 4 0 0 +0 0 0
event_in c (Ok (Some (Bend value))) = event_at c 5 0 0 +0 0 value
event_in c (Ok (Some Other)) = event_at c 6 0 0 +0 0 0
event_in c (Ok None) = event_at c 7 0 0 +0 0 0

abbrev pub event_of : Stepped → HostEvent
event_of o = event_in o.state o.reply
