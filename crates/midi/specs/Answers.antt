-- What a step answers, with the numbers that document 01 gives it.
use Rattle.std.specs.Prelude.{ℕ, Bool, true, false, cond, List, [], ◌∷◌, Option, Some, None, Result, Ok, Err}
use Rattle.std.specs.Float.{binary32}
use Rattle.std.specs.Float.Ieee.{to_bits}
use Rattle.outcome.specs.Numbers.{number_of}
use Rattle.outcome.specs.declared.Refusal.{Refusal}
use Rattle.midi.specs.declared.Event.{Event}
use Rattle.midi.specs.declared.Event.TheVariants.{On, Off, Pedal, AllOff, Bend, Other}

-- an event, the end of the bytes, or a refusal
abbrev pub Answer : Type 0
Answer = Result (Option Event) Refusal

abbrev pub told : Event → Answer
told e = Ok (Some e)

abbrev pub ended : Answer
ended = Ok None

-- the number of a refusal, and 0 for what is none
abbrev pub number : Answer → ℕ
number (Ok found) = 0
number (Err r) = number_of r

-- what an event carries, as 01 writes numbers: a float by its bits, and 1 for a pedal that is down
abbrev pub event_values : Event → List ℕ
event_values (On note velocity) = note ∷ to_bits binary32 velocity ∷ []
event_values (Off note) = note ∷ []
event_values (Pedal down) = cond down 1 0 ∷ []
event_values AllOff = []
event_values (Bend value) = value ∷ []
event_values Other = []

-- what an answer carries: an event's values, nothing at the end, and a refusal's number
abbrev pub values : Answer → List ℕ
values (Ok (Some e)) = event_values e
values (Ok None) = []
values (Err r) = number_of r ∷ []

-- the largest that each of them may be: notes of seven bits, a velocity of 1, a bend of fourteen bits
abbrev pub event_limits : Event → List ℕ
event_limits (On note velocity) = 127 ∷ 0x3F80_0000 ∷ []
event_limits (Off note) = 127 ∷ []
event_limits (Pedal down) = 1 ∷ []
event_limits AllOff = []
event_limits (Bend value) = 16383 ∷ []
event_limits Other = []

-- and of a refusal: 10, the last number of 01's table
abbrev pub limits : Answer → List ℕ
limits (Ok (Some e)) = event_limits e
limits (Ok None) = []
limits (Err r) = 10 ∷ []

-- which answers 01 counts as events
abbrev pub is_event : Answer → Bool
is_event (Ok (Some e)) = true
is_event (Ok None) = false
is_event (Err r) = false
