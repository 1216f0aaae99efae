-- The channel messages of MIDI 1.0: the event of each, its bytes, and the message that a status and its data are.
use Rattle.std.specs.Prelude.{cond, ℕ, ◌+◌, ◌*◌, ◌/◌, ◌%◌, ◌<◌, List, [], ◌∷◌, leb, eqb, pos, Float}
use Rattle.std.specs.Float.{binary32}
use Rattle.std.specs.Float.Ieee.{of_int, of_bits, div}
use Rattle.midi.specs.Bytes.{within}
use Rattle.midi.specs.declared.Event.{Event}
use Rattle.midi.specs.declared.Event.TheVariants.{On, Off, Pedal, AllOff, Bend, Other}

pub data Message : Type 0 where
  note_off : (channel note velocity : ℕ) → Message
  note_on : (channel note velocity : ℕ) → Message
  key_pressure : (channel note pressure : ℕ) → Message
  control : (channel controller value : ℕ) → Message
  program : (channel number : ℕ) → Message
  channel_pressure : (channel pressure : ℕ) → Message
  pitch_bend : (channel value : ℕ) → Message

-- 01, on: the velocity as a float, divided by 127, whose bits are 42FE0000, and rounded once
abbrev pub velocity_of : ℕ → Float
velocity_of velocity = div binary32 (of_int binary32 (pos velocity)) (of_bits binary32 0x42FE_0000)

-- 01, off: a note on whose velocity is 0 is one too
abbrev pub note_on_event : ℕ → ℕ → Event
note_on_event note velocity = cond (eqb velocity 0) (Off note) (On note (velocity_of velocity))

-- 01, pedal and all-off: controller 64 is down where its value is 64 or more, and 123 to 127 are the mode messages that
-- silence. Other controllers, 120 to 122 among them, are other.
abbrev pub control_event : ℕ → ℕ → Event
control_event controller value =
    cond (eqb controller 64) (Pedal (leb 64 value)) (cond (within 123 127 controller) AllOff Other)

-- 01, events, one for each kind of message. No event looks at the channel, so every channel plays the instrument.
abbrev pub event : Message → Event
event (note_off channel note velocity) = Off note
event (note_on channel note velocity) = note_on_event note velocity
event (key_pressure channel note pressure) = Other
event (control channel controller value) = control_event controller value
event (program channel number) = Other
event (channel_pressure channel pressure) = Other
event (pitch_bend channel value) = Bend value

-- MIDI 1.0, status bytes: the high digit is the kind of message, the low digit the channel. A message of one data byte
-- has it in `first`. Pitch bend sends its low seven bits first. Only 80 to EF come here, so the last kind is E.
abbrev pub kind : ℕ → ℕ
kind status = status / 16

abbrev pub message : ℕ → ℕ → ℕ → Message
message status first second =
    cond (eqb (kind status) 0x8) (note_off (status % 16) first second)
    (cond (eqb (kind status) 0x9) (note_on (status % 16) first second)
    (cond (eqb (kind status) 0xA) (key_pressure (status % 16) first second)
    (cond (eqb (kind status) 0xB) (control (status % 16) first second)
    (cond (eqb (kind status) 0xC) (program (status % 16) first)
    (cond (eqb (kind status) 0xD) (channel_pressure (status % 16) first)
    (pitch_bend (status % 16) (first + 128 * second)))))))

-- MIDI 1.0, the bytes of a message that carries its status
abbrev pub encoded : Message → List ℕ
encoded (note_off channel note velocity) = (0x80 + channel) ∷ note ∷ velocity ∷ []
encoded (note_on channel note velocity) = (0x90 + channel) ∷ note ∷ velocity ∷ []
encoded (key_pressure channel note pressure) = (0xA0 + channel) ∷ note ∷ pressure ∷ []
encoded (control channel controller value) = (0xB0 + channel) ∷ controller ∷ value ∷ []
encoded (program channel number) = (0xC0 + channel) ∷ number ∷ []
encoded (channel_pressure channel pressure) = (0xD0 + channel) ∷ pressure ∷ []
encoded (pitch_bend channel value) = (0xE0 + channel) ∷ (value % 128) ∷ (value / 128) ∷ []

-- MIDI 1.0, what can be sent: 16 channels, values of seven bits, and of fourteen for pitch bend
abbrev pub Sendable : Message → Type 0
Sendable (note_off channel note velocity) = (channel < 16) × (note < 128) × (velocity < 128)
Sendable (note_on channel note velocity) = (channel < 16) × (note < 128) × (velocity < 128)
Sendable (key_pressure channel note pressure) = (channel < 16) × (note < 128) × (pressure < 128)
Sendable (control channel controller value) = (channel < 16) × (controller < 128) × (value < 128)
Sendable (program channel number) = (channel < 16) × (number < 128)
Sendable (channel_pressure channel pressure) = (channel < 16) × (pressure < 128)
Sendable (pitch_bend channel value) = (channel < 16) × (value < 16384)
