-- One step of the reader: from a cursor to the next event, to the end, or to a refusal.
use Rattle.std.specs.Prelude.{ℕ, ◌+◌, Bool, not, ◌||◌, cond, List, [], ◌∷◌, ltb, length, drop, Option, Err}
use Rattle.std.specs.declared.ops.ControlFlow.{ControlFlow}
use Rattle.std.specs.declared.ops.ControlFlow.TheVariants.{Continue, Break}
use Rattle.outcome.specs.declared.Outcome.{Outcome}
use Rattle.outcome.specs.declared.Refusal.{Refusal}
use Rattle.outcome.specs.declared.Refusal.TheVariants.{NoSuchPlace, CutShort}
use Rattle.midi.specs.Bytes.{real_time, exclusive_or_common, channel_status, takes_one, no_status, may_run}
use Rattle.midi.specs.Answers.{Answer, told, ended}
use Rattle.midi.specs.Messages.{event, message}
use Rattle.midi.specs.declared.Event.{Event}
use Rattle.midi.specs.declared.Cursor.{Cursor}
use Rattle.midi.specs.declared.Part.{Part}
use Rattle.midi.specs.declared.Part.TheVariants.{Nothing, Status, First}
use Rattle.midi.specs.declared.Scan.{Scan}

abbrev pub cursor_at : ℕ → ℕ → Cursor
cursor_at place status = record { place = place; status = status }

-- Between two bytes: the running status, and what was read of a message, which is nothing, its status byte, or its first
-- data byte.
abbrev pub scan_of : ℕ → Part → Scan
scan_of status part = record { status = status; part = part }

-- what a byte leads to: more reading, or the event of the message that it ends
abbrev pub Fed : Type 0
Fed = ControlFlow Event Scan

-- 01, the first data byte of a message: for a C or a D it is the last too
abbrev pub first_data : ℕ → ℕ → Fed
first_data status b = cond (takes_one status) (Break (event (message status b 0))) (Continue (scan_of status (First b)))

-- a data byte under running status: the first of a message, or the second, which ends it
abbrev pub data_byte : ℕ → Part → ℕ → Fed
data_byte status Nothing b = first_data status b
data_byte status Status b = first_data status b
data_byte status (First a) b = Break (event (message status a b))

-- 01, what one byte does, in its order:
-- a real-time byte does nothing, between the bytes of a message as elsewhere;
-- a system byte clears running status, and abandons the message that was begun;
-- a channel status becomes the running status and opens a message, and abandons the one that was begun;
-- a data byte does nothing where no status runs, so the data of an exclusive message pass by one at a time.
abbrev pub fed : Scan → ℕ → Fed
fed scan b =
    cond (real_time b) (Continue scan)
    (cond (exclusive_or_common b) (Continue (scan_of 0 Nothing))
    (cond (channel_status b) (Continue (scan_of b Status))
    (cond (no_status scan.status) (Continue scan) (data_byte scan.status scan.part b))))

abbrev pub on_fed : {A : Type 0} → Fed → (Scan → A) → (Event → A) → A
on_fed (Continue scan) more stop = more scan
on_fed (Break e) more stop = stop e

-- what a step gives: the cursor behind it, and its answer
abbrev pub Stepped : Type 0
Stepped = Outcome Cursor (Option Event)

abbrev pub answered : Answer → ℕ → ℕ → Stepped
answered a place status = record { state = cursor_at place status; reply = a }

-- 01, refusals: the cursor is given back as it was
abbrev pub refused : Refusal → Cursor → Stepped
refused r c = record { state = c; reply = Err r }

-- 01, at the end of the bytes: the end where nothing of a message was read, and row 10 elsewhere. A status byte alone opens a
-- message; running status with no data behind it does not.
abbrev pub at_end : Cursor → Part → ℕ → ℕ → Stepped
at_end from Nothing place status = answered ended place status
at_end from Status place status = refused CutShort from
at_end from (First a) place status = refused CutShort from

-- The bytes that are left, up to the first that ends a message. The place after the event is behind that byte. What is
-- passed over on the way gives no answer of its own.
abbrev pub reading : Cursor → Scan → ℕ → List ℕ → Stepped
reading from scan place [] = at_end from scan.part place scan.status
reading from scan place (b ∷ rest) =
    on_fed (fed scan b) (λ next. reading from next (place + 1) rest) (λ e. answered (told e) (place + 1) scan.status)

-- 01, row 9, on the place: the stream's length itself is not beyond, and a step there says the end
abbrev pub beyond : List ℕ → Cursor → Bool
beyond stream c = ltb (length stream) c.place

-- One step. Row 9 comes first; the reading knows row 10.
abbrev pub stepped : List ℕ → Cursor → Stepped
stepped stream c =
    cond (beyond stream c || not (may_run c.status)) (refused NoSuchPlace c)
    (reading c (scan_of c.status Nothing) c.place (drop c.place stream))
