-- Whole streams, and the theorems about them.
use Rattle.std.specs.Prelude.{ℕ, zero, suc, ◌<◌, ◌≤◌, ◌≡◌, true, cond, length}
use mathlib.Core.List.{List, [], ◌∷◌, ◌++◌, map, Mem}
use Rattle.midi.specs.Answers.{Answer, told, ended, number, values, limits, is_event}
use Rattle.midi.specs.Messages.{Message, event, encoded, Sendable}
use Rattle.midi.specs.Steps.{cursor_at, stepped}
use Rattle.midi.specs.declared.Cursor.{Cursor}

-- The answers of steps from a cursor on, each from the cursor that the one before gave, up to the first that is no
-- event, and at most n.
abbrev pub answers : ℕ → List ℕ → Cursor → List Answer
answers zero stream c = []
answers (suc n) stream c =
    (stepped stream c).reply
    ∷ cond (is_event (stepped stream c).reply) (answers n stream (stepped stream c).state) []

abbrev pub start : Cursor
start = cursor_at 0 0

-- An event takes a byte at least, so one step more than there are bytes is enough.
abbrev pub steps_for : List ℕ → ℕ
steps_for stream = suc (length stream)

-- The answers to a whole stream: its events, and the end or the refusal last.
abbrev pub answers_of : List ℕ → List Answer
answers_of stream = answers (steps_for stream) stream start

-- An event moves the place forward, and not beyond the stream. So reading ends: more steps would find nothing more.
pub record Progress : Type 0 where
  pub forward : (stream : List ℕ) (c : Cursor) → is_event (stepped stream c).reply ≡ true
      → c.place < (stepped stream c).state.place
  pub inside : (stream : List ℕ) (c : Cursor) → is_event (stepped stream c).reply ≡ true
      → (stepped stream c).state.place ≤ length stream
  pub ends : (stream : List ℕ) (n : ℕ) → length stream < n → answers n stream start ≡ answers_of stream

-- A byte from F8 to FF, put in anywhere, changes no answer.
abbrev pub RealTimeIgnored : Type 0
RealTimeIgnored =
    (before after : List ℕ) (b : ℕ) → 0xF8 ≤ b → b ≤ 0xFF
    → answers_of (before ++ (b ∷ after)) ≡ answers_of (before ++ after)

abbrev pub encoded_all : List Message → List ℕ
encoded_all [] = []
encoded_all (m ∷ rest) = encoded m ++ encoded_all rest

-- Messages that all carry their status are read back: their events, in order, and the end.
abbrev pub RoundTrip : Type 0
RoundTrip =
    (messages : List Message) → ((m : Message) → Mem m messages → Sendable m)
    → answers_of (encoded_all messages) ≡ map (λ m. told (event m)) messages ++ (ended ∷ [])

-- The end is given at the stream's length only.
abbrev pub EndLast : Type 0
EndLast = (stream : List ℕ) (c : Cursor) → (stepped stream c).reply ≡ ended → (stepped stream c).state.place ≡ length stream

-- A refusal gives the cursor back.
abbrev pub RefusalKeeps : Type 0
RefusalKeeps = (stream : List ℕ) (c : Cursor) → 0 < number (stepped stream c).reply → (stepped stream c).state ≡ c

-- the two lists are equally long, and each number of the first is at most its partner
abbrev pub AtMost : List ℕ → List ℕ → Type 0
AtMost [] [] = Unit
AtMost [] (y ∷ ys) = ⊥
AtMost (x ∷ xs) [] = ⊥
AtMost (x ∷ xs) (y ∷ ys) = (x ≤ y) × AtMost xs ys

-- The answers to a stream of bytes carry values within their limits.
abbrev pub Limits : Type 0
Limits =
    (stream : List ℕ) → ((b : ℕ) → Mem b stream → b < 256) → (c : Cursor)
    → AtMost (values (stepped stream c).reply) (limits (stepped stream c).reply)
