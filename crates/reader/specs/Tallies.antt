-- A whole stream in one answer: how many events of each kind it has, and how its reading ended.
use Rattle.std.specs.Prelude.{ℕ, zero, suc, ◌+◌, ◌≤◌, ◌≡◌, false, cond, List, [], ◌∷◌, eqb, length, Some, None, Ok, Err}
use Rattle.midi.specs.Answers.{Answer, is_event}
use Rattle.midi.specs.Steps.{Stepped, stepped}
use Rattle.midi.specs.Streams.{answers, steps_for}
use Rattle.midi.specs.declared.Event.{Event}
use Rattle.midi.specs.declared.Event.TheVariants.{On, Off, Pedal, AllOff, Bend, Other}
use Rattle.midi.specs.declared.Cursor.{Cursor}
use Rattle.reader.specs.declared.Counts.{Counts}
use Rattle.reader.specs.declared.Tally.{Tally}

-- a number for each answer: the six events in 01's order, then the two that end a reading
abbrev pub event_kind : Event → ℕ
event_kind (On note velocity) = 0
event_kind (Off note) = 1
event_kind (Pedal down) = 2
event_kind AllOff = 3
event_kind (Bend value) = 4
event_kind Other = 5

abbrev pub kind : Answer → ℕ
kind (Ok (Some e)) = event_kind e
kind (Ok None) = 6
kind (Err r) = 7

abbrev pub one : ℕ → Answer → ℕ
one k a = cond (eqb (kind a) k) 1 0

abbrev pub how_many : ℕ → List Answer → ℕ
how_many k [] = 0
how_many k (a ∷ rest) = one k a + how_many k rest

-- 01, events: on, off, pedal, all-off, bend, other
abbrev pub counts_of : List Answer → Counts
counts_of l = record {
  ons = how_many 0 l;
  offs = how_many 1 l;
  pedals = how_many 2 l;
  all_offs = how_many 3 l;
  bends = how_many 4 l;
  others = how_many 5 l;
}

abbrev pub plus : Counts → Counts → Counts
plus x y = record {
  ons = x.ons + y.ons;
  offs = x.offs + y.offs;
  pedals = x.pedals + y.pedals;
  all_offs = x.all_offs + y.all_offs;
  bends = x.bends + y.bends;
  others = x.others + y.others;
}

-- each count is at most n
abbrev pub Within : ℕ → Counts → Type 0
Within n x = (x.ons ≤ n) × (x.offs ≤ n) × (x.pedals ≤ n) × (x.all_offs ≤ n) × (x.bends ≤ n) × (x.others ≤ n)

-- The outcome that ends a reading: the steps go on over events, each from the cursor that the one before gave, and stop at
-- what is none, which by 01 is the end or a refusal. The first number bounds the steps, as in `answers`.
abbrev pub last_step : ℕ → List ℕ → Cursor → Stepped
last_step zero stream c = stepped stream c
last_step (suc n) stream c =
    cond (is_event (stepped stream c).reply) (last_step n stream (stepped stream c).state) (stepped stream c)

-- the tally of a stream from a cursor on
abbrev pub tallied : List ℕ → Cursor → Tally
tallied stream c = record {
  counts = counts_of (answers (steps_for stream) stream c);
  last = last_step (steps_for stream) stream c;
}

abbrev pub total : Counts → ℕ
total x = x.ons + x.offs + x.pedals + x.all_offs + x.bends + x.others

-- An event takes a byte at least, so a tally's steps are enough: it ends at what is no event, and each answer before stands
-- in one count.
pub record TallyComplete : Type 0 where
  pub ended : (stream : List ℕ) (c : Cursor) → is_event (tallied stream c).last.reply ≡ false
  pub counted : (stream : List ℕ) (c : Cursor)
      → total (tallied stream c).counts + 1 ≡ length (answers (steps_for stream) stream c)
