-- A list of calls, each on the state that the one before returned, and what is read off its replies (document 01, "The handle account").
use Rattle.std.specs.Prelude.{Bool, true, false, ℕ, zero, suc, take}
use mathlib.Core.List.{List, [], ◌∷◌, flat_map}
use Rattle.envelope.specs.Gates.{is_release}
use Rattle.lists.specs.Places.{kept}
use Rattle.model.specs.Types.{Voice, Model, Call, Reply}
use Rattle.model.specs.Types.{Reply.started, Reply.silent, Reply.kept as keeps, Reply.off, Reply.done, Reply.released, Reply.planned, Reply.mixed, Reply.refused}
use Rattle.model.specs.Voices.{handles}
use Rattle.model.specs.Step.{step}

-- the last state
abbrev pub after : Model → List Call → Model
after m [] = m
after m (c ∷ cs) = after (step m c).model cs

-- the replies, in order
abbrev pub replies : Model → List Call → List Reply
replies m [] = []
replies m (c ∷ cs) = (step m c).reply ∷ replies (step m c).model cs

-- a handle that a reply names: "0 left aside"
abbrev pub named : ℕ → List ℕ
named zero = []
named (suc h) = suc h ∷ []

-- what a reply says of handles
pub record Noted : Type 0 where
  -- a note-on starts a voice "when it replies started"
  pub starts : Bool
  -- "the handles of the started and silent replies", and "those of the silent replies"
  pub issued : List ℕ
  pub silent : List ℕ
  -- "those that a started reply names so"
  pub taken : List ℕ
  pub killed : List ℕ
  -- "those within the count of an accepted Mix's report"
  pub ended : List ℕ

-- of these voices that they ended, and nothing else
abbrev pub ending : List ℕ → Noted
ending l = record { starts = false; issued = []; silent = []; taken = []; killed = []; ended = l }

abbrev pub nothing : Noted
nothing = ending []

abbrev pub noted : Reply → Noted
noted (started h k t) = record { starts = true; issued = h ∷ []; silent = []; taken = named t; killed = named k; ended = [] }
noted (silent h) = record { starts = false; issued = h ∷ []; silent = h ∷ []; taken = []; killed = []; ended = [] }
noted (keeps h) = nothing
noted (off f) = nothing
noted done = nothing
noted (released f) = nothing
noted planned = nothing
noted (mixed n l) = ending (take n l)
noted (refused n) = nothing

abbrev pub is_started : Reply → Bool
is_started r = (noted r).starts

abbrev pub issued_by : Reply → List ℕ
issued_by r = (noted r).issued

abbrev pub silent_by : Reply → List ℕ
silent_by r = (noted r).silent

abbrev pub taken_by : Reply → List ℕ
taken_by r = (noted r).taken

abbrev pub killed_by : Reply → List ℕ
killed_by r = (noted r).killed

abbrev pub ended_by : Reply → List ℕ
ended_by r = (noted r).ended

-- of a list of calls from a state
module _ (m : Model) (cs : List Call) where
  abbrev pub issued : List ℕ
  issued = flat_map issued_by (replies m cs)

  abbrev pub silents : List ℕ
  silents = flat_map silent_by (replies m cs)

  abbrev pub takens : List ℕ
  takens = flat_map taken_by (replies m cs)

  abbrev pub endeds : List ℕ
  endeds = flat_map ended_by (replies m cs)

-- "In the table": the handles of a state
abbrev pub table : Model → List ℕ
table m = handles m.voices

-- releasing: "the envelope is in Release"
abbrev pub in_release : Voice → Bool
in_release v = is_release v.env.stage

abbrev pub releasing : Model → List ℕ
releasing m = handles (kept in_release m.voices)
