-- The numbers of what is replied (document 01, "Our forms for each place": where an answer is an enum, every case has its number and values).
use Rattle.std.specs.Prelude.{Bool, cond, List, ℕ, replicate, Result, Ok, Err}
use Rattle.outcome.specs.declared.Refusal.{Refusal}
use Rattle.outcome.specs.Numbers.{number_of}
use Rattle.model.specs.Types.{Reply}
use Rattle.model.specs.Types.{Reply.started, Reply.silent, Reply.kept, Reply.off, Reply.done, Reply.released, Reply.planned, Reply.mixed, Reply.refused}
use Rattle.model.specs.Queries as model
use Rattle.host.specs.declared.HostReply.{HostReply}
use Rattle.host.specs.declared.Kind.{Kind}
use Rattle.host.specs.declared.Kind.TheVariants as kind

-- the seven numbers of a reply
abbrev pub saying : ℕ → ℕ → ℕ → ℕ → ℕ → ℕ → ℕ → HostReply
saying kind number handle killed taken found count = record {
  kind = kind;
  number = number;
  handle = handle;
  killed = killed;
  taken = taken;
  found = found;
  count = count;
}

-- yes is 1
abbrev pub flag_number : Bool → ℕ
flag_number b = cond b 1 0

-- row 1, "state not well formed": numbers that stand for no state are none
abbrev pub unformed : ℕ
unformed = 1

-- a refusal has the number of document 01's table
abbrev pub refusing : ℕ → HostReply
refusing n = saying 0 n 0 0 0 0 0

-- the number of each kind of reply
abbrev pub kind_of : Kind → ℕ
kind_of kind.Refused = 0
kind_of kind.Started = 1
kind_of kind.Silent = 2
kind_of kind.Kept = 3
kind_of kind.Off = 4
kind_of kind.Done = 5
kind_of kind.Released = 6
kind_of kind.Planned = 7
kind_of kind.Mixed = 8
kind_of kind.Ready = 9
kind_of kind.Active = 10
kind_of kind.Voices = 11
kind_of kind.Handle = 12
kind_of kind.NoHandle = 13

-- each reply of a call
abbrev pub said_of : Reply → HostReply
said_of (started handle killed taken) = saying 1 0 handle killed taken 0 0
said_of (silent handle) = saying 2 0 handle 0 0 0 0
said_of (kept handle) = saying 3 0 handle 0 0 0 0
said_of (off found) = saying 4 0 0 0 0 (flag_number found) 0
said_of done = saying 5 0 0 0 0 0 0
said_of (released found) = saying 6 0 0 0 0 (flag_number found) 0
said_of planned = saying 7 0 0 0 0 0 0
said_of (mixed count ended) = saying 8 0 0 0 0 0 count
said_of (refused n) = refusing n

-- the report of a Mix: "64 places in the reply"; zeros where nothing was mixed
abbrev pub report_of : Reply → List ℕ
report_of (started handle killed taken) = replicate 64 0
report_of (silent handle) = replicate 64 0
report_of (kept handle) = replicate 64 0
report_of (off found) = replicate 64 0
report_of done = replicate 64 0
report_of (released found) = replicate 64 0
report_of planned = replicate 64 0
report_of (mixed count ended) = ended
report_of (refused n) = replicate 64 0

-- the reply of a start
abbrev pub said_start : Result (Unit {0}) Refusal → HostReply
said_start (Ok _) = saying 9 0 0 0 0 0 0
said_start (Err reason) = refusing (number_of reason)

-- each answer of a query
abbrev pub said_answer : model.Answer → HostReply
said_answer (model.Answer.active found) = saying 10 0 0 0 0 (flag_number found) 0
said_answer (model.Answer.voices count) = saying 11 0 0 0 0 0 count
said_answer (model.Answer.handle handle) = saying 12 0 handle 0 0 0 0
said_answer model.Answer.no_handle = saying 13 0 0 0 0 0 0
said_answer (model.Answer.refused n) = refusing n
