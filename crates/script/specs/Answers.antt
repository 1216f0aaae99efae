-- What the script program prints (document 01, "The script program"), each answer with its line feed.
use mathlib.Core.List.{List, [], ◌∷◌, ◌++◌, flat_map}
use Rattle.std.specs.Prelude.{ℕ, Result, Ok, Err}
use Rattle.std.specs.Float.Ieee.{to_bits}
use Rattle.std.specs.Float.{binary32}
use Rattle.lists.specs.Count.{one_if}
use Rattle.outcome.specs.declared.Refusal.{Refusal}
use Rattle.outcome.specs.Numbers.{number_of}
use Rattle.forms.specs.Forms.{space, close, decimal_part, word_part}
use Rattle.model.specs.Types as model

-- ---- the words, in ASCII

-- `(unread)`
abbrev pub unread_text : List ℕ
unread_text = 40 ∷ 117 ∷ 110 ∷ 114 ∷ 101 ∷ 97 ∷ 100 ∷ 41 ∷ 10 ∷ []

-- `(ready)`
abbrev pub ready_text : List ℕ
ready_text = 40 ∷ 114 ∷ 101 ∷ 97 ∷ 100 ∷ 121 ∷ 41 ∷ 10 ∷ []

-- `(refused `
abbrev pub refused_word : List ℕ
refused_word = 40 ∷ 114 ∷ 101 ∷ 102 ∷ 117 ∷ 115 ∷ 101 ∷ 100 ∷ 32 ∷ []

-- `(started `
abbrev pub started_word : List ℕ
started_word = 40 ∷ 115 ∷ 116 ∷ 97 ∷ 114 ∷ 116 ∷ 101 ∷ 100 ∷ 32 ∷ []

-- `(silent `
abbrev pub silent_word : List ℕ
silent_word = 40 ∷ 115 ∷ 105 ∷ 108 ∷ 101 ∷ 110 ∷ 116 ∷ 32 ∷ []

-- `(kept `
abbrev pub kept_word : List ℕ
kept_word = 40 ∷ 107 ∷ 101 ∷ 112 ∷ 116 ∷ 32 ∷ []

-- `(off `
abbrev pub off_word : List ℕ
off_word = 40 ∷ 111 ∷ 102 ∷ 102 ∷ 32 ∷ []

-- `(done)`
abbrev pub done_text : List ℕ
done_text = 40 ∷ 100 ∷ 111 ∷ 110 ∷ 101 ∷ 41 ∷ 10 ∷ []

-- `(released `
abbrev pub released_word : List ℕ
released_word = 40 ∷ 114 ∷ 101 ∷ 108 ∷ 101 ∷ 97 ∷ 115 ∷ 101 ∷ 100 ∷ 32 ∷ []

-- `(voices`
abbrev pub voices_word : List ℕ
voices_word = 40 ∷ 118 ∷ 111 ∷ 105 ∷ 99 ∷ 101 ∷ 115 ∷ []

-- ` (`
abbrev pub open_row : List ℕ
open_row = 32 ∷ 40 ∷ []

-- `)`
abbrev pub close_line : List ℕ
close_line = 41 ∷ 10 ∷ []

-- an answer of one number
abbrev pub one_text : List ℕ → ℕ → List ℕ
one_text word n = decimal_part word n ++ close_line

-- "A refusal prints `(refused number)`"
abbrev pub refused_text : ℕ → List ℕ
refused_text n = one_text refused_word n

-- a start
abbrev pub start_text : Result (Unit {0}) Refusal → List ℕ
start_text (Ok _) = ready_text
start_text (Err refusal) = refused_text (number_of refusal)

-- "Started: handle, killed, taken", "`(silent h)`, `(kept h)` .. or `(off f)` with f 1 if found"; the last four answer
-- no `on`
abbrev pub reply_text : model.Reply → List ℕ
reply_text (model.Reply.started handle killed taken) =
    decimal_part started_word handle ++ (decimal_part space killed ++ (decimal_part space taken ++ close_line))
reply_text (model.Reply.silent handle) = one_text silent_word handle
reply_text (model.Reply.kept handle) = one_text kept_word handle
reply_text (model.Reply.off found) = one_text off_word (one_if found)
reply_text (model.Reply.refused n) = refused_text n
reply_text model.Reply.done = done_text
reply_text (model.Reply.released found) = one_text released_word (one_if found)
reply_text model.Reply.planned = done_text
reply_text (model.Reply.mixed n ended) = done_text

-- "Voices: handle, note, releasing, sustained, level bits"
unfoldable pub row_text : model.Voice → List ℕ
row_text v =
    decimal_part open_row v.handle ++ (
    decimal_part space v.note ++ (
    decimal_part space (one_if v.releasing) ++ (
    decimal_part space (one_if v.sustained) ++ (word_part space (to_bits binary32 v.env.level) ++ close))))

-- the table but for its last bracket
abbrev pub rows_text : List model.Voice → List ℕ
rows_text vs = voices_word ++ flat_map row_text vs

-- "An empty table prints `(voices)`"
abbrev pub table_text : List model.Voice → List ℕ
table_text vs = rows_text vs ++ close_line
