-- The reader of document 01: a stream beside a cursor.
use Rattle.std.specs.Prelude.{ℕ, List}
use Rattle.std.specs.Borrow.{Bor}
use Rattle.midi.specs.Streams.{start}
use Rattle.midi.specs.declared.Cursor.{Cursor}
use Rattle.reader.specs.declared.Reader.{Reader}

-- 01, MIDI bytes: the stream beside the cursor, which is a place and a running status
abbrev pub reader_at : Bor (List ℕ) → Cursor → Reader
reader_at stream c = record { stream = stream; cursor = c }

-- a reader that has read nothing: place 0, and 0 for no running status, as in 01, row 9
abbrev pub at_start : Bor (List ℕ) → Reader
at_start stream = reader_at stream start
