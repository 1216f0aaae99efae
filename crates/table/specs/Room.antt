-- Room for a new voice, and the voice added (document 01, "mod.rs: the voice table": note-on), as the model has it, with the counts of
-- copies as they stand.
use Rattle.std.specs.Prelude.{◌≡◌, Bool, cond, List, [], ◌∷◌, ◌++◌, ℕ, leb, length, take, Option, None}
use Rattle.lists.specs.Places.{without}
use Rattle.model.specs.Types as model
use Rattle.model.specs.Voices.{killed_voice, quietest_sounding, quietest}
use Rattle.model.specs.Notes.{full, after_kill, crowded}
use Rattle.voice.specs.View.{Seen, seen}
use Rattle.voice.specs.declared.Voice.{Voice}
use Rattle.table.specs.View.{seen_in, voices_of, voices_in, handle_in, changed_at, Holds}
use Rattle.table.specs.declared.Added.{Added}
use Rattle.table.specs.declared.Table.{Table}

-- the voices after the kill, and after the taking
unfoldable pub killed_in : ℕ → List Seen → List Seen
killed_in most l = cond (full most (voices_of l)) (changed_at killed_voice (quietest_sounding (voices_of l)) l) l

unfoldable pub taken_in : ℕ → List Seen → List Seen
taken_in most l = cond (crowded most (voices_of l)) (without (quietest (voices_of l)) l) l

-- the handle of the voice at k, where it is stolen
abbrev pub stolen : Bool → ℕ → List model.Voice → Option ℕ
stolen b k vs = cond b (handle_in k vs) None

-- the table after the kill, and the handle of the voice that was killed
pub record KilledAs (most : ℕ) (t r : Table) (h : Option ℕ) : Type 0 where
  pub table : Holds (killed_in most (seen_in t)) r
  pub handle : h ≡ stolen (full most (voices_in t)) (quietest_sounding (voices_in t)) (voices_in t)

-- the table after the taking, where n voices are too many, and the handle of the voice that was taken out
pub record TakenAs (n : ℕ) (t r : Table) (h : Option ℕ) : Type 0 where
  pub table : Holds (cond (leb n (length (voices_in t))) (without (quietest (voices_in t)) (seen_in t)) (seen_in t)) r
  pub handle : h ≡ stolen (leb n (length (voices_in t))) (quietest (voices_in t)) (voices_in t)

-- the handles killed and taken out, and the table with the voice v behind those that are left
pub record AddedAs (most : ℕ) (t : Table) (v : Voice) (r : Added) : Type 0 where
  pub killed : r.killed ≡ stolen (full most (voices_in t)) (quietest_sounding (voices_in t)) (voices_in t)
  pub taken : r.taken ≡ stolen (crowded most (after_kill most (voices_in t))) (quietest (after_kill most (voices_in t))) (after_kill most (voices_in t))
  pub table : Holds (take 64 (taken_in most (killed_in most (seen_in t)) ++ (seen v ∷ []))) r.table
