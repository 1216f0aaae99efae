-- When two states are the same (document 01, "Well formed", last sentence: a state is read up to its counts; and its first paragraph:
-- "In comparisons any NaN equals any NaN", so floats are compared as the values of the definitions, where there is one NaN and two zeros).
use Rattle.std.specs.Prelude.{◌≡◌, Bool, true, List, ℕ, take}
use Rattle.std.specs.Bool.{Decides}
use Rattle.stream.specs.declared.UnisonCopy.{UnisonCopy}
use Rattle.voice.specs.View.{Seen}
use Rattle.voice.specs.declared.Voice.{Voice}
use Rattle.table.specs.View.{seen_in}
use Rattle.table.specs.declared.Table.{Table}
use Rattle.held.specs.View.{held_in}
use Rattle.held.specs.declared.Held.{Held}
use Rattle.instrument.specs.View.{view, counted}
use Rattle.instrument.specs.declared.Instrument.{Instrument}

-- what is compared of a voice's copies, of a table and of the held notes: the count as it stands, and what it shows
abbrev pub copies_shown : Voice → ℕ × List UnisonCopy
copies_shown v = (v.copy_count, take v.copy_count v.copies)

abbrev pub table_shown : Table → ℕ × List Seen
table_shown t = (t.count, seen_in t)

abbrev pub held_shown : Held → ℕ × List ℕ
held_shown h = (h.count, held_in h)

-- the same voices up to the count, each with its count of copies as it stands
pub record SameTable (a b : Table) : Type 0 where
  pub count : a.count ≡ b.count
  pub seen : seen_in a ≡ seen_in b

-- the same held notes up to the count
pub record SameHeld (a b : Held) : Type 0 where
  pub count : a.count ≡ b.count
  pub notes : held_in a ≡ held_in b

-- the same floats outside the tables
pub record SameScales (a b : Instrument) : Type 0 where
  pub bend : a.bend ≡ b.bend
  pub brightness : a.brightness ≡ b.brightness
  pub vib_phase : a.vib_phase ≡ b.vib_phase
  pub flt_phase : a.flt_phase ≡ b.flt_phase
  pub trem_phase : a.trem_phase ≡ b.trem_phase
  pub trem : a.trem ≡ b.trem

-- the views are equal, and so are the counts as they stand: a view cannot tell apart two counts beyond their array
pub record Same (a b : Instrument) : Type 0 where
  pub table : SameTable a.table b.table
  pub held : SameHeld a.held b.held
  pub view : view a ≡ view b

-- where every count is within its array, the answer is whether the views are equal
pub record SameAs (a b : Instrument) (r : Bool) : Type 0 where
  pub always : Decides r (Same a b)
  pub in_room : counted a ≡ true → counted b ≡ true → Decides r (view a ≡ view b)
