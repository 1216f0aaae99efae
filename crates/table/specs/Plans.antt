-- What Plan's pass over a table promises (document 01, "Copies, Plan and Mix": "n pitch numbers per copy by `glide_block`, voice by voice").
use Rattle.std.specs.Prelude.{◌≡◌, cond, ℕ, min, leb, Float, length, drop}
use mathlib.Core.List.{List, [], ◌∷◌, ◌++◌, flat_map}
use Rattle.stream.specs.Pitch.{glided, curve}
use Rattle.model.specs.Voices.{with_copies}
use Rattle.voice.specs.View.{Seen}
use Rattle.voice.specs.Changes.{on_seen}
use Rattle.table.specs.View.{seen_in, share, Holds}
use Rattle.table.specs.declared.Table.{Table}

-- a voice n samples later
abbrev pub later : ℕ → Seen → Seen
later n v = on_seen (with_copies (glided n)) v

-- voices, and the numbers of a curve
pub record Drawn : Type 0 where
  pub voices : List Seen
  pub curve : List Float

-- a voice and its numbers before others
abbrev drawn_before : Seen → List Float → Drawn → Drawn
drawn_before v xs d = record { voices = v ∷ d.voices; curve = xs ++ d.curve }

-- voice by voice, each with its share of the curve: the voice n samples later and its numbers, or both as they are where the curve is too short
unfoldable pub drawn : ℕ → List Seen → List Float → Drawn
drawn n [] xs = record { voices = []; curve = xs }
drawn n (v ∷ vs) xs =
    cond (leb (share n v) (length xs)) (drawn_before (later n v) (flat_map (curve n) v.voice.copies) (drawn n vs (drop (share n v) xs)))
    (drawn_before v xs (drawn n vs []))

-- the table and the curve, by a block of 1,024 frames at most
pub record GlidedTable (frames : ℕ) (t : Table) (old new : List Float) (r : Table) : Type 0 where
  pub table : Holds (drawn (min frames 1024) (seen_in t) old).voices r
  pub curve : new ≡ (drawn (min frames 1024) (seen_in t) old).curve
