-- What Mix's pass over a table promises (document 01, "Copies, Plan and Mix": `render_block` in its order, then `retain`).
use Rattle.std.specs.Prelude.{◌≡◌, Bool, not, ◌&&◌, cond, List, [], ◌∷◌, ◌++◌, ℕ, min, leb, Float, length, drop}
use Rattle.lists.specs.Places.{kept}
use Rattle.lists.specs.Prefix.{fold}
use Rattle.stream.specs.declared.UnisonCopy.{UnisonCopy}
use Rattle.model.specs.Voices.{aged_voice, is_ended}
use Rattle.model.specs.Mix.{mixing, side_voice, on_left, on_right, ended_handles}
use Rattle.voice.specs.View.{Seen}
use Rattle.voice.specs.Changes.{on_seen}
use Rattle.table.specs.View.{seen_in, voices_of, share, Holds}
use Rattle.table.specs.declared.Table.{Table}

-- a mix under way: the samples not used yet, the sums of both sides, and the voices that are done
pub record Mixed : Type 0 where
  pub samples : List Float
  pub left : List Float
  pub right : List Float
  pub voices : List Seen

abbrev pub mixed_from : List Float → List Float → List Float → Mixed
mixed_from samples left right = record { samples = samples; left = left; right = right; voices = [] }

-- n samples for each copy are there, and a sum of each side for each frame
unfoldable pub mix_fits : ℕ → Mixed → Seen → Bool
mix_fits n z v = leb (share n v) (length z.samples) && (leb n (length z.left) && leb n (length z.right))

module _ (n : ℕ) (trem : Float) where
  -- the sums of one side with one voice more
  abbrev side_next : (UnisonCopy → Float) → List Float → Mixed → Seen → List Float
  side_next side sums z v = cond (mix_fits n z v) (side_voice side n trem (mixing z.samples sums) v.voice).sums sums

  -- one voice more: its share of the samples is used, it is in the sums and n frames older; or it is as it was, where something does not fit
  unfoldable pub mix_next : Mixed → Seen → Mixed
  mix_next z v = record {
    samples = drop (share n v) z.samples;
    left = side_next on_left z.left z v;
    right = side_next on_right z.right z v;
    voices = z.voices ++ (cond (mix_fits n z v) (on_seen (aged_voice n) v) v ∷ []);
  }

-- `retain`
unfoldable pub goes_on : Seen → Bool
goes_on v = not (is_ended v.voice)

-- numbers in the first places of a report, as far as it has places
abbrev pub reported : List ℕ → List ℕ → List ℕ
reported [] es = es
reported (h ∷ hs) [] = []
reported (h ∷ hs) (e ∷ es) = h ∷ reported hs es

-- every voice of a table, by a block of 1,024 frames at most
abbrev pub mixed_all : ℕ → Float → Table → List Float → List Float → List Float → Mixed
mixed_all frames trem t samples left right = fold (mix_next (min frames 1024) trem) (mixed_from samples left right) (seen_in t)

-- the sums of both sides, the report of those that have ended, and the table of those that go on
pub record MixedTable (frames : ℕ) (trem : Float) (t : Table) (samples left₀ right₀ : List Float) (ended₀ : List ℕ) (left right : List Float) (ended : List ℕ) (r : Table) : Type 0 where
  pub table : Holds (kept goes_on (mixed_all frames trem t samples left₀ right₀).voices) r
  pub left_sums : left ≡ (mixed_all frames trem t samples left₀ right₀).left
  pub right_sums : right ≡ (mixed_all frames trem t samples left₀ right₀).right
  pub report : ended ≡ reported (ended_handles (voices_of (mixed_all frames trem t samples left₀ right₀).voices)) ended₀
