-- Mix's pass over the voices of a table.
use mathlib.Core.Path.{◌≡◌, refl, ap, sym, ◌∙◌}
use mathlib.Core.Bool.{Bool, true, false, not, ◌&&◌}
use mathlib.Core.List.{List, [], ◌∷◌, ◌++◌, map, append_assoc, append-nil}
use Prim.Native.Nat.{ℕ, ◌+◌, ◌*◌, ◌-◌, ◌≤◌, ◌<◌, min}
use native.Mathlib.Nat.{mul-add}
use native.Mathlib.Omega.{arith}
use borrow.Author.Tests.{leb-true, leb-false, le-leb}
use lib.Dec.{leb}
use lib.Ieee.{Float}
use lib.ListN.{length, take, drop, get_or, set, replicate, length-replicate, length-map, length-take, length-drop, drop_of_length-le}
use lib.Seq.{drop-drop}
use Rattle.lists.specs.All.{all-kept}
use Rattle.lists.specs.Choose.{both, clash}
use Rattle.lists.specs.Pass.{pass-start}
use Rattle.lists.specs.Places.{kept}
use Rattle.lists.specs.Prefix.{fold, fold_more, shown-length}
use Rattle.float32.specs.Numbers.{zero as +0}
use Rattle.envelope.specs.declared.EnvGen.{EnvGen}
use Rattle.stream.specs.declared.UnisonCopy.{UnisonCopy}
use Rattle.model.specs.Types as model
use Rattle.model.specs.Voices.{with_voice, aged_voice, is_ended, copies_in}
use Rattle.model.specs.Mix.{mixing, side_voice, side_mix, on_left, on_right, remaining, ended_handles, report}
use Rattle.model.proofs.Laws.{length-voice}
use Rattle.voice.specs.declared.Voice.{Voice}
use Rattle.voice.specs.View.{Seen, shown, seen}
use Rattle.voice.specs.Changes.{on_seen, no_seen}
use Rattle.voice.proofs.Sizes.{past_end}
use Rattle.render.specs.Mixes.{Fits, AddedAs, with_env, goes_on as stays_on}
use Rattle.render.proofs.Parts.{left-voice, first-sums}
use Rattle.table.specs.View.{seen_in, voices_of, voices_in, in_room, share}
use Rattle.table.specs.Mixes.{Mixed, mixed_from, mix_fits, mix_next, goes_on, mixed_all, MixedTable}
use Rattle.table.specs.declared.Table.{Table}
use Rattle.table.proofs.Shown.{seen_at}
use Rattle.table.proofs.Changes.{map-seen, room-map}
use Rattle.table.proofs.Retaining.{Retaining, retain-here, retain-up, retain-not, remaining-seen, all_told, reported-zeros}

-- past the end nothing is left
drop_min : {A : Type 0} (k : ℕ) (xs : List A) → drop (min k (length xs)) xs ≡ drop k xs
drop_min {A} k xs = by (leb k (length xs)) refl
  where
    by : (b : Bool) → leb k (length xs) ≡ b → drop (min k (length xs)) xs ≡ drop k xs
    by true e = let h : k ≤ length xs = leb-true _ _ e in let f : min k (length xs) ≡ k = omega arith in rw f
    by false e =
        let h : length xs < k = leb-false _ _ e in
        drop_of_length-le xs {i = min k (length xs)} (omega arith) ∙ sym (drop_of_length-le xs {i = k} (omega arith))

-- the mix z under way in the code: the samples from p on are not used yet, i voices are done and `gone` of them have ended
pub record UnderWay (z : Mixed) (vs : List Voice) (xs : List Float) (es : List ℕ) (left right : List Float) (ended : List ℕ) (ws : List Voice) (gone p i : ℕ) : Type 0 where
  pub within : p ≤ length xs
  pub unused : drop p xs ≡ z.samples
  pub left_sums : left ≡ z.left
  pub right_sums : right ≡ z.right
  pub stay : ℕ
  pub table : Retaining z.voices es stay gone i ws ended vs

pub mix-start : (vs : List Voice) (xs left right : List Float) (es : List ℕ) → UnderWay (mixed_from xs left right) vs xs es left right es vs 0 0 0
unfolding ended_handles
mix-start vs xs left right es =
    record {
      within = omega arith;
      unused = refl;
      left_sums = refl;
      right_sums = refl;
      stay = 0;
      table = record { pass = pass-start seen vs; report = refl; many = refl; places = refl };
    }

-- one voice more: v is added, or left as it is
module _ (n : ℕ) (trem : Float) (v : Voice) (small : n ≤ 1024) {z : Mixed} {vs : List Voice} {xs : List Float} {es : List ℕ} {left right : List Float} {ended : List ℕ} {ws : List Voice} {gone p i : ℕ}
    (d : UnderWay z vs xs es left right ended ws gone p i) where
  rest : length z.samples ≡ length xs - p
  rest = ap length (sym d.unused) ∙ length-drop p xs

  fit : mix_fits n z (seen v) ≡ true → Fits v n p xs left right
  unfolding mix_fits seen
  fit e =
      let a = both (leb (n * length (shown v).copies) (length z.samples)) (leb n (length z.left) && leb n (length z.right)) e in
      let b = both (leb n (length z.left)) (leb n (length z.right)) a.1 in
      let s : n * length (shown v).copies ≤ length z.samples = leb-true _ _ a.0 in
      let q = rest in
      let w = d.within in
      let k : p + n * length (shown v).copies ≤ length xs = omega arith in
      record { frames = small; inputs = k; left_sums = rw d.left_sums (leb-true _ _ b.0); right_sums = rw d.right_sums (leb-true _ _ b.1) }

  unfit : mix_fits n z (seen v) ≡ false → Fits v n p xs left right → ⊥
  unfolding mix_fits seen
  unfit e f =
      let k = f.inputs in
      let q = rest in
      let s : n * length (shown v).copies ≤ length z.samples = omega arith in
      let a : n ≤ length z.left = rw d.left_sums at f.left_sums in
      let b : n ≤ length z.right = rw d.right_sums at f.right_sums in
      clash _ (rw (le-leb _ _ s, le-leb _ _ a, le-leb _ _ b)) e

  -- the sums, and the voice after it
  record Done (left' right' : List Float) (env : EnvGen) : Type 0 where
    left_sums : left' ≡ (mix_next n trem z (seen v)).left
    right_sums : right' ≡ (mix_next n trem z (seen v)).right
    voices : (mix_next n trem z (seen v)).voices ≡ z.voices ++ (seen (with_env v env) ∷ [])

  done : {left' right' : List Float} {env : EnvGen} → AddedAs v n trem xs p left right left' right' env → Done left' right' env
  unfolding mix_next seen shown on_seen aged_voice with_voice with_env
  done {left'} {right'} {env} a = by (mix_fits n z (seen v)) refl
    where
      by : (b : Bool) → mix_fits n z (seen v) ≡ b → Done left' right' env
      by true e =
          let f = fit e in
          record { left_sums = a.left_sums f ∙ rw (e, ← d.unused, d.left_sums); right_sums = a.right_sums f ∙ rw (e, ← d.unused, d.right_sums); voices = rw (e, a.env f) }
      by false e =
          let f = a.refused (unfit e) in
          record { left_sums = f.1 ∙ rw (e, d.left_sums); right_sums = f.2 ∙ rw (e, d.right_sums); voices = rw (e, f.0) }

  -- the voice is stored where it stood, and the code goes on behind its samples
  module _ {left' right' : List Float} {env : EnvGen} (a : AddedAs v n trem xs p left right left' right' env) {w : Voice} (q : w ≡ with_env v env)
      {rows p' : ℕ} (k : rows ≡ length (shown v).copies) (m : p' ≡ min (p + n * rows) (length xs)) where
    turned : {stay gone' : ℕ} {ended' : List ℕ} {ts : List Voice} → Retaining (z.voices ++ (seen w ∷ [])) es stay gone' (i + 1) ts ended' vs
        → UnderWay (mix_next n trem z (seen v)) vs xs es left' right' ended' ts gone' p' (i + 1)
    unfolding mix_next seen
    turned {stay} r =
        record {
          within = omega arith;
          unused = rw (m, k) (drop_min _ xs ∙ sym (drop-drop (share n (seen v)) p xs) ∙ ap (drop (share n (seen v))) d.unused);
          left_sums = (done a).left_sums;
          right_sums = (done a).right_sums;
          stay = stay;
          table = rw ((done a).voices, ← q) r;
        }

    module _ {on : Bool} (test : on ≡ stays_on env) where
      tested : on ≡ not (is_ended (shown w))
      unfolding is_ended shown with_env
      tested = rw q test

      pub mix-here : on ≡ true → gone ≤ 0 → i < length vs → UnderWay (mix_next n trem z (seen v)) vs xs es left' right' ended (set ws i w) gone p' (i + 1)
      mix-here b g h = turned (retain-here w d.table (sym tested ∙ b) (omega arith) h)

      pub mix-up : on ≡ true → 0 < gone → i < length vs
          → UnderWay (mix_next n trem z (seen v)) vs xs es left' right' ended (set (set ws i w) (i - gone) (get_or (set ws i w) i past_end)) gone p' (i + 1)
      mix-up b g h = turned (retain-up w d.table (sym tested ∙ b) past_end g h)

      pub mix-not : on ≡ false → UnderWay (mix_next n trem z (seen v)) vs xs es left' right' (set ended gone v.handle) (set ws i w) (gone + 1) p' (i + 1)
      unfolding with_env
      mix-not b =
          let h : w.handle ≡ v.handle = rw q in
          turned {stay = d.stay} (rw (← h) (retain-not w d.table (sym tested ∙ b)))

-- ---- the loop

-- the mix of the first i voices of a table
abbrev pub mixed_to : ℕ → Float → Table → List Float → List Float → List Float → ℕ → Mixed
mixed_to n trem t xs left right i = fold (mix_next n trem) (mixed_from xs left right) (take i (seen_in t))

module _ (t : Table) (long : length t.voices ≡ 64) (n : ℕ) (trem : Float) (xs left right : List Float) where
  size : length (seen_in t) ≡ min t.count 64
  size = simp (length-map, length-take, long)

  -- v is the voice that is read at i
  pub mixed-more : (i : ℕ) (v : Voice) → i < min t.count 64 → v ≡ get_or t.voices i past_end
      → mixed_to n trem t xs left right (i + 1) ≡ mix_next n trem (mixed_to n trem t xs left right i) (seen v)
  mixed-more i v h r = fold_more (mix_next n trem) _ (seen_in t) i no_seen (let s = size in omega arith) ∙ rw (seen_at t.count t.voices i (omega arith), ← r)

-- ---- a block that fits

module _ (n : ℕ) (trem : Float) where
  -- a mix with a voice that fits
  abbrev added_to : Mixed → Seen → Mixed
  added_to z x = record {
    samples = drop (share n x) z.samples;
    left = (side_voice on_left n trem (mixing z.samples z.left) x.voice).sums;
    right = (side_voice on_right n trem (mixing z.samples z.right) x.voice).sums;
    voices = z.voices ++ (on_seen (aged_voice n) x ∷ []);
  }

  next_fits : (z : Mixed) (x : Seen) → share n x ≤ length z.samples → n ≤ length z.left → n ≤ length z.right → mix_next n trem z x ≡ added_to z x
  unfolding mix_next mix_fits
  next_fits z x a b c = rw (le-leb _ _ a, le-leb _ _ b, le-leb _ _ c)

  -- one side with a voice more
  side-next : (side : UnisonCopy → Float) (xs sums : List Float) (x : Seen)
      → mixing (drop (share n x) xs) (side_voice side n trem (mixing xs sums) x.voice).sums ≡ side_voice side n trem (mixing xs sums) x.voice
  side-next side xs sums x = rw (← left-voice side n trem (mixing xs sums) x.voice)

  -- every voice is added
  record Whole (z : Mixed) (l : List Seen) (y : Mixed) : Type 0 where
    voices : y.voices ≡ z.voices ++ map (on_seen (aged_voice n)) l
    left_sums : y.left ≡ (fold (side_voice on_left n trem) (mixing z.samples z.left) (voices_of l)).sums
    right_sums : y.right ≡ (fold (side_voice on_right n trem) (mixing z.samples z.right) (voices_of l)).sums

  whole : (l : List Seen) (z : Mixed) → n * copies_in (voices_of l) ≤ length z.samples → n ≤ length z.left → n ≤ length z.right
      → Whole z l (fold (mix_next n trem) z l)
  whole [] z a b c = record { voices = sym (append-nil z.voices); left_sums = refl; right_sums = refl }
  whole (x ∷ l) z a b c =
      let m = mul-add n (length x.voice.copies) (copies_in (voices_of l)) in
      let d = length-drop (share n x) z.samples in
      let p = length-voice on_left n trem (mixing z.samples z.left) x.voice in
      let q = length-voice on_right n trem (mixing z.samples z.right) x.voice in
      let h = whole l (added_to z x) (omega arith) (omega arith) (omega arith) in
      rw (next_fits z x (omega arith) b c)
      (record {
        voices = h.voices ∙ append_assoc z.voices _ _;
        left_sums = rw (side-next on_left z.samples z.left x) at h.left_sums;
        right_sums = rw (side-next on_right z.samples z.right x) at h.right_sums;
      })

-- the voices of a table, n frames older
abbrev older : ℕ → Table → List model.Voice
older n t = map (aged_voice n) (voices_in t)

-- a block of n frames from zeros: its sound, its report and the table after it, as the model has them
pub record Played (n : ℕ) (trem : Float) (t : Table) (xs left right : List Float) (ended : List ℕ) (r : Table) : Type 0 where
  pub left_sums : take n left ≡ side_mix on_left n trem xs (voices_in t)
  pub right_sums : take n right ≡ side_mix on_right n trem xs (voices_in t)
  pub said : model.Reply.mixed (t.count - r.count) ended ≡ report (ended_handles (older n t))
  pub voices : voices_in r ≡ remaining (older n t)
  pub size : r.count ≤ t.count
  pub room : in_room (seen_in t) ≡ true → in_room (seen_in r) ≡ true

abbrev zeros : List Float
zeros = replicate 1024 +0

-- with n samples for each copy of the table
pub played-all : (n : ℕ) (trem : Float) (t : Table) (xs : List Float) {left right : List Float} {ended : List ℕ} {r : Table}
    → length t.voices ≡ 64 → t.count ≤ 64 → n ≤ 1024 → n * copies_in (voices_in t) ≡ length xs
    → MixedTable n trem t xs zeros zeros (replicate 64 0) left right ended r → Played n trem t xs left right ended r
unfolding report
played-all n trem t xs {left} {right} {ended} {r} long few small full d =
    let z = length-replicate 1024 +0 in
    let k : min n 1024 ≡ n = omega arith in
    let w = whole n trem (seen_in t) (mixed_from xs zeros zeros) (omega arith) (omega arith) (omega arith) in
    let l = (mixed_all n trem t xs zeros zeros).voices in
    let e : l ≡ map (on_seen (aged_voice n)) (seen_in t) = rw k w.voices in
    let aged : voices_of l ≡ older n t = rw e (map-seen (aged_voice n) (seen_in t)) in
    let many : length l ≡ t.count = rw e (length-map (seen_in t) (on_seen (aged_voice n)) ∙ shown-length seen t.count t.voices (omega arith)) in
    let c = d.table.count in
    let told : length (kept goes_on l) + length (ended_handles (older n t)) ≡ length l = rw aged at (all_told l) in
    let gone : t.count - r.count ≡ length (ended_handles (older n t)) = omega arith in
    record {
      left_sums = first-sums on_left n 1024 trem xs left (voices_in t) small (d.left_sums ∙ rw k w.left_sums);
      right_sums = first-sums on_right n 1024 trem xs right (voices_in t) small (d.right_sums ∙ rw k w.right_sums);
      said = rw (gone, d.report, aged, reported-zeros (ended_handles (older n t)) 64 (omega arith));
      voices = ap voices_of d.table.seen ∙ remaining-seen l ∙ ap remaining aged;
      size = omega arith;
      room = λ h. ap in_room d.table.seen ∙ all-kept (λ (x : Seen). leb x.count 8) goes_on l (ap in_room e ∙ room-map (aged_voice n) (seen_in t) ∙ h);
    }
