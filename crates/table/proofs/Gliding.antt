-- Plan's pass over the voices: what holds before each of them, what a turn makes of it, and a curve that is just long enough.
use mathlib.Core.Path.{◌≡◌, refl, ap, sym, ◌∙◌}
use mathlib.Core.Bool.{Bool, true, false}
use mathlib.Core.List.{List, [], ◌∷◌, ◌++◌, map, flat_map, append_assoc, append-nil}
use Prim.Native.Nat.{ℕ, ◌+◌, ◌-◌, ◌*◌, ◌≤◌, ◌<◌, min}
use native.Mathlib.Nat.{mul-zero, mul-add}
use native.Mathlib.Omega.{arith}
use borrow.Author.Tests.{leb-true, leb-false, le-leb}
use lib.Dec.{leb}
use lib.Ieee.{Float}
use lib.ListN.{length, take, drop, set, get_or, length-take, length-drop, length-map, drop_of_length-le, take-append-drop}
use lib.Seq.{take_all, set-get_or, drop-drop}
use Rattle.lists.specs.Parts.{part_length, part-front, part-rest, rest-on, no_length}
use Rattle.lists.specs.Pass.{Pass, pass-read, pass-keep}
use Rattle.lists.specs.Prefix.{drop_more, shown-length}
use Rattle.stream.specs.Pitch.{curve}
use Rattle.model.specs.Voices.{copies_in}
use Rattle.model.specs.Plan.{curves}
use Rattle.model.proofs.Laws.{length-curves}
use Rattle.voice.specs.declared.Voice.{Voice}
use Rattle.voice.specs.View.{Seen, seen, shown}
use Rattle.voice.specs.Changes.{no_seen}
use Rattle.voice.proofs.Sizes.{past_end}
use Rattle.curves.specs.Glides.{GlidedVoice}
use Rattle.table.specs.View.{seen_first, seen_in, voices_of, voices_in, share, Holds}
use Rattle.table.specs.Plans.{later, Drawn, drawn, GlidedTable}
use Rattle.table.specs.declared.Table.{Table}
use Rattle.table.proofs.Shown.{seen_at}
use Rattle.table.proofs.Edits.{seen-least}

-- d is these voices and numbers before what e has
pub record Before (d e : Drawn) (vs : List Seen) (xs : List Float) : Type 0 where
  pub voices : d.voices ≡ vs ++ e.voices
  pub curve : d.curve ≡ xs ++ e.curve

before_on : {d e f : Drawn} {us vs : List Seen} {xs ys : List Float} → Before d e us xs → Before e f vs ys → Before d f (us ++ vs) (xs ++ ys)
before_on {us = us} {xs = xs} a b =
    record { voices = a.voices ∙ ap (◌++◌ us) b.voices ∙ sym (append_assoc us _ _); curve = a.curve ∙ ap (◌++◌ xs) b.curve ∙ sym (append_assoc xs _ _) }

-- a voice v that glides to w over its part of xs, of k numbers or what is left, is the first that is drawn
module _ (n : ℕ) (v w : Voice) (xs ys : List Float) (k : ℕ) (e : k ≡ min (share n (seen v)) (length xs)) (o : GlidedVoice n v w (take k xs) ys) where
  size : length (take k xs) ≡ k
  size = length-take k xs ∙ omega arith

  pub drawn-size : length ys ≡ k
  unfolding seen curves flat_map
  drawn-size = by (leb (share n (seen v)) (length xs)) refl
    where
      by : (b : Bool) → leb (share n (seen v)) (length xs) ≡ b → length ys ≡ k
      by true q =
          let h : share n (seen v) ≤ length xs = leb-true _ _ q in
          let l = size in
          let f : length (flat_map (curve n) (shown v).copies) ≡ share n (seen v) = (rw append-nil at (length-curves n (shown v ∷ []))) ∙ ap (◌*◌ n) (omega arith) in
          ap length (o.numbers (omega arith)) ∙ f ∙ omega arith
      by false q =
          let h : length xs < share n (seen v) = leb-false _ _ q in
          let l = size in
          ap length (o.other (λ z. omega arith)).1 ∙ l

  pub drawn-first : (vs : List Seen) → Before (drawn n (seen v ∷ vs) xs) (drawn n vs (drop k xs)) (seen w ∷ []) ys
  unfolding drawn seen
  drawn-first vs = by (leb (share n (seen v)) (length xs)) refl
    where
      by : (b : Bool) → leb (share n (seen v)) (length xs) ≡ b → Before (drawn n (seen v ∷ vs) xs) (drawn n vs (drop k xs)) (seen w ∷ []) ys
      by true q =
          let h : share n (seen v) ≤ length xs = leb-true _ _ q in
          let l = size in
          let s : k ≡ share n (seen v) = omega arith in
          rw (q, s, o.voice (omega arith), o.numbers (omega arith)) (record { voices = refl; curve = refl })
      by false q =
          let h : length xs < share n (seen v) = leb-false _ _ q in
          let l = size in
          let s = o.other (λ z. omega arith) in
          rw (q, s.0, s.1, take_all k xs (omega arith), drop_of_length-le xs {i = k} (omega arith)) (record { voices = refl; curve = refl })

-- ---- the loop

-- of the first c of the voices vs, i have glided, and their numbers stand before `at`: ws and new are the voices and the curve now
pub record Gliding (n c : ℕ) (vs : List Voice) (old : List Float) (ws : List Voice) (new : List Float) (at i : ℕ) : Type 0 where
  pub room : at ≤ length old
  pub size : length new ≡ length old
  pub back : drop at new ≡ drop at old
  pub pass : Pass seen (seen_first i ws) i i ws vs
  pub left : Before (drawn n (seen_first c vs) old) (drawn n (drop i (seen_first c vs)) (drop at old)) (seen_first i ws) (take at new)

module _ (n c : ℕ) (vs : List Voice) (old : List Float) (few : c ≤ length vs) where
  module _ {ws : List Voice} {new : List Float} {at i : ℕ} (p : Gliding n c vs old ws new at i) (less : i < c) where
    abbrev v : Voice
    v = get_or ws i past_end

    -- the voice that is read is the next of those that are left
    next : drop i (seen_first c vs) ≡ seen v ∷ drop (i + 1) (seen_first c vs)
    next =
        let l : length (seen_first c vs) ≡ c = simp (length-map, length-take) (omega arith) in
        drop_more (seen_first c vs) i no_seen (omega arith)
        ∙ ap (λ (x : Seen). x ∷ drop (i + 1) (seen_first c vs)) (seen_at c vs i less ∙ ap seen (sym (pass-read past_end p.pass)))

    -- its part, of n numbers for each row, ends at `end`
    module _ {ys zs : List Float} {rows end k : ℕ} (er : rows ≡ length (shown v).copies) (ee : end ≡ min (at + n * rows) (length new)) (ek : k ≡ end - at)
        (g : zs ≡ take at new ++ (ys ++ drop k (drop at new))) where
      pub glide-moves : (w : Voice) → GlidedVoice n v w (take k (drop at new)) ys → Gliding n c vs old (set ws i w) zs end (i + 1)
      unfolding seen
      glide-moves w o =
          let r = p.room in
          let s = p.size in
          let m : n * rows ≡ share n (seen v) = ap (◌*◌ n) er in
          let here : k ≡ min (share n (seen v)) (length (drop at new)) = let l = length-drop at new in omega arith in
          let until : end ≡ at + k = omega arith in
          let l = drawn-size n v w (drop at new) ys k here o in
          let q = pass-keep w (seen w) refl p.pass (omega arith) in
          let d = rw p.back at (drawn-first n v w (drop at new) ys k here o (drop (i + 1) (seen_first c vs))) in
          rw (g, until)
          (record {
            room = omega arith;
            size = part_length at k new ys (omega arith) l ∙ s;
            back = part-rest at k new ys (omega arith) l ∙ rest-on at (at + k) new old (omega arith) p.back;
            pass = record { front = refl; back = q.back; size = q.size; order = q.order };
            left = rw (q.front, part-front at k new ys (omega arith) l, ← drop-drop k at old) (before_on (rw next at p.left) d);
          })

      -- a voice that stands is not put back
      pub glide-stands : GlidedVoice n v v (take k (drop at new)) ys → Gliding n c vs old ws zs end (i + 1)
      glide-stands o = rw (set-get_or ws i past_end) at (glide-moves v o)

  -- every voice has glided
  pub gliding-end : {ws : List Voice} {new : List Float} {at i : ℕ} → Gliding n c vs old ws new at i → i ≡ c
      → (seen_first c ws ≡ (drawn n (seen_first c vs) old).voices) × (new ≡ (drawn n (seen_first c vs) old).curve)
  unfolding drawn
  gliding-end {ws = ws} {new = new} {at = at} p e =
      let l : length (seen_first c vs) ≡ c = simp (length-map, length-take) (omega arith) in
      let none : drop c (seen_first c vs) ≡ [] = drop_of_length-le (seen_first c vs) {i = c} (omega arith) in
      let f = rw (e, none) at p.left in
      (sym (f.voices ∙ append-nil _), sym (f.curve ∙ ap (◌++◌ (take at new)) (sym p.back) ∙ take-append-drop at new))

-- the table given and what the loop leaves, with n frames and c voices
pub glided-table : (frames n c : ℕ) (t : Table) (old : List Float) {ws : List Voice} {new : List Float} {at i : ℕ} → length t.voices ≡ 64
    → n ≡ min frames 1024 → c ≡ min t.count 64 → Gliding n c t.voices old ws new at i → i ≡ c
    → GlidedTable frames t old new (record { voices = ws; count = c })
glided-table frames n c t old {ws = ws} len en ec p e =
    let g = rw (en, seen-least t len c ec) at (gliding-end n c t.voices old (omega arith) p e) in
    let s = shown-length seen c ws (let z = p.pass.size in omega arith) in
    record { table = record { seen = g.0; count = sym (ap length (sym g.0) ∙ s) }; curve = g.1 }

-- ---- a curve that is just long enough

pub drawn-whole : (n : ℕ) (l : List Seen) (xs : List Float) → n * copies_in (voices_of l) ≡ length xs → drawn n l xs ≡ record { voices = map (later n) l; curve = curves n (voices_of l) }
unfolding drawn curves flat_map
drawn-whole n [] xs e = rw (no_length xs (let z = mul-zero n in omega arith))
drawn-whole n (x ∷ l) xs e =
    let m = mul-add n (length x.voice.copies) (copies_in (voices_of l)) in
    let fits : leb (share n x) (length xs) ≡ true = le-leb (share n x) (length xs) (omega arith) in
    let d = length-drop (share n x) xs in
    rw (fits, drawn-whole n l (drop (share n x) xs) (omega arith))

-- so glides every voice of a table
pub glides-whole : (frames : ℕ) (t : Table) (old new : List Float) (r : Table) → frames ≤ 1024 → frames * copies_in (voices_in t) ≡ length old → GlidedTable frames t old new r
    → Holds (map (later frames) (seen_in t)) r × (new ≡ curves frames (voices_in t))
glides-whole frames t old new r few e g =
    let n : min frames 1024 ≡ frames = omega arith in
    let d = drawn-whole frames (seen_in t) old e in
    (rw (n, d) at g.table, rw (n, d) at g.curve)
