-- Laws for the passes over the held notes.
use mathlib.Core.Path.{◌≡◌, refl, ap, sym, ◌∙◌}
use mathlib.Core.Bool.{Bool, true, false, not}
use Rattle.std.specs.Prelude.{Option, Some, None}
use Rattle.std.specs.List.{slice_get}
use Rattle.std.specs.Option.{option_map, option_copied, MatchOption, IsSomeAnd}
use Rattle.std.proofs.lemmas.Option.{none-some, same_Some, slice_get-map, slice_get-get_or}
use denote.Bor.{Bor}
use mathlib.Core.List.{List, [], ◌∷◌, ◌++◌, map, append-nil}
use Prim.Native.Nat.{ℕ, ◌+◌, ◌-◌, ◌≤◌, ◌<◌, min}
use native.Mathlib.Omega.{arith}
use borrow.Author.Tests.{eq-eqb, ne_eqb, lt-ltb, ltb-true, ltb-false}
use lib.Dec.{eqb, ltb}
use lib.ListN.{length, get_or, set, length-set, take, length-map, length-take, length-append}
use lib.Seq.{take_all, take-append-le}
use Rattle.lists.specs.All.{all}
use Rattle.lists.specs.Choose.{both}
use Rattle.lists.specs.Perms.{times, distinct, times-of-distinct, distinct-short}
use Rattle.lists.specs.Places.{kept_append, kept-none, kept-le, count_kept}
use Rattle.lists.specs.Prefix.{shown-length, shown-push}
use Rattle.note.specs.declared.Note.{Note}
use Rattle.model.specs.Notes.{held_without, held_with, newest_held, none_held}
use Rattle.held.specs.View.{number_of_note, held_first, held_in, newest_in, byte, Holds}
use Rattle.held.specs.declared.Held.{Held}
use Rattle.held.proofs.Flags.{held_more, held_whole}

-- after i notes: what is kept stands in front, and each of it is a byte
pub record Keeping (held : List Note) (note w i : ℕ) (notes : List Note) : Type 0 where
  pub front : held_first w notes ≡ held_without note (held_first i held)
  pub size : length notes ≡ 256
  pub order : w ≤ i
  pub bytes : all byte (held_without note (held_first i held)) ≡ true

pub keeping_start : (held : List Note) (note : ℕ) (notes : List Note) → length notes ≡ 256 → Keeping held note 0 0 notes
unfolding held_without
keeping_start held note notes e = record { front = refl; size = e; order = omega arith; bytes = refl }

module _ (p : ℕ → Bool) where
  all_more : (xs : List ℕ) (x : ℕ) → all p xs ≡ true → p x ≡ true → all p (xs ++ (x ∷ [])) ≡ true
  all_more [] x e f = rw f
  all_more (y ∷ xs) x e f = let b = both (p y) (all p xs) e in rw b.0 (all_more xs x b.1 f)

module _ (held : List Note) (note w i : ℕ) (notes : List Note) (d : Note) (h : i < length held) (k : Keeping held note w i notes) where
  one_more : held_without note (held_first (i + 1) held) ≡ held_without note (held_first i held) ++ held_without note ((get_or held i d).0 ∷ [])
  unfolding held_without
  one_more = rw (held_more held i d h) (kept_append (λ (x : ℕ). not (eqb x note)) (held_first i held) ((get_or held i d).0 ∷ []))

  stays : ((get_or held i d).0 ≡ note → ⊥) → held_without note (held_first (i + 1) held) ≡ held_without note (held_first i held) ++ ((get_or held i d).0 ∷ [])
  unfolding held_without
  stays n = one_more ∙ rw (ne_eqb (get_or held i d).0 note n)

  pub keeping-more : (get_or held i d).0 < 256 → w < 256 → ((get_or held i d).0 ≡ note → ⊥) → Keeping held note (w + 1) (i + 1) (set notes w (get_or held i d))
  keeping-more b small n =
      let z = k.size in
      record {
        front = shown-push number_of_note w notes (get_or held i d) (omega arith) ∙ rw (k.front, stays n);
        size = length-set notes w _ ∙ k.size;
        order = let o = k.order in omega arith;
        bytes = rw (stays n) (all_more byte (held_without note (held_first i held)) (get_or held i d).0 k.bytes (lt-ltb _ 256 b));
      }

  pub keeping-skip : (get_or held i d).0 ≡ note → Keeping held note w (i + 1) notes
  unfolding held_without
  keeping-skip e =
      let s : held_without note (held_first (i + 1) held) ≡ held_without note (held_first i held) = one_more ∙ rw (eq-eqb (get_or held i d).0 note e, append-nil) in
      record { front = rw s k.front; size = k.size; order = let o = k.order in omega arith; bytes = rw s k.bytes }

pub keeping-end : (held : List Note) (note w i : ℕ) (notes : List Note) → length held ≤ i → w ≤ 256 → Keeping held note w i notes
    → Holds (held_without note (map number_of_note held)) (record { notes = notes; count = w })
keeping-end held note w i notes h small k =
    let z = k.size in
    let l = held_whole i held h in
    let is : held_first w notes ≡ held_without note (map number_of_note held) = k.front ∙ ap (held_without note) l in
    record { notes = is; count = sym (shown-length number_of_note w notes (omega arith)) ∙ ap length is; bytes = rw l at k.bytes }

-- the newest is the last
newest-last : (l : List ℕ) → slice_get l (length l - 1) ≡ newest_in l
unfolding newest_in newest_held none_held
newest-last [] = refl
newest-last (x ∷ l) =
    rw (ne_eqb (length (x ∷ l)) 0 (λ (z : length (x ∷ l) ≡ 0). omega arith))
    (slice_get-get_or (x ∷ l) (length (x ∷ l) - 1) 0 (omega arith))

pub newest-of : (notes : List Note) (last : Option (Bor Note)) (r : Option ℕ) (P : Bor Note → ℕ → Type 0)
    → option_copied last ≡ slice_get notes (length notes - 1) → MatchOption last (r ≡ None) (λ x. IsSomeAnd r (P x))
    → ((x : Bor Note) (k : ℕ) → P x k → k ≡ x.now.0) → r ≡ newest_in (map number_of_note notes)
newest-of notes last r P e m f = answered last r m ∙ ap (option_map number_of_note) e ∙ seen
  where
    answered : (last : Option (Bor Note)) (r : Option ℕ) → MatchOption last (r ≡ None) (λ x. IsSomeAnd r (P x)) → r ≡ option_map number_of_note (option_copied last)
    answered None r m = m
    answered (Some x) None m = absurd m
    answered (Some x) (Some k) m = ap Some (f x k m)

    seen : option_map number_of_note (slice_get notes (length notes - 1)) ≡ newest_in (map number_of_note notes)
    seen =
        sym (slice_get-map number_of_note notes (length notes - 1))
        ∙ ap (λ (n : ℕ). slice_get (map number_of_note notes) (n - 1)) (sym (length-map notes number_of_note))
        ∙ newest-last (map number_of_note notes)

-- what an answer of `newest` says of the list
pub newest-some : (l : List ℕ) (x : ℕ) → newest_in l ≡ Some x → (none_held l ≡ false) × (x ≡ newest_held l)
unfolding newest_in
newest-some l x e = by (none_held l) refl
  where
    by : (b : Bool) → none_held l ≡ b → (none_held l ≡ false) × (x ≡ newest_held l)
    by true q = let z : None ≡ Some x = rw q at e in absurd (none-some x z)
    by false q = (q, sym (same_Some _ _ (rw q at e)))

pub newest-none : (l : List ℕ) → newest_in l ≡ None → none_held l ≡ true
unfolding newest_in
newest-none l e = by (none_held l) refl
  where
    by : (b : Bool) → none_held l ≡ b → none_held l ≡ true
    by true q = q
    by false q = let z : Some (newest_held l) ≡ None = rw q at e in absurd (none-some _ (sym z))

-- 256 notes leave no room
full-same : (l : List ℕ) (x : ℕ) → length l ≡ 256 → take 256 (l ++ (x ∷ [])) ≡ l
full-same l x e = take-append-le 256 l (x ∷ []) (omega arith) ∙ take_all 256 l (omega arith)

-- the note behind the rest, where there is room
module _ (note : ℕ) (l : List ℕ) (rest : Held) (len : length rest.notes ≡ 256) (r : Holds (held_without note l) rest) where
  pub with-room : note < 256 → rest.count < 256 → Holds (take 256 (held_with note l)) (record { notes = set rest.notes rest.count (record { 0 = note }); count = rest.count + 1 })
  unfolding held_with
  with-room n h =
      let c = r.count in
      let long : length (held_without note l ++ (note ∷ [])) ≡ rest.count + 1 = simp length-append (omega arith) in
      rw (take_all 256 (held_without note l ++ (note ∷ [])) (omega arith))
      (record {
        notes = shown-push number_of_note rest.count rest.notes (record { 0 = note }) (omega arith) ∙ rw r.notes;
        count = sym long;
        bytes = all_more byte (held_without note l) note r.bytes (lt-ltb note 256 n);
      })

  pub with-full : 256 ≤ rest.count → Holds (take 256 (held_with note l)) rest
  unfolding held_with
  with-full h =
      let c = r.count in
      let s = ap length (sym r.notes) in
      let n : length (held_in rest) ≡ min rest.count 256 = simp (length-map, length-take, len) in
      rw (full-same (held_without note l) note (omega arith)) r

-- where no note was held twice there is room
module _ (note : ℕ) (l : List ℕ) (small : note < 256) (once : distinct l ≡ true) (few : length l ≤ 256) where
  gone : times note (held_without note l) ≡ 0
  unfolding held_without
  gone = kept-none (λ (x : ℕ). eqb x note) (λ (x : ℕ). not (eqb x note)) (λ x e. rw e) l

  still : (y : ℕ) → times y (held_without note l) ≤ 1
  unfolding held_without
  still y =
      let a = count_kept (λ (x : ℕ). eqb x y) (λ (x : ℕ). not (eqb x note)) l in
      let b = times-of-distinct l once y in
      omega arith

  pub with-whole : all byte (take 256 (held_with note l)) ≡ true → take 256 (held_with note l) ≡ held_with note l
  unfolding held_with held_without
  with-whole e = by (ltb (length (held_without note l)) 256) refl
    where
      by : (b : Bool) → ltb (length (held_without note l)) 256 ≡ b → take 256 (held_with note l) ≡ held_with note l
      by true q =
          let h = ltb-true (length (held_without note l)) 256 q in
          take_all 256 (held_without note l ++ (note ∷ [])) (simp length-append (omega arith))
      by false q =
          let h = ltb-false (length (held_without note l)) 256 q in
          let k = kept-le (λ (x : ℕ). not (eqb x note)) l in
          let same = full-same (held_without note l) note (omega arith) in
          let z = distinct-short 256 note (held_without note l) small (rw same at e) gone still in
          let n : ⊥ = omega arith in
          absurd n
