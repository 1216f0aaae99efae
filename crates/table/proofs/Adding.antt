-- Room for a new voice: the kill, the taking, and the voice added.
use mathlib.Core.Path.{◌≡◌, refl, ap, sym, ◌∙◌}
use mathlib.Core.Bool.{Bool, true, false, cond}
use mathlib.Core.List.{List, [], ◌∷◌, ◌++◌, map-append}
use Prim.Native.Nat.{ℕ, ◌+◌, ◌-◌, ◌*◌, ◌≤◌, ◌<◌, min}
use native.Mathlib.Omega.{arith}
use borrow.Author.Tests.{leb-true, leb-false, le-leb, lt-leb, lt-ltb, le-ltb, ltb-false}
use lib.Dec.{leb, ltb}
use Rattle.std.specs.Prelude.{Option, Some, None, unwrap_or}
use Rattle.std.specs.List.{copy_within}
use lib.ListN.{length, take, get_or, set, length-map, length-set, length-append, get_or-eq_default}
use lib.Seq.{take_all}
use Rattle.lists.specs.Choose.{both, chosen}
use Rattle.lists.specs.Count.{count, count-all}
use Rattle.lists.specs.Least.{lowest-is}
use Rattle.lists.specs.Lone.{set_past}
use Rattle.lists.specs.Places.{without, without-past, without-length, map-without}
use Rattle.model.specs.Types as M
use Rattle.model.specs.Voices.{killed_voice, any_voice, sounding, handle_at, quieter, quietest_sounding, quietest}
use Rattle.model.specs.Notes.{full, after_kill, crowded, after_taking}
use Rattle.model.proofs.Levels.{quieter-ordered}
use Rattle.voice.specs.View.{Seen, shown, seen}
use Rattle.voice.specs.Changes.{on_seen}
use Rattle.voice.specs.declared.Voice.{Voice}
use Rattle.voice.proofs.Sizes.{past_end}
use Rattle.table.specs.View.{seen_in, voices_of, voices_in, in_room, changed_at, place_in, handle_in, Holds}
use Rattle.table.specs.Room.{killed_in, taken_in, stolen, KilledAs, TakenAs, AddedAs}
use Rattle.table.specs.declared.Added.{Added}
use Rattle.table.specs.declared.Table.{Table}
use Rattle.table.proofs.Changes.{changed-seen, room-set, room-without}
use Rattle.table.proofs.Edits.{seen_size, holds_same, holds-changed, holds-without}
use Rattle.table.proofs.Searches.{some-inside, none-inside}
use Rattle.table.proofs.Shown.{handle-at}

-- ---- as the model has it

module _ (most : ℕ) (l : List Seen) where
  pub killed-voices : voices_of (killed_in most l) ≡ after_kill most (voices_of l)
  unfolding killed_in after_kill
  killed-voices = by (full most (voices_of l)) refl
    where
      by : (b : Bool) → full most (voices_of l) ≡ b → voices_of (killed_in most l) ≡ after_kill most (voices_of l)
      by true e = rw e (changed-seen killed_voice (quietest_sounding (voices_of l)) l)
      by false e = rw e

  pub taken-voices : voices_of (taken_in most l) ≡ after_taking most (voices_of l)
  unfolding taken_in after_taking
  taken-voices = by (crowded most (voices_of l)) refl
    where
      by : (b : Bool) → crowded most (voices_of l) ≡ b → voices_of (taken_in most l) ≡ after_taking most (voices_of l)
      by true e = rw e (map-without (λ (x : Seen). x.voice) (quietest (voices_of l)) l)
      by false e = rw e

  pub killed-room : in_room l ≡ true → in_room (killed_in most l) ≡ true
  unfolding killed_in
  killed-room e = chosen (λ (x : List Seen). in_room x ≡ true) (full most (voices_of l)) _ _ (λ _. room-set killed_voice (quietest_sounding (voices_of l)) l ∙ e) (λ _. e)

  pub taken-room : in_room l ≡ true → in_room (taken_in most l) ≡ true
  unfolding taken_in
  taken-room e = chosen (λ (x : List Seen). in_room x ≡ true) (crowded most (voices_of l)) _ _ (λ _. room-without (quietest (voices_of l)) l e) (λ _. e)

-- ---- the kill and the taking

module _ (r : Table) (len : length r.voices ≡ 64) (few : r.count ≤ 64) where
  abbrev l : List Seen
  l = seen_in r

  least : r.count ≡ min r.count 64
  least = omega arith

  size : length l ≡ r.count
  size = seen_size r len r.count least

  voices-size : length (voices_in r) ≡ r.count
  voices-size = length-map l (λ (x : Seen). x.voice) ∙ size

  -- the place of a voice that is found, and its handle
  pub inside : (k q : ℕ) → Some k ≡ place_in q (voices_in r) → k < r.count
  inside k q e = let s = some-inside q (voices_in r) k e in let n = voices-size in omega (arith, s.1)

  named : (k q : ℕ) → Some k ≡ place_in q (voices_in r) → Some (get_or r.voices k past_end).handle ≡ handle_in q (voices_in r)
  named k q e =
      let s = some-inside q (voices_in r) k e in
      rw (s.0, lt-ltb k (length (voices_in r)) s.1, handle-at r.count r.voices k (inside k q e)) refl

  nobody : (q : ℕ) → None ≡ place_in q (voices_in r) → None ≡ handle_in q (voices_in r)
  nobody q e = rw (le-ltb q (length (voices_in r)) (none-inside q (voices_in r) e))

  module _ (most : ℕ) where
    pub kill-none : count sounding (voices_in r) < most → KilledAs most r r None
    unfolding killed_in full
    kill-none h =
        let t = lt-leb most (count sounding (voices_in r)) h in
        record { table = rw t (holds_same r len r.count least); handle = rw t }

    pub kill-nobody : most ≤ count sounding (voices_in r) → None ≡ place_in (quietest_sounding (voices_in r)) (voices_in r) → KilledAs most r r None
    unfolding killed_in full
    kill-nobody h e =
        let q = quietest_sounding (voices_in r) in
        let t = le-leb most (count sounding (voices_in r)) h in
        let n = none-inside q (voices_in r) e in
        let s = voices-size in
        let past : changed_at killed_voice q l ≡ l = set_past l q _ (let z = size in omega arith) in
        record { table = rw (t, past) (holds_same r len r.count least); handle = rw t (nobody q e) }

    pub kill-one : most ≤ count sounding (voices_in r) → (k : ℕ) → Some k ≡ place_in (quietest_sounding (voices_in r)) (voices_in r)
        → (w : Voice) → seen w ≡ on_seen killed_voice (seen (get_or r.voices k past_end))
        → KilledAs most r (record { voices = set r.voices k w; count = r.count }) (Some (get_or r.voices k past_end).handle)
    unfolding killed_in full
    kill-one h k e w ew =
        let q = quietest_sounding (voices_in r) in
        let t = le-leb most (count sounding (voices_in r)) h in
        let at = (some-inside q (voices_in r) k e).0 in
        record { table = rw (t, at) (holds-changed r len r.count least killed_voice k w (inside k q e) ew); handle = rw t (named k q e) }

  module _ (n : ℕ) where
    pub take-nobody : n ≤ r.count → None ≡ place_in (quietest (voices_in r)) (voices_in r) → TakenAs n r r None
    take-nobody h e =
        let q = quietest (voices_in r) in
        let s = voices-size in
        let t = le-leb n (length (voices_in r)) (omega arith) in
        let m = none-inside q (voices_in r) e in
        let past : without q l ≡ l = without-past q l (let z = size in omega arith) in
        record { table = rw (t, past) (holds_same r len r.count least); handle = rw t (nobody q e) }

    -- those behind it have moved down
    pub take-one : n ≤ r.count → (k : ℕ) → Some k ≡ place_in (quietest (voices_in r)) (voices_in r)
        → TakenAs n r (record { voices = copy_within r.voices (k + 1) r.count k; count = r.count - 1 }) (Some (get_or r.voices k past_end).handle)
    take-one h k e =
        let q = quietest (voices_in r) in
        let s = voices-size in
        let t = le-leb n (length (voices_in r)) (omega arith) in
        let at = (some-inside q (voices_in r) k e).0 in
        record { table = rw (t, at) (holds-without r len r.count least k (inside k q e)); handle = rw t (named k q e) }

-- a kill takes no voice out
pub killed-few : (most : ℕ) (t r : Table) (h : Option ℕ) → length t.voices ≡ 64 → t.count ≤ 64 → KilledAs most t r h → r.count ≤ 64
unfolding killed_in
killed-few most t r h len few a =
    let n = a.table.count in
    let s = size t len few in
    let k : length (killed_in most (seen_in t)) ≡ length (seen_in t) =
    chosen (λ (l : List Seen). length l ≡ length (seen_in t)) (full most (voices_in t)) _ _ (λ _. length-set (seen_in t) (quietest_sounding (voices_in t)) _) (λ _. refl) in
    omega (arith, n, s, k)

-- ---- the whole

module _ (most : ℕ) (t : Table) (v : Voice) (n : ℕ) (s : seen_in (record { voices = t.voices; count = n }) ≡ seen_in t) where
  abbrev t' : Table
  t' = record { voices = t.voices; count = n }

  pub added : (r u : Table) (x y : Option ℕ) (o : Added) → KilledAs most t' r x → TakenAs (2 * most) r u y
      → Holds (take 64 (seen_in u ++ (seen v ∷ []))) o.table → o.killed ≡ x → o.taken ≡ y → AddedAs most t v o
  unfolding taken_in crowded
  added r u x y o a b h ex ey =
      let l : seen_in r ≡ killed_in most (seen_in t) = a.table.seen ∙ ap (killed_in most) s in
      let m : voices_in r ≡ after_kill most (voices_in t) = ap voices_of l ∙ killed-voices most (seen_in t) in
      let full_in = λ (z : List M.Voice). stolen (full most z) (quietest_sounding z) z in
      let crowded_in = λ (z : List M.Voice). stolen (crowded most z) (quietest z) z in
      record {
        killed = ex ∙ a.handle ∙ ap (λ (z : List Seen). full_in (voices_of z)) s;
        taken = ey ∙ b.handle ∙ ap crowded_in m;
        table = rw (b.table.seen, l) at h;
      }

-- the handle of a voice that is stolen as the model has it, 0 for none
pub stolen-number : (b : Bool) (k : ℕ) (vs : List M.Voice) → unwrap_or (stolen b k vs) 0 ≡ cond b (handle_at k vs) 0
stolen-number false k vs = refl
stolen-number true k vs = by (ltb k (length vs)) refl
  where
    by : (b : Bool) → ltb k (length vs) ≡ b → unwrap_or (handle_in k vs) 0 ≡ handle_at k vs
    by true e = rw e
    by false e = rw e (sym (ap (λ (v : M.Voice). v.handle) (get_or-eq_default vs M.no_voice (ltb-false k (length vs) e))))

-- ---- with the limits of a design, from 1 to 32 voices

room-more : (l : List Seen) (x : Seen) → in_room l ≡ true → x.count ≤ 8 → in_room (l ++ (x ∷ [])) ≡ true
room-more [] x e h = rw (le-leb x.count 8 h)
room-more (y ∷ l) x e h = let b = both (leb y.count 8) (in_room l) e in rw b.0 (room-more l x b.1 h)

module _ (most : ℕ) (t : Table) (v : Voice) (o : Added) (a : AddedAs most t v o) (some : 1 ≤ most) (few : most ≤ 32) (size : length (seen_in t) ≤ 64) where
  abbrev left : List Seen
  left = killed_in most (seen_in t)

  abbrev rest : List Seen
  rest = taken_in most left

  left-size : length left ≡ length (seen_in t)
  unfolding killed_in
  left-size = chosen (λ (l : List Seen). length l ≡ length (seen_in t)) (full most (voices_in t)) _ _ (λ _. length-set (seen_in t) (quietest_sounding (voices_in t)) _) (λ _. refl)

  -- there is a place for the voice
  rest-size : length rest < 64
  unfolding taken_in crowded quietest
  rest-size =
      let z = left-size in
      let n = length-map left (λ (x : Seen). x.voice) in
      chosen (λ (l : List Seen). length l < 64) (crowded most (voices_of left)) _ _
      (λ e.
      let q : 2 * most ≤ length (voices_of left) = leb-true _ _ e in
      let c = count-all (voices_of left) in
      let i = (lowest-is M.no_voice quieter any_voice quieter-ordered (voices_of left) (omega arith)).inside in
      let w = without-length (quietest (voices_of left)) left (omega arith) in
      omega arith)
      (λ e. let q : length (voices_of left) < 2 * most = leb-false _ _ e in omega arith)

  long : length (rest ++ (seen v ∷ [])) ≡ length rest + 1
  long = simp length-append (omega arith)

  whole : Holds (rest ++ (seen v ∷ [])) o.table
  whole = let z = rest-size in let n = long in rw (take_all 64 (rest ++ (seen v ∷ [])) (omega arith)) at a.table

  pub added-size : o.table.count ≤ 64
  added-size = let c = whole.count in let z = rest-size in let n = long in omega arith

  pub added-room : in_room (seen_in t) ≡ true → v.copy_count ≤ 8 → in_room (seen_in o.table) ≡ true
  unfolding seen
  added-room e h = ap in_room whole.seen ∙ room-more rest (seen v) (taken-room most left (killed-room most (seen_in t) e)) h

  pub added-voices : voices_in o.table ≡ after_taking most (after_kill most (voices_in t)) ++ (shown v ∷ [])
  unfolding seen
  added-voices =
      ap voices_of whole.seen ∙ map-append (λ (x : Seen). x.voice) rest (seen v ∷ [])
      ∙ ap (λ (l : List M.Voice). l ++ (shown v ∷ [])) (taken-voices most left ∙ ap (after_taking most) (killed-voices most (seen_in t)))
