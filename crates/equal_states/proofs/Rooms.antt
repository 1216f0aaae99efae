-- Where every count is within its array, the view tells the counts too.
use mathlib.Core.Path.{◌≡◌, refl, ap, sym, ◌∙◌}
use mathlib.Core.Bool.{Bool, true}
use mathlib.Core.List.{List, [], ◌∷◌, map, head-eq_of_cons-eq, tail-eq_of_cons-eq, cons-ne-nil}
use Prim.Native.Nat.{ℕ, zero, suc, ◌≤◌}
use native.Mathlib.Omega.{arith}
use borrow.Author.Tests.{leb-true}
use lib.Dec.{leb}
use lib.ListN.{length, take}
use lib.Seq.{length-take-le}
use mir.Val.{Val}
use denote.Array.{each}
use denote.Laws.{Is}
use denote.Shadow.{shadow}
use denote.Struct.Declared.{row, shape}
use denote.Struct.Struct.{Struct}
use Rattle.lists.specs.Choose.{both}
use Rattle.lists.specs.Prefix.{shown-length}
use Rattle.model.specs.Types as M
use Rattle.voice.specs.View.{seen, shown}
use Rattle.table.specs.View.{voices_of, in_room}
use Rattle.voice.specs.declared.Voice.{Voice}
use Rattle.voice.specs.contracts.Voice as VT
use Rattle.held.specs.View.{number_of_note}
use Rattle.instrument.specs.View.{view, counted}
use Rattle.instrument.specs.declared.Instrument.{Instrument}
use Rattle.instrument.specs.contracts.Instrument as IT
use Rattle.instrument.proofs.Calls.{counts}
use Rattle.voice.proofs.Sizes.{copies-long}
use Rattle.instrument.proofs.Sizes.{voices-long, held-long}
use Rattle.equal_states.specs.Same.{Same, SameAs}
use Rattle.std.specs.Bool.{Decides}
use Rattle.equal_states.proofs.Joined.{means}

-- every voice has room for 8 copies
abbrev Roomy : List Voice → Type 0
Roomy [] = Unit {0}
Roomy (v ∷ vs) = (length v.copies ≡ 8) × Roomy vs

roomy-first : (n : ℕ) (vs : List Voice) → Roomy vs → Roomy (take n vs)
roomy-first zero vs g = tt
roomy-first (suc n) [] g = tt
roomy-first (suc n) (v ∷ vs) g = (g.0, roomy-first n vs g.1)

-- what owning a state tells of its arrays
each-roomy : (vs : List Voice) (us : List Val) → shadow (each _ (Struct (shape VT.the_type)).own_val (map (VT.the_type).to vs) us) → Roomy vs
each-roomy [] us g = tt
each-roomy (v ∷ vs) [] g = absurd g
each-roomy (v ∷ vs) (u ∷ us) g = (copies-long v g.0, each-roomy vs us g.1)

-- the array owns each voice as its row, which is its struct
as_structs : (vs : List Voice) (us : List Val)
    → shadow (each (VT.the_row).Denot (VT.the_row).own_val vs us)
    → shadow (each _ (Struct (shape VT.the_type)).own_val (map (VT.the_type).to vs) us)
as_structs [] [] g = g
as_structs [] (u ∷ us) g = g
as_structs (v ∷ vs) [] g = g
as_structs (v ∷ vs) (u ∷ us) g = (g.0, as_structs vs us g.1)

pub record Sized (s : Instrument) : Type 0 where
  pub voices : length s.table.voices ≡ 64
  pub held : length s.held.notes ≡ 256
  pub roomy : Roomy s.table.voices

pub sized : (s : Instrument) {us : List Val} → Is (row IT.the_type) s us → Sized s
sized s g = record { voices = voices-long s g; held = held-long s g; roomy = each-roomy s.table.voices _ (as_structs s.table.voices _ g.1.1.1.0.1.1.0.1.1) }

-- a count within its array is how many copies are shown
shown-copies : (v : Voice) → length v.copies ≡ 8 → leb v.copy_count 8 ≡ true → length (shown v).copies ≡ v.copy_count
unfolding shown
shown-copies v l e = let k : v.copy_count ≤ 8 = leb-true _ 8 e in length-take-le v.copy_count v.copies (omega arith)

shown-seen : (v w : Voice) → length v.copies ≡ 8 → length w.copies ≡ 8 → leb v.copy_count 8 ≡ true → leb w.copy_count 8 ≡ true → shown v ≡ shown w → seen v ≡ seen w
unfolding seen
shown-seen v w l m e f q =
    let c : v.copy_count ≡ w.copy_count = sym (shown-copies v l e) ∙ ap (λ (x : M.Voice). length x.copies) q ∙ shown-copies w m f in
    λ i. record { voice = q i; count = c i }

room_of : (v : Voice) (vs : List Voice) → in_room (map seen (v ∷ vs)) ≡ true → (leb v.copy_count 8 ≡ true) × (in_room (map seen vs) ≡ true)
unfolding seen
room_of v vs e = both (leb v.copy_count 8) (in_room (map seen vs)) e

-- so voices that are shown alike are seen alike
told : (vs ws : List Voice) → Roomy vs → Roomy ws → in_room (map seen vs) ≡ true → in_room (map seen ws) ≡ true → voices_of (map seen vs) ≡ voices_of (map seen ws) → map seen vs ≡ map seen ws
unfolding seen
told [] [] l m e f q = refl
told [] (w ∷ ws) l m e f q = absurd (cons-ne-nil _ _ (sym q))
told (v ∷ vs) [] l m e f q = absurd (cons-ne-nil _ _ q)
told (v ∷ vs) (w ∷ ws) l m e f q =
    let d = room_of v vs e in
    let g = room_of w ws f in
    let h = shown-seen v w l.0 m.0 d.0 g.0 (head-eq_of_cons-eq q) in
    let t = told vs ws l.1 m.1 d.1 g.1 (tail-eq_of_cons-eq q) in
    λ i. h i ∷ t i

-- equal views of two arrays have equal counts
same_count : {A B : Type 0} (f : A → B) (m n : ℕ) (xs ys : List A) → m ≤ length xs → n ≤ length ys → map f (take m xs) ≡ map f (take n ys) → m ≡ n
same_count f m n xs ys h k q = sym (shown-length f m xs h) ∙ ap length q ∙ shown-length f n ys k

module _ (a b : Instrument) (x : Sized a) (y : Sized b) where
  view_tells : counted a ≡ true → counted b ≡ true → view a ≡ view b → Same a b
  unfolding view
  view_tells e f q =
      let j = counts a e in
      let k = counts b f in
      let va = a.table.voices in
      let vb = b.table.voices in
      let ra = roomy-first a.table.count va x.roomy in
      let rb = roomy-first b.table.count vb y.roomy in
      let t = told (take a.table.count va) (take b.table.count vb) ra rb j.room k.room (ap (λ (m : M.Model). m.voices) q) in
      let h = ap (λ (m : M.Model). m.held) q in
      record {
        table = record { count = same_count seen _ _ va vb (omega arith) (omega arith) t; seen = t };
        held = record { count = same_count number_of_note _ _ a.held.notes b.held.notes (omega arith) (omega arith) h; notes = h };
        view = q;
      }

  pub whole : {r : Bool} → Decides r (Same a b) → SameAs a b r
  whole d = record { always = d; in_room = λ e f. means (λ s. s.view) (view_tells e f) d }
