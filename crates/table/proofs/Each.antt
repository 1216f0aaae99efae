-- What check 1 of the table asks of each voice, and what it says of their copies.
use mathlib.Core.Path.{◌≡◌, ap, ◌∙◌}
use mathlib.Core.Bool.{Bool, true, ◌&&◌}
use mathlib.Core.List.{List, [], ◌∷◌}
use Prim.Native.Nat.{ℕ, ◌*◌}
use native.Mathlib.Omega.{arith}
use borrow.Author.Tests.{eqb-true}
use lib.Dec.{leb}
use lib.ListN.{length}
use Rattle.lists.specs.Choose.{both}
use Rattle.lists.specs.All.{all, all_both, all_map}
use Rattle.model.specs.Voices.{copies_in}
use Rattle.model.specs.Formed.{handle_fits, copies_fit, stage_fits}
use Rattle.voice.specs.View.{Seen}
use Rattle.table.specs.View.{voices_of, in_room}
use Rattle.table.specs.Check.{voice_fits}

-- what is asked of each voice, one question after the other
module _ (next copies : ℕ) (l : List Seen) where
  pub four : all (voice_fits next copies) l ≡ (in_room l && (all (handle_fits next) (voices_of l) && (all (copies_fit copies) (voices_of l) && all stage_fits (voices_of l))))
  unfolding voice_fits
  four =
      all_both (λ (x : Seen). leb x.count 8) _ l
      ∙ ap (λ (b : Bool). in_room l && b)
      (all_both (λ (x : Seen). handle_fits next x.voice) _ l
      ∙ ap (λ (b : Bool). all (λ (x : Seen). handle_fits next x.voice) l && b) (all_both (λ (x : Seen). copies_fit copies x.voice) _ l)
      ∙ rw (all_map (handle_fits next) (λ (x : Seen). x.voice) l, all_map (copies_fit copies) (λ (x : Seen). x.voice) l, all_map stage_fits (λ (x : Seen). x.voice) l))

-- voices of k copies each
pub copies-even : (p : Seen → Bool) (k : ℕ) → ((x : Seen) → p x ≡ true → length x.voice.copies ≡ k) → (l : List Seen) → all p l ≡ true
    → copies_in (voices_of l) ≡ length l * k
copies-even p k f [] e = omega arith
copies-even p k f (x ∷ l) e =
    let a = both (p x) (all p l) e in
    let d = f x a.0 in
    let h = copies-even p k f l a.1 in
    omega arith

pub fits-copies : (next k : ℕ) (x : Seen) → voice_fits next k x ≡ true → length x.voice.copies ≡ k
unfolding voice_fits
fits-copies next k x e =
    let b = both (leb x.count 8) _ e in
    let c = both (handle_fits next x.voice) _ b.1 in
    eqb-true (length x.voice.copies) k (both (copies_fit k x.voice) (stage_fits x.voice) c.1).0
