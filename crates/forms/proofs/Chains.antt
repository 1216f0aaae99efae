-- Parts read one after the other.
use mathlib.Core.Path.{◌≡◌, refl, ap, sym, ◌∙◌}
use mathlib.Core.List.{List, [], ◌∷◌, ◌++◌, append_assoc, append-nil, append_cancel_left}
use Prim.Native.Nat.{ℕ, ◌<◌}
use native.Mathlib.Omega.{arith}
use Rattle.std.specs.Bool.{Decides}
use Rattle.std.specs.Cmp.Lexicographic.{pointwise}
use Rattle.std.proofs.Common.{Option, Some, None, Bor, Bool, true, false, not, nat_eq, ◌+◌, length, take, drop}
use Rattle.std.proofs.lemmas.Slice.Eq.{strip_prefix_is, slice_eq-Decides}
use Rattle.std.proofs.lemmas.Bool.Decides.{Decides-eqb}
use Rattle.lists.specs.Parts.{head-same}
use Rattle.text.specs.Text.{NoDigit}
use Rattle.text.specs.Read.{Got, ReadAs}
use Rattle.text.proofs.Once.{some-same, read-none, read-got, read-some}
use Rattle.forms.specs.Parts.{LineOf}

-- a byte below `0` is no digit
pub apart : (x : ℕ) (xs : List ℕ) → x < 48 → NoDigit (x ∷ xs)
apart x xs h d rest k e = let q = head-same e in omega arith

-- the line ends here
abbrev pub AtEnd : List ℕ → Type 0
AtEnd rest = rest ≡ []

-- ---- words that lead to a part

-- what the library's strip_prefix answers
pub cut-none : (words l : List ℕ) → pointwise nat_eq (take (length words) l) words ≡ false → (rest : List ℕ) → l ≡ words ++ rest → ⊥
cut-none words l m = strip_prefix_is Decides-eqb l words None m

pub cut-some : (words l : List ℕ) (x : Bor (List ℕ))
    → (pointwise nat_eq (take (length words) l) words ≡ true) × (x.now ≡ drop (length words) l) × (length x.now + length words ≡ length l) → l ≡ words ++ x.now
cut-some words l x m = strip_prefix_is Decides-eqb l words (Some x) m

module _ {B : Type 0} (words : List ℕ) (TB : B → List ℕ) (FB : B → Type 0) (EB : List ℕ → Type 0) (l : List ℕ) where
  pub lead-none : ((rest : List ℕ) → l ≡ words ++ rest → ⊥) → ReadAs (λ v. words ++ TB v) FB EB l None
  lead-none p = read-none (λ v. words ++ TB v) FB EB l (λ v rest g. p (TB v ++ rest) (g.whole ∙ append_assoc words (TB v) rest))

  pub lead : (more : List ℕ) (r : Option (B × List ℕ)) → l ≡ words ++ more → ReadAs TB FB EB more r → ReadAs (λ v. words ++ TB v) FB EB l r
  lead more r p q = record {
    yes = λ v rest e.
        let g = q.yes v rest e in
        record { whole = p ∙ ap (λ (t : List ℕ). words ++ t) g.whole ∙ sym (append_assoc words (TB v) rest); fits = g.fits; ends = g.ends };
    only = λ v rest g.
        let w = append_cancel_left words more (TB v ++ rest) (sym p ∙ g.whole ∙ append_assoc words (TB v) rest) in
        q.only v rest (record { whole = w; fits = g.fits; ends = g.ends });
  }

-- ---- one part behind the other

module _ {A : Type 0} (T : A → List ℕ) (F : A → Type 0) (E : List ℕ → Type 0) (l : List ℕ) where
  -- what was read, and what is left
  pub step : (a : A) (m : List ℕ) (v : A) (rest : List ℕ) → ReadAs T F E l (Some (a, m)) → F v → E rest → l ≡ T v ++ rest → m ≡ rest
  step a m v rest p f g s = ap (λ (x : A × List ℕ). x.1) (some-same (p.only v rest (record { whole = s; fits = f; ends = g })))

  -- nothing was read, so nothing stands there
  pub stop : (v : A) (rest : List ℕ) → ReadAs T F E l None → F v → E rest → l ≡ T v ++ rest → ⊥
  stop v rest p f g s = let e = p.only v rest (record { whole = s; fits = f; ends = g }) in cc

module _ {A B : Type 0} (TA : A → List ℕ) (FA : A → Type 0) (EA : List ℕ → Type 0) (TB : B → List ℕ) (FB : B → Type 0) (EB : List ℕ → Type 0) (l : List ℕ) where
  pub and_then : (a : A) (m : List ℕ) (b : B) (n : List ℕ) → ReadAs TA FA EA l (Some (a, m)) → ReadAs TB FB EB m (Some (b, n))
      → ((w : B) (rest : List ℕ) → EB rest → EA (TB w ++ rest))
      → ReadAs {A = A × B} (λ p. TA p.0 ++ TB p.1) (λ p. FA p.0 × FB p.1) EB l (Some ((a, b), n))
  and_then a m b n p q follow = read-got {A = A × B} (λ w. TA w.0 ++ TB w.1) (λ w. FA w.0 × FB w.1) EB l (a, b) n whole only
    where
      whole : Got {A = A × B} (λ w. TA w.0 ++ TB w.1) (λ w. FA w.0 × FB w.1) EB l (a, b) n
      whole =
          let x = p.yes a m refl in
          let y = q.yes b n refl in
          record {
            whole = x.whole ∙ ap (λ (t : List ℕ). TA a ++ t) y.whole ∙ sym (append_assoc (TA a) (TB b) n);
            fits = (x.fits, y.fits);
            ends = y.ends;
          }

      only : (w : A × B) (k : List ℕ) → Got {A = A × B} (λ w. TA w.0 ++ TB w.1) (λ w. FA w.0 × FB w.1) EB l w k
          → ◌≡◌ {A = Option ((A × B) × List ℕ)} (Some ((a, b), n)) (Some (w, k))
      only w k g =
          let e = some-same (p.only w.0 (TB w.1 ++ k) (record { whole = g.whole ∙ append_assoc (TA w.0) (TB w.1) k; fits = g.fits.0; ends = follow w.1 k g.ends })) in
          let ea : a ≡ w.0 = ap (λ (u : A × List ℕ). u.0) e in
          let em : m ≡ TB w.1 ++ k = ap (λ (u : A × List ℕ). u.1) e in
          let d = some-same (q.only w.1 k (record { whole = em; fits = g.fits.1; ends = g.ends })) in
          ap (λ (u : B × List ℕ). Some ((a, u.0), u.1)) d ∙ ap (λ (u : A). Some ((u, w.1), k)) ea

-- ---- the end of a line

-- what the library's comparison answers
module _ (words l m : List ℕ) (e : m ≡ words) where
  compared : Decides (pointwise nat_eq l m) (l ≡ m)
  compared = slice_eq-Decides Decides-eqb l m _ refl

  pub words-same : false ≡ not (pointwise nat_eq l m) → l ≡ words
  words-same h = by (pointwise nat_eq l m) refl h
    where
      by : (b : Bool) → pointwise nat_eq l m ≡ b → false ≡ not b → l ≡ words
      by true p q = compared.0 p ∙ e
      by false p q = let z : ⊥ = cc in absurd z

  pub words-other : false ≡ pointwise nat_eq l m → l ≡ words → ⊥
  words-other h f = let t = compared.1 (f ∙ sym e) in cc

  pub words-differ : true ≡ not (pointwise nat_eq l m) → l ≡ words → ⊥
  words-differ h f = let q : true ≡ not true = rw (compared.1 (f ∙ sym e)) at h in cc

pub ended : (words l : List ℕ) → l ≡ words → ReadAs (λ (u : Unit {0}). words) (λ u. Unit) AtEnd l (Some (tt, []))
ended words l e = read-some (λ (u : Unit {0}). words) (λ u. Unit) AtEnd l tt []
    (record { whole = e ∙ sym (append-nil words); fits = tt; ends = refl })
    (λ u rest f g h. (refl, append_cancel_left words _ _ h))

module _ {A : Type 0} (T : A → List ℕ) (F : A → Type 0) (l : List ℕ) where
  pub line-none : ((f : A) → F f → l ≡ T f → ⊥) → LineOf T F l None
  line-none g = record { yes = λ f e. let z : ⊥ = cc in absurd z; only = λ f h e. absurd (g f h e) }

  pub line-some : (v : A) (rest : List ℕ) → ReadAs T F AtEnd l (Some (v, rest)) → LineOf T F l (Some v)
  line-some v rest q = record {
    yes = λ f e.
        let a : v ≡ f = some-same e in
        let g = q.yes v rest refl in
        rw (← a) (g.fits, g.whole ∙ ap (λ (t : List ℕ). T v ++ t) g.ends ∙ append-nil (T v));
    only = λ f h e.
        ap (λ (x : A × List ℕ). Some x.0) (some-same (q.only f [] (record { whole = e ∙ sym (append-nil (T f)); fits = h; ends = refl })));
  }

-- ---- the parts as a form

pub record SameText {A B : Type 0} (TA : A → List ℕ) (FA : A → Type 0) (TB : B → List ℕ) (FB : B → Type 0) (g : A → B) (back : B → A) : Type 0 where
  pub text : (v : A) → FA v → TA v ≡ TB (g v)
  pub fits : (v : A) → FA v → FB (g v)
  pub fits_back : (w : B) → FB w → FA (back w)
  pub again : (w : B) → g (back w) ≡ w

module _ {A B : Type 0} (TA : A → List ℕ) (FA : A → Type 0) (TB : B → List ℕ) (FB : B → Type 0) (g : A → B) (back : B → A) (same : SameText TA FA TB FB g back) where
  pub as_form : (E : List ℕ → Type 0) (l : List ℕ) (v : A) (n : List ℕ) → ReadAs TA FA E l (Some (v, n)) → ReadAs TB FB E l (Some (g v, n))
  as_form E l v n q =
      let x = q.yes v n refl in
      let t = same.text v x.fits in
      read-got TB FB E l (g v) n (record { whole = rw t at x.whole; fits = same.fits v x.fits; ends = x.ends }) (λ w k y.
      let f = same.fits_back w y.fits in
      let u : TB w ≡ TA (back w) = ap TB (sym (same.again w)) ∙ sym (same.text (back w) f) in
      let d = some-same (q.only (back w) k (record { whole = rw u at y.whole; fits = f; ends = y.ends })) in
      ap (λ (p : A × List ℕ). Some (g p.0, p.1)) d ∙ ap (λ (p : B). Some (p, k)) (same.again w))
