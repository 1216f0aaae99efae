-- What a reader answers is known by what stands in the line: two answers that meet its contract are the same.
use mathlib.Core.Path.{◌≡◌, refl, ap, sym, ◌∙◌}
use mathlib.Core.List.{List, ◌++◌}
use Prim.Native.Nat.{ℕ}
use Rattle.std.proofs.Common.{Option, Some, None}
use Rattle.text.specs.Read.{Got, ReadAs}

pub some-same : {A : Type 0} {x y : A} → Some x ≡ Some y → x ≡ y
some-same e = cc

module _ {A : Type 0} (text : A → List ℕ) (Fits : A → Type 0) (Ends : List ℕ → Type 0) (l : List ℕ) where
  pub read-none : ((v : A) (rest : List ℕ) → Got text Fits Ends l v rest → ⊥) → ReadAs text Fits Ends l None
  read-none f = record { yes = λ v rest e. let z : ⊥ = cc in absurd z; only = λ v rest g. absurd (f v rest g) }

  pub read-got : (v : A) (rest : List ℕ) → Got text Fits Ends l v rest
      → ((w : A) (more : List ℕ) → Got text Fits Ends l w more → ◌≡◌ {A = Option (A × List ℕ)} (Some (v, rest)) (Some (w, more)))
      → ReadAs text Fits Ends l (Some (v, rest))
  read-got v rest g same = record {
    yes = λ w more e.
        let p = some-same e in
        let a : v ≡ w = ap (λ (q : A × List ℕ). q.0) p in
        let b : rest ≡ more = ap (λ (q : A × List ℕ). q.1) p in
        rw (← a, ← b) g;
    only = same;
  }

  -- it is enough that no other text with what may follow is the same
  pub read-some : (v : A) (rest : List ℕ) → Got text Fits Ends l v rest
      → ((w : A) (more : List ℕ) → Fits w → Ends more → text v ++ rest ≡ text w ++ more → (v ≡ w) × (rest ≡ more))
      → ReadAs text Fits Ends l (Some (v, rest))
  read-some v rest g same = read-got v rest g (λ w more h. let s = same w more h.fits h.ends (sym g.whole ∙ h.whole) in let a = s.0 in let b = s.1 in cc)

  pub once : (r q : Option (A × List ℕ)) → ReadAs text Fits Ends l r → ReadAs text Fits Ends l q → r ≡ q
  once (Some x) q s t = sym (t.only x.0 x.1 (s.yes x.0 x.1 refl))
  once None (Some y) s t = s.only y.0 y.1 (t.yes y.0 y.1 refl)
  once None None s t = refl
