-- A list in which at most one element passes a test, or none.
use Rattle.std.specs.Prelude.{◌≡◌, refl, Bool, true, false, List, [], ◌∷◌, map, ℕ, zero, suc, ◌≤◌, ◌<◌, length, get_or, set}
use Rattle.std.proofs.Common.{arith}
pub use Rattle.std.proofs.lemmas.List.{set_past}
use Rattle.lists.specs.Count.{count, count_at}
use Rattle.lists.specs.Places.{find_at}

module _ {A : Type 0} (p : A → Bool) where
  pub none-find : (xs : List A) → count p xs ≡ 0 → find_at p xs ≡ length xs
  none-find [] h = refl
  none-find (x ∷ xs) h = grind (arith, none-find xs)

  pub lone-find : (xs : List A) (k : ℕ) (d : A) → count p xs ≤ 1 → k < length xs → p (get_or xs k d) ≡ true → find_at p xs ≡ k
  lone-find [] k d h l e = absurd (omega arith)
  lone-find (x ∷ xs) zero d h l e = rw e
  lone-find (x ∷ xs) (suc k) d h l e = grind (arith, count_at d p xs k, lone-find xs k d)

  module _ (g : A → A) (stays : (a : A) → p a ≡ false → g a ≡ a) where
    pub none-map : (xs : List A) → count p xs ≡ 0 → map g xs ≡ xs
    none-map [] h = refl
    none-map (x ∷ xs) h = grind (arith, stays x, none-map xs)

    pub lone-map : (xs : List A) (k : ℕ) (d : A) → count p xs ≤ 1 → k < length xs → p (get_or xs k d) ≡ true → map g xs ≡ set xs k (g (get_or xs k d))
    lone-map [] k d h l e = absurd (omega arith)
    lone-map (x ∷ xs) zero d h l e = grind (arith, none-map xs)
    lone-map (x ∷ xs) (suc k) d h l e = grind (arith, stays x, count_at d p xs k, lone-map xs k d)
