-- How many elements pass a test.
use Rattle.std.specs.Prelude.{◌≡◌, refl, Bool, true, false, List, [], ◌∷◌, ◌++◌, map, ℕ, zero, suc, ◌+◌, ◌≤◌, ◌<◌, length, get_or, set, take}
use Rattle.std.proofs.Common.{ap, arith}
use Rattle.lists.specs.Prefix.{take_more}

abbrev pub one_if : Bool → ℕ
one_if true = 1
one_if false = 0

pub one_if-le : (b : Bool) → one_if b ≤ 1
one_if-le true = omega arith
one_if-le false = omega arith

module _ {A : Type 0} where
  abbrev pub count : (A → Bool) → List A → ℕ
  count p [] = 0
  count p (a ∷ rest) = one_if (p a) + count p rest

  pub count-append : (p : A → Bool) (xs ys : List A) → count p (xs ++ ys) ≡ count p xs + count p ys
  count-append p [] ys = omega arith
  count-append p (x ∷ xs) ys = grind (arith, count-append p xs ys)

  pub count-more : (p : A → Bool) (xs : List A) (i : ℕ) (d : A) → i < length xs
      → count p (take (i + 1) xs) ≡ count p (take i xs) + one_if (p (get_or xs i d))
  count-more p xs i d h = rw (take_more xs i d) (omega (arith, count-append p (take i xs) (get_or xs i d ∷ [])))

  pub count_at : (d : A) (p : A → Bool) (xs : List A) (j : ℕ) → j < length xs → p (get_or xs j d) ≡ true → 1 ≤ count p xs
  count_at d p [] j h e = absurd (omega arith)
  count_at d p (x ∷ xs) zero h e = grind arith
  count_at d p (x ∷ xs) (suc j) h e = grind (arith, count_at d p xs j)

  -- one element stored over another
  pub count_set : (p : A → Bool) (d : A) (xs : List A) (k : ℕ) (a : A) → k < length xs → count p (set xs k a) + one_if (p (get_or xs k d)) ≡ count p xs + one_if (p a)
  count_set p d [] k a h = absurd (omega arith)
  count_set p d (x ∷ xs) zero a h = omega arith
  count_set p d (x ∷ xs) (suc k) a h = grind (arith, count_set p d xs k a)

  pub count-all : (xs : List A) → count (λ (a : A). true) xs ≡ length xs
  count-all [] = refl
  count-all (x ∷ xs) = grind (arith, count-all xs)

module _ {A B : Type 0} where
  pub count_map : (f : A → B) (p : B → Bool) (xs : List A) → count p (map f xs) ≡ count (λ (a : A). p (f a)) xs
  count_map f p [] = refl
  count_map f p (x ∷ xs) = ap (λ (n : ℕ). one_if (p (f x)) + n) (count_map f p xs)
