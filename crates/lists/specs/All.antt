-- Every element passes a test.
use Rattle.std.specs.Prelude.{◌≡◌, refl, Bool, true, false, not, ◌&&◌, List, [], ◌∷◌, map, ℕ, zero, suc, ◌+◌, ◌<◌, length, take, drop, get_or}
use Rattle.std.proofs.Common.{arith}
use Rattle.lists.specs.Prefix.{drop_more}
use Rattle.lists.specs.Count.{count}
use Rattle.lists.specs.Places.{kept}

module _ {A : Type 0} (p : A → Bool) where
  abbrev pub all : List A → Bool
  all [] = true
  all (x ∷ xs) = p x && all xs

  -- none fails
  pub all_none : (xs : List A) → all xs ≡ true → count (λ (a : A). not (p a)) xs ≡ 0
  all_none [] e = refl
  all_none (x ∷ xs) e = grind (arith, all_none xs)

  pub none-all : (xs : List A) → count (λ (a : A). not (p a)) xs ≡ 0 → all xs ≡ true
  none-all [] e = refl
  none-all (x ∷ xs) e = grind (arith, none-all xs)

module _ {A : Type 0} (p : A → Bool) where
  -- a loop with an early return looks at what is left
  pub all-next : (xs : List A) (i : ℕ) (d : A) → i < length xs → p (get_or xs i d) ≡ true → all p (drop i xs) ≡ all p (drop (i + 1) xs)
  all-next xs i d h e = rw (drop_more xs i d, e)

  pub all-fails : (xs : List A) (i : ℕ) (d : A) → i < length xs → p (get_or xs i d) ≡ false → all p (drop i xs) ≡ false
  all-fails xs i d h e = rw (drop_more xs i d, e)

  pub all_take : (n : ℕ) (xs : List A) → all p xs ≡ true → all p (take n xs) ≡ true
  all_take zero xs e = refl
  all_take (suc n) [] e = refl
  all_take (suc n) (x ∷ xs) e = grind (arith, all_take n xs)

  pub all_drop : (n : ℕ) (xs : List A) → all p xs ≡ true → all p (drop n xs) ≡ true
  all_drop zero xs e = e
  all_drop (suc n) [] e = refl
  all_drop (suc n) (x ∷ xs) e = grind (arith, all_drop n xs)

  pub all-at : (xs : List A) (j : ℕ) (d : A) → j < length xs → all p xs ≡ true → p (get_or xs j d) ≡ true
  all-at [] j d h e = absurd (omega arith)
  all-at (x ∷ xs) zero d h e = grind arith
  all-at (x ∷ xs) (suc j) d h e = grind (arith, all-at xs j d)

module _ {A : Type 0} (p q : A → Bool) where
  -- two tests at once
  pub all_both : (xs : List A) → all (λ (a : A). p a && q a) xs ≡ (all p xs && all q xs)
  all_both [] = refl
  all_both (x ∷ xs) = grind (arith, all_both xs)

  -- what all pass is passed by those that are kept
  pub all-kept : (xs : List A) → all p xs ≡ true → all p (kept q xs) ≡ true
  all-kept [] e = refl
  all-kept (x ∷ xs) e = grind (arith, all-kept xs)

module _ {A B : Type 0} where
  pub all_map : (p : B → Bool) (f : A → B) (xs : List A) → all p (map f xs) ≡ all (λ (a : A). p (f a)) xs
  all_map p f [] = refl
  all_map p f (x ∷ xs) = rw (all_map p f xs)
