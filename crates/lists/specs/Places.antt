-- Places in a list, a list without one element, those that pass a test.
use Rattle.std.specs.Prelude.{◌≡◌, refl, Bool, true, false, not, cond, List, [], ◌∷◌, ◌++◌, map, ℕ, zero, suc, ◌+◌, ◌≤◌, ◌<◌, ltb, length, get_or, take, drop}
use Rattle.std.proofs.Common.{ap, arith, add-one, length-take}
use Rattle.lists.specs.Count.{one_if, count}
use Rattle.lists.specs.Prefix.{take_more, drop_more}

module _ {A : Type 0} where
  -- the place of the first that passes, and the length where none does
  abbrev pub find_at : (A → Bool) → List A → ℕ
  find_at p [] = 0
  find_at p (a ∷ rest) = cond (p a) 0 (suc (find_at p rest))

  -- the place of the last that passes, and the length where none does
  abbrev pub last_at : (A → Bool) → List A → ℕ
  last_at p [] = 0
  last_at p (a ∷ rest) = cond (ltb (last_at p rest) (length rest)) (suc (last_at p rest)) (cond (p a) 0 (suc (length rest)))

  -- the list without its element k
  abbrev pub without : ℕ → List A → List A
  without k [] = []
  without zero (a ∷ rest) = rest
  without (suc k) (a ∷ rest) = a ∷ without k rest

  -- those that pass the test, in their order
  abbrev pub kept : (A → Bool) → List A → List A
  kept p [] = []
  kept p (a ∷ rest) = cond (p a) (a ∷ kept p rest) (kept p rest)

  -- a search that looks at one after the other: the invariant speaks of what is left
  pub find-found : (p : A → Bool) (xs : List A) (i : ℕ) (d : A) → i < length xs → p (get_or xs i d) ≡ true → find_at p (drop i xs) ≡ 0
  find-found p xs i d h e = rw (drop_more xs i d, e)

  pub find-next : (p : A → Bool) (xs : List A) (i : ℕ) (d : A) → i < length xs → p (get_or xs i d) ≡ false
      → find_at p (drop i xs) ≡ suc (find_at p (drop (i + 1) xs))
  find-next p xs i d h e = rw (drop_more xs i d, e)

  -- a search from the end: none passes in what was looked at
  pub last_none : (p : A → Bool) (xs : List A) → count p xs ≡ 0 → last_at p xs ≡ length xs
  last_none p [] e = refl
  last_none p (x ∷ xs) e = grind (arith, last_none p xs)

  pub last_found : (p : A → Bool) (xs : List A) (k : ℕ) (d : A) → k < length xs → p (get_or xs k d) ≡ true → count p (drop (suc k) xs) ≡ 0 → last_at p xs ≡ k
  last_found p [] k d h e f = absurd (omega arith)
  last_found p (x ∷ xs) zero d h e f = grind (arith, last_none p xs)
  last_found p (x ∷ xs) (suc k) d h e f = grind (arith, last_found p xs k d)

  pub count_left : (p : A → Bool) (xs : List A) (i : ℕ) (d : A) → i < length xs
      → count p (drop i xs) ≡ one_if (p (get_or xs i d)) + count p (drop (i + 1) xs)
  count_left p xs i d h = rw (drop_more xs i d)

  pub without-split : (k : ℕ) (xs : List A) → without k xs ≡ take k xs ++ drop (suc k) xs
  without-split zero [] = refl
  without-split (suc k) [] = refl
  without-split zero (x ∷ xs) = refl
  without-split (suc k) (x ∷ xs) = grind (arith, without-split k xs)

  -- a removal that moves down one after the other
  pub without-none : (k : ℕ) (xs : List A) → without k (take (k + 1) xs) ≡ take k xs
  without-none zero [] = refl
  without-none zero (x ∷ xs) = refl
  without-none (suc k) [] = rw add-one
  without-none (suc k) (x ∷ xs) = grind (arith, without-none k xs)

  pub without-append : (k : ℕ) (xs ys : List A) → k < length xs → without k (xs ++ ys) ≡ without k xs ++ ys
  without-append k [] ys h = absurd (omega arith)
  without-append zero (x ∷ xs) ys h = refl
  without-append (suc k) (x ∷ xs) ys h = grind (arith, without-append k xs ys)

  pub without_more : (k i : ℕ) (xs : List A) (d : A) → k < i → i < length xs
      → without k (take (i + 1) xs) ≡ without k (take i xs) ++ (get_or xs i d ∷ [])
  without_more k i xs d h l = rw (take_more xs i d) (without-append k (take i xs) (get_or xs i d ∷ []) (simp length-take (omega arith)))

  pub without-length : (k : ℕ) (l : List A) → k < length l → length (without k l) + 1 ≡ length l
  without-length k [] h = absurd (omega arith)
  without-length zero (x ∷ l) h = omega arith
  without-length (suc k) (x ∷ l) h = grind (arith, without-length k l)

  -- nothing stands past the end
  pub without-past : (k : ℕ) (l : List A) → length l ≤ k → without k l ≡ l
  without-past k [] h = refl
  without-past zero (x ∷ l) h = absurd (omega arith)
  without-past (suc k) (x ∷ l) h = grind (arith, without-past k l)

  pub kept-le : (p : A → Bool) (xs : List A) → length (kept p xs) ≤ length xs
  kept-le p [] = omega arith
  kept-le p (x ∷ xs) = grind (arith, kept-le p xs)

  pub kept_append : (p : A → Bool) (xs ys : List A) → kept p (xs ++ ys) ≡ kept p xs ++ kept p ys
  kept_append p [] ys = refl
  kept_append p (x ∷ xs) ys = grind (arith, kept_append p xs ys)

  -- those that pass and those that do not are all
  pub count_kept : (p q : A → Bool) (xs : List A) → count p (kept q xs) + count p (kept (λ (a : A). not (q a)) xs) ≡ count p xs
  count_kept p q [] = refl
  count_kept p q (x ∷ xs) = grind (arith, count_kept p q xs)

  -- of those that pass q, none that fail it
  pub kept-none : (p q : A → Bool) → ((a : A) → p a ≡ true → q a ≡ false) → (xs : List A) → count p (kept q xs) ≡ 0
  kept-none p q f [] = refl
  kept-none p q f (x ∷ xs) = grind (arith, kept-none p q f xs, f x)

module _ {A B : Type 0} where
  -- a test that goes through the view is one test of the list and of its view

  -- a test that goes through the view is one test of the list and of its view
  pub find-map : (f : A → B) (p : A → Bool) (q : B → Bool) → ((a : A) → p a ≡ q (f a)) → (xs : List A) → find_at p xs ≡ find_at q (map f xs)
  find-map f p q h [] = refl
  find-map f p q h (x ∷ xs) = rw (h x, find-map f p q h xs)

  pub map-without : (f : A → B) (k : ℕ) (xs : List A) → map f (without k xs) ≡ without k (map f xs)
  map-without f k [] = refl
  map-without f zero (x ∷ xs) = refl
  map-without f (suc k) (x ∷ xs) = ap (◌∷◌ (f x)) (map-without f k xs)

  -- the view of those that pass is those of the view
  pub map-kept : (f : A → B) (q : B → Bool) (xs : List A) → map f (kept (λ (a : A). q (f a)) xs) ≡ kept q (map f xs)
  map-kept f q [] = refl
  map-kept f q (x ∷ xs) = grind (arith, map-kept f q xs)
