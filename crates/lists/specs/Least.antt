-- The place of the first of the lowest among the elements that pass a test, by an order given as a test `below`.
-- Two facts of the order serve: it never holds both ways, and not being above is transitive.
use Rattle.std.specs.Prelude.{◌≡◌, refl, Bool, true, false, not, ◌&&◌, ◌||◌, cond, List, [], ◌∷◌, ◌++◌, map, ℕ, zero, suc, ◌+◌, ◌≤◌, ◌<◌, leb, eqb, length, get_or, take}
use Rattle.std.proofs.Common.{arith, leb-true, leb-false}
use Rattle.std.proofs.Math.ListN.{get_or-map, get_or-append}
use Rattle.std.proofs.lemmas.List.{length-map}
use Rattle.std.proofs.lemmas.Grind.{common_steps}
use Rattle.lists.specs.Choose.{clash}
use Rattle.lists.specs.Count.{one_if, count, count-append, count_at}
use Rattle.lists.specs.Prefix.{take_more}

pub record Ordered {A : Type 0} (below : A → A → Bool) : Type 0 where
  pub one_way : (a b : A) → below a b ≡ true → below b a ≡ false
  pub through : (a b c : A) → below b a ≡ false → below c b ≡ false → below c a ≡ false

-- from the place k in the first i elements, k ≡ i where none passes, the place in one more: whether that one passes, and whether it is below the one at k
abbrev pub lowest_next : ℕ → ℕ → Bool → Bool → ℕ
lowest_next i k passes under = cond passes (cond under i k) (cond (eqb k i) (suc i) k)

module _ {A : Type 0} (d : A) (below : A → A → Bool) (p : A → Bool) where
  -- the length where none passes
  abbrev pub lowest : List A → ℕ
  lowest [] = 0
  lowest (a ∷ rest) = cond (p a && (leb (length rest) (lowest rest) || not (below (get_or rest (lowest rest) d) a))) 0 (suc (lowest rest))

  pub lowest-none : (xs : List A) → count p xs ≡ 0 → lowest xs ≡ length xs
  lowest-none [] e = refl
  lowest-none (a ∷ rest) e = grind (arith, lowest-none rest)

  pub lowest-le : (xs : List A) → lowest xs ≤ length xs
  lowest-le [] = omega arith
  lowest-le (a ∷ rest) = grind (arith, lowest-le rest)

  -- k is the place of the first of the lowest: none that passes is below it, and it is below each before it
  pub record Lowest (xs : List A) (k : ℕ) : Type 0 where
    pub inside : k < length xs
    pub passes : p (get_or xs k d) ≡ true
    pub low : (j : ℕ) → j < length xs → p (get_or xs j d) ≡ true → below (get_or xs j d) (get_or xs k d) ≡ false
    pub first : (j : ℕ) → j < k → p (get_or xs j d) ≡ true → below (get_or xs k d) (get_or xs j d) ≡ true

  -- there is one such place
  pub lowest-one : (xs : List A) (i k : ℕ) → Lowest xs i → Lowest xs k → i ≡ k
  lowest-one xs i k a b = grind (arith, a.low k, a.first k, b.low i, b.first i)

  module _ (o : Ordered below) where
    itself : (a : A) → below a a ≡ false
    itself a = grind (arith, o.one_way a a)

    head-low : (a : A) (rest : List A) → p a ≡ true → ((j : ℕ) → j < length rest → p (get_or rest j d) ≡ true → below (get_or rest j d) a ≡ false) → Lowest (a ∷ rest) 0
    head-low a rest e f = record { inside = omega arith; passes = e; low = low-at; first = λ j h _. let z : ⊥ = omega arith in absurd z }
      where
        low-at : (j : ℕ) → j < length (a ∷ rest) → p (get_or (a ∷ rest) j d) ≡ true → below (get_or (a ∷ rest) j d) a ≡ false
        low-at zero h q = itself a
        low-at (suc j) h q = f j (omega arith) q

    tail-low : (a : A) (rest : List A) (k : ℕ) → (p a ≡ true → below (get_or rest k d) a ≡ true) → Lowest rest k → Lowest (a ∷ rest) (suc k)
    tail-low a rest k f l = record { inside = omega (arith, l.inside); passes = l.passes; low = low-at; first = first-at }
      where
        low-at : (j : ℕ) → j < length (a ∷ rest) → p (get_or (a ∷ rest) j d) ≡ true → below (get_or (a ∷ rest) j d) (get_or rest k d) ≡ false
        low-at zero h q = o.one_way (get_or rest k d) a (f q)
        low-at (suc j) h q = l.low j (omega arith) q

        first-at : (j : ℕ) → j < suc k → p (get_or (a ∷ rest) j d) ≡ true → below (get_or rest k d) (get_or (a ∷ rest) j d) ≡ true
        first-at zero h q = f q
        first-at (suc j) h q = l.first j (omega arith) q

    found-counts : (xs : List A) → lowest xs < length xs → 1 ≤ count p xs
    found-counts [] h = absurd (omega arith)
    found-counts (a ∷ rest) h = grind (arith, found-counts rest)

    pub lowest-is : (xs : List A) → 1 ≤ count p xs → Lowest xs (lowest xs)
    lowest-is [] h = absurd (omega arith)
    lowest-is (a ∷ rest) h = by (p a) refl (leb (length rest) k) refl (below (get_or rest k d) a) refl (lowest-is rest)
      where
        k : ℕ
        k = lowest rest

        by : (x : Bool) → p a ≡ x → (y : Bool) → leb (length rest) k ≡ y → (z : Bool) → below (get_or rest k d) a ≡ z → (1 ≤ count p rest → Lowest rest k)
            → Lowest (a ∷ rest) (cond (p a && (leb (length rest) k || not (below (get_or rest k d) a))) 0 (suc k))
        by true e true f z g ih =
            rw (e, f) (head-low a rest e (λ j hj q. absurd (let i = (ih (count_at d p rest j hj q)).inside in let n : length rest ≤ k = leb-true _ _ f in omega arith)))
        by true e false f false g ih = rw (e, f, g) (head-low a rest e (λ j hj q. o.through a (get_or rest k d) (get_or rest j d) g ((ih (count_at d p rest j hj q)).low j hj q)))
        by true e false f true g ih = rw (e, f, g) (tail-low a rest k (λ _. g) (ih (found-counts rest (leb-false _ _ f))))
        by false e y f z g ih = rw e (tail-low a rest k (λ q. absurd (clash (p a) q e)) (ih (grind arith)))

    -- one more element at the end: it takes the place where it passes and is below
    stays-low : (xs : List A) (a : A) (k : ℕ) → (p a ≡ true → below a (get_or xs k d) ≡ false) → Lowest xs k → Lowest (xs ++ (a ∷ [])) k
    stays-low xs a k f l = record {
      inside = grind (arith, common_steps, l.inside);
      passes = grind (arith, common_steps, l.inside, l.passes);
      low = λ j h q. grind (arith, common_steps, l.inside, l.low j);
      first = λ j h q. grind (arith, common_steps, l.inside, l.first j);
    }

    comes-low : (xs : List A) (a : A) → p a ≡ true → ((j : ℕ) → j < length xs → p (get_or xs j d) ≡ true → below a (get_or xs j d) ≡ true)
        → Lowest (xs ++ (a ∷ [])) (length xs)
    comes-low xs a t f = record {
      inside = grind (arith, common_steps);
      passes = grind (arith, common_steps);
      low = λ j h q. grind (arith, common_steps, itself a, f j, o.one_way a (get_or xs j d));
      first = λ j h q. grind (arith, common_steps, f j);
    }

    -- below the lowest is below each
    below_each : (xs : List A) (a : A) (k : ℕ) → Lowest xs k → below a (get_or xs k d) ≡ true → (j : ℕ) → j < length xs → p (get_or xs j d) ≡ true → below a (get_or xs j d) ≡ true
    below_each xs a k l e j h q = grind (arith, o.through (get_or xs k d) (get_or xs j d) a, l.low j h q)

    lowest-snoc : (xs : List A) (a : A) → lowest (xs ++ (a ∷ [])) ≡ lowest_next (length xs) (lowest xs) (p a) (below a (get_or (xs ++ (a ∷ [])) (lowest xs) d))
    lowest-snoc xs a = by (count p xs) refl (p a) refl (below a (get_or (xs ++ (a ∷ [])) (lowest xs) d)) refl
      where
        size : count p (xs ++ (a ∷ [])) ≡ count p xs + (one_if (p a) + 0)
        size = count-append p xs (a ∷ [])

        is : (k : ℕ) → 1 ≤ count p (xs ++ (a ∷ [])) → Lowest (xs ++ (a ∷ [])) k → lowest (xs ++ (a ∷ [])) ≡ k
        is k h l = lowest-one (xs ++ (a ∷ [])) (lowest (xs ++ (a ∷ []))) k (lowest-is (xs ++ (a ∷ [])) h) l

        same : lowest xs < length xs → get_or (xs ++ (a ∷ [])) (lowest xs) d ≡ get_or xs (lowest xs) d
        same h = get_or-append xs (a ∷ []) d (lowest xs) h

        by : (n : ℕ) → count p xs ≡ n → (t : Bool) → p a ≡ t → (u : Bool) → below a (get_or (xs ++ (a ∷ [])) (lowest xs) d) ≡ u
            → lowest (xs ++ (a ∷ [])) ≡ lowest_next (length xs) (lowest xs) (p a) (below a (get_or (xs ++ (a ∷ [])) (lowest xs) d))
        by zero n true t u g =
            let e = is (length xs) (grind (arith, size)) (comes-low xs a t (λ j h q. let c = count_at d p xs j h q in let z : ⊥ = omega arith in absurd z)) in
            grind (arith, e, lowest-none xs)
        by zero n false t u g = grind (arith, common_steps, lowest-none xs, lowest-none (xs ++ (a ∷ [])), size)
        by (suc m) n true t true g =
            let l = lowest-is xs (omega arith) in
            let e = is (length xs) (grind (arith, size)) (comes-low xs a t (below_each xs a (lowest xs) l (rw (same l.inside) at g))) in
            grind (arith, e)
        by (suc m) n true t false g =
            let l = lowest-is xs (omega arith) in
            let e = is (lowest xs) (grind (arith, size)) (stays-low xs a (lowest xs) (λ _. rw (same l.inside) at g) l) in
            grind (arith, e)
        by (suc m) n false t u g =
            let l = lowest-is xs (omega arith) in
            let e = is (lowest xs) (grind (arith, size)) (stays-low xs a (lowest xs) (λ q. absurd (clash (p a) q t)) l) in
            grind (arith, e, l.inside)

    pub lowest-more : (xs : List A) (i : ℕ) → i < length xs
        → lowest (take (i + 1) xs) ≡ lowest_next i (lowest (take i xs)) (p (get_or xs i d)) (below (get_or xs i d) (get_or xs (lowest (take i xs)) d))
    lowest-more xs i h = grind (arith, common_steps, take_more xs i d, lowest-snoc (take i xs) (get_or xs i d), lowest-le (take i xs))

-- an order and a test that go through a view are those of the view
pub lowest-map : {A B : Type 0} (f : A → B) (d : A) (below : A → A → Bool) (p : A → Bool) (under : B → B → Bool) (q : B → Bool)
    → ((a b : A) → below a b ≡ under (f a) (f b)) → ((a : A) → p a ≡ q (f a)) → (xs : List A) → lowest d below p xs ≡ lowest (f d) under q (map f xs)
lowest-map f d below p under q h g [] = refl
lowest-map f d below p under q h g (a ∷ rest) =
    let k = lowest d below p rest in
    grind (arith, lowest-map f d below p under q h g rest, h (get_or rest k d) a, g a, get_or-map f rest k d, length-map rest f)
