-- A list written part by part: what a part that was lent and came back makes of the whole, parts of a part, one list parted in two ways,
-- elements read one by one, and lists that are joined of one list for each element.
use Rattle.std.specs.Prelude.{◌≡◌, ℕ, zero, suc, ◌+◌, ◌-◌, ◌*◌, ◌≤◌, ◌<◌, length, take, drop, get_or, set, replicate}
use Rattle.std.proofs.Math.Path.{refl}
use Rattle.std.proofs.Common.{ap, sym, ◌∙◌, length-take, length-drop, take_all, take-take, drop-drop, drop-cons}
use mathlib.Core.List.{List, [], ◌∷◌, ◌++◌, flat_map, append_assoc, append-nil}
use Rattle.std.proofs.Math.Nat.{mul-suc}
use native.Mathlib.Omega.{arith}
use Rattle.std.proofs.Math.ListN.{length-append}
use Rattle.std.proofs.lemmas.List.{drop_at, drop-set-add, take-set-le, drop-replicate, take-replicate, drop-take}
use Rattle.std.proofs.lemmas.Grind.{common_steps}
pub use Rattle.std.proofs.lemmas.List.{drop-replicate, nil_from_length as no_length}
use Rattle.lists.specs.Prefix.{take_more}

module _ {A : Type 0} where
  -- ys stands for the k elements from `at` on
  pub part_length : (at k : ℕ) (xs ys : List A) → at + k ≤ length xs → length ys ≡ k
      → length (take at xs ++ (ys ++ drop k (drop at xs))) ≡ length xs
  part_length at k xs ys h e = grind (arith, common_steps)

  pub part-size : (at k : ℕ) (xs : List A) → at + k ≤ length xs → length (take k (drop at xs)) ≡ k
  part-size at k xs h = simp (length-take, length-drop) (omega arith)

  pub part-front : (at k : ℕ) (xs ys : List A) → at + k ≤ length xs → length ys ≡ k
      → take (at + k) (take at xs ++ (ys ++ drop k (drop at xs))) ≡ take at xs ++ ys
  part-front at k xs ys h e = grind (arith, common_steps)

  -- and those behind are as they were
  pub part-rest : (at k : ℕ) (xs ys : List A) → at + k ≤ length xs → length ys ≡ k → drop (at + k) (take at xs ++ (ys ++ drop k (drop at xs))) ≡ drop (at + k) xs
  part-rest at k xs ys h e =
      rw (← append_assoc (take at xs) ys (drop k (drop at xs)))
      (drop_at (take at xs ++ ys) (drop k (drop at xs)) (at + k) (simp (length-append, length-take) (omega arith)) ∙ drop-drop k at xs)

module _ {A : Type 0} where
  -- a part of a front is that part of the whole
  pub part-take : (a m n : ℕ) (xs : List A) → a + m ≤ n → take m (drop a (take n xs)) ≡ take m (drop a xs)
  part-take a m n xs h =
      let e : a + (n - a) ≡ n = omega arith in
      rw e at (ap (take m) (drop-take a (n - a) xs)) ∙ take-take m (n - a) (drop a xs) (omega arith)

  pub part-replicate : (a m n : ℕ) (x : A) → a + m ≤ n → take m (drop a (replicate n x)) ≡ replicate m x
  part-replicate a m n x h = rw (drop-replicate a n x) (take-replicate m (n - a) x (omega arith))

  -- what agrees from a on agrees from b on
  pub rest-on : (a b : ℕ) (xs ys : List A) → a ≤ b → drop a xs ≡ drop a ys → drop b xs ≡ drop b ys
  rest-on a b xs ys h e = grind (arith, common_steps, ap (drop (b - a)) e)

  -- what stands from a place on after a store there
  pub drop-set : (l : List A) (k : ℕ) (x : A) → k < length l → drop k (set l k x) ≡ x ∷ drop (suc k) l
  drop-set l k x h = grind (arith, common_steps)

  -- a store behind a part leaves it
  pub part-set : (at k i : ℕ) (x : A) (l : List A) → at + k ≤ i → take k (drop at (set l i x)) ≡ take k (drop at l)
  part-set at k i x l h =
      let e : at + (i - at) ≡ i = omega arith in
      ap (λ (j : ℕ). take k (drop at (set l j x))) (sym e) ∙ ap (take k) (drop-set-add at l (i - at) x) ∙ take-set-le k (drop at l) (i - at) x (omega arith)

  pub length-snoc : (xs : List A) (a : A) (k : ℕ) → length xs ≡ k → length (xs ++ (a ∷ [])) ≡ suc k
  length-snoc xs a k e = omega (arith, length-append xs (a ∷ []))

  pub head-same : {x y : A} {xs ys : List A} → x ∷ xs ≡ y ∷ ys → x ≡ y
  head-same e = cc

  pub tail-same : {x y : A} {xs ys : List A} → x ∷ xs ≡ y ∷ ys → xs ≡ ys
  tail-same e = cc

  -- of two ways to part one list, those with fronts of one length are the same
  pub parts_same : (xs ys cs ds : List A) → length xs ≡ length ys → xs ++ cs ≡ ys ++ ds → (xs ≡ ys) × (cs ≡ ds)
  parts_same [] [] cs ds h e = (refl, e)
  parts_same [] (y ∷ ys) cs ds h e = absurd (omega arith)
  parts_same (x ∷ xs) [] cs ds h e = absurd (omega arith)
  parts_same (x ∷ xs) (y ∷ ys) cs ds h e = let q = parts_same xs ys cs ds (omega arith) cc in (cc, q.1)

  -- a longer front goes on where the shorter ends
  pub front-on : (xs ys cs ds : List A) → length ys ≤ length xs → xs ++ cs ≡ ys ++ ds → xs ≡ ys ++ drop (length ys) xs
  front-on xs [] cs ds h e = refl
  front-on [] (y ∷ ys) cs ds h e = absurd (omega arith)
  front-on (x ∷ xs) (y ∷ ys) cs ds h e = let q = front-on xs ys cs ds (omega arith) cc in cc

  -- `m` elements read one by one from index i, as code writes them out; the reading side of `sets`
  abbrev pub reads : List A → ℕ → ℕ → A → List A
  reads l i zero d = []
  reads l i (suc m) d = get_or l i d ∷ reads l (suc i) m d

  pub reads-eq : (l : List A) (i m : ℕ) (d : A) → i + m ≤ length l → reads l i m d ≡ take m (drop i l)
  reads-eq l i zero d h = refl
  reads-eq l i (suc m) d h = rw (drop-cons l i d (omega arith)) (ap (◌∷◌ (get_or l i d)) (reads-eq l (suc i) m d (omega arith)))

  -- an array is what is read at its places
  pub reads_all : (l : List A) (m : ℕ) (d : A) → length l ≡ m → reads l 0 m d ≡ l
  reads_all l m d e = reads-eq l 0 m d (omega arith) ∙ take_all m l (omega arith)

module _ {A B : Type 0} (f : A → List B) where
  pub flat_append : (xs ys : List A) → flat_map f (xs ++ ys) ≡ flat_map f xs ++ flat_map f ys
  unfolding flat_map
  flat_append [] ys = refl
  flat_append (x ∷ xs) ys = rw (flat_append xs ys, append_assoc)

  pub flat-more : (xs : List A) (i : ℕ) (d : A) → i < length xs → flat_map f (take (i + 1) xs) ≡ flat_map f (take i xs) ++ f (get_or xs i d)
  unfolding flat_map
  flat-more xs i d h = rw (take_more xs i d, flat_append (take i xs) (get_or xs i d ∷ []), append-nil)

  pub length-flat : (n : ℕ) → ((a : A) → length (f a) ≡ n) → (xs : List A) → length (flat_map f xs) ≡ n * length xs
  unfolding flat_map
  length-flat n h [] = omega arith
  length-flat n h (x ∷ xs) = rw mul-suc (omega (arith, length-append (f x) (flat_map f xs), length-flat n h xs, h x))

-- a part of k further leaves one part less
pub parts-left : (at k n j l : ℕ) → j < n → at + k * (n - j) ≡ l → at + k + k * (n - (j + 1)) ≡ l
parts-left at k n j l h e =
    let s : n - j ≡ suc (n - (j + 1)) = omega arith in
    omega (arith, mul-suc k (n - (j + 1)), rw s at e)
