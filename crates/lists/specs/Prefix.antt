-- Laws on the first elements of a list, at the code's `i + 1`, for loops that count up.
use Rattle.std.specs.Prelude.{◌≡◌, refl, List, [], ◌∷◌, ◌++◌, map, ℕ, zero, suc, ◌+◌, ◌≤◌, ◌<◌, min, length, take, drop, get_or, set}
use Rattle.std.proofs.Common.{ap, ◌∙◌, append_assoc, arith, length-append, length-take, length-drop, get_or-take, take_at}
use Rattle.std.proofs.lemmas.List.{map-append, length-map, get_or_at, set_at, take_more, drop_more, map-set, take_more_set, get_or_default}
use Rattle.std.proofs.lemmas.Grind.{common_steps}
pub use Rattle.std.proofs.lemmas.List.{take_more, drop_more, map-set, get_or_default as get_d_any}
use Rattle.std.proofs.Math.ListN.{get_or-map}
use Rattle.std.proofs.Math.Seq.{take-set-lt}

module _ {A : Type 0} where
  -- of an array of size m there are no more than m
  pub take_min : (n m : ℕ) (xs : List A) → length xs ≡ m → take (min n m) xs ≡ take n xs
  take_min n m xs e = grind (arith, common_steps)

  -- what holds of each element and of one more
  pub each_more : (d : A) (P : A → Type 0) (xs : List A) (a : A) → ((j : ℕ) → j < length xs → P (get_or xs j d)) → P a
      → (j : ℕ) → j < length xs + 1 → P (get_or (xs ++ (a ∷ [])) j d)
  each_more d P [] a f g zero h = g
  each_more d P [] a f g (suc j) h = absurd (omega arith)
  each_more d P (x ∷ xs) a f g zero h = f 0 (omega arith)
  each_more d P (x ∷ xs) a f g (suc j) h = each_more d P xs a (λ (i : ℕ) l. f (suc i) (omega arith)) g j (omega arith)

module _ {A B : Type 0} where
  -- from the left: what a loop computes
  abbrev pub fold : (B → A → B) → B → List A → B
  fold f z [] = z
  fold f z (a ∷ rest) = fold f (f z a) rest

  pub fold-snoc : (f : B → A → B) (z : B) (xs : List A) (a : A) → fold f z (xs ++ (a ∷ [])) ≡ f (fold f z xs) a
  fold-snoc f z [] a = refl
  fold-snoc f z (x ∷ xs) a = fold-snoc f (f z x) xs a

  pub fold_more : (f : B → A → B) (z : B) (xs : List A) (i : ℕ) (d : A) → i < length xs
      → fold f z (take (i + 1) xs) ≡ f (fold f z (take i xs)) (get_or xs i d)
  fold_more f z xs i d h = rw (take_more xs i d, fold-snoc)

  pub map-take : (f : A → B) (k : ℕ) (xs : List A) → map f (take k xs) ≡ take k (map f xs)
  map-take f zero xs = refl
  map-take f (suc k) [] = refl
  map-take f (suc k) (x ∷ xs) = ap (◌∷◌ (f x)) (map-take f k xs)

  pub map-drop : (f : A → B) (k : ℕ) (xs : List A) → map f (drop k xs) ≡ drop k (map f xs)
  map-drop f zero xs = refl
  map-drop f (suc k) [] = refl
  map-drop f (suc k) (x ∷ xs) = map-drop f k xs

  -- the view of the first n: how long it is, what stands in it, and what a store does to it
  pub shown-length : (f : A → B) (n : ℕ) (xs : List A) → n ≤ length xs → length (map f (take n xs)) ≡ n
  shown-length f n xs h = simp (length-map, length-take) (omega arith)

  pub shown-at : (f : A → B) (n : ℕ) (xs : List A) (i : ℕ) (d : A) → i < n → get_or (map f (take n xs)) i (f d) ≡ f (get_or xs i d)
  shown-at f n xs i d h = get_or-map f (take n xs) i d ∙ ap f (get_or-take n xs i d h)

  pub shown-set : (f : A → B) (n : ℕ) (xs : List A) (i : ℕ) (a : A) → i < n → map f (take n (set xs i a)) ≡ set (map f (take n xs)) i (f a)
  shown-set f n xs i a h = rw (take-set-lt n xs i a) (map-set f (take n xs) i a)

  -- one more, stored behind the first n
  pub shown-push : (f : A → B) (n : ℕ) (xs : List A) (a : A) → n < length xs → map f (take (n + 1) (set xs n a)) ≡ map f (take n xs) ++ (f a ∷ [])
  shown-push f n xs a h = rw (take_more_set xs n a, map-append f)

  pub shown-any : (f : A → B) (n : ℕ) (xs : List A) (i : ℕ) (d : A) (e : B) → n ≤ length xs → i < n → get_or (map f (take n xs)) i e ≡ f (get_or xs i d)
  shown-any f n xs i d e hn hi =
      get_or_default (map f (take n xs)) i e (f d) (omega (arith, shown-length f n xs hn)) ∙ shown-at f n xs i d hi

-- a change of elements that the view turns into a change of what is seen
pub map-through : {A B : Type 0} (s : A → B) (f : A → A) (g : B → B) → ((a : A) → s (f a) ≡ g (s a)) → (xs : List A) → map s (map f xs) ≡ map g (map s xs)
map-through s f g h [] = refl
map-through s f g h (x ∷ xs) = rw (h x, map-through s f g h xs)

-- A pass that maps the first i elements in place has `map f (take i xs) ++ drop i xs`.
module _ {A : Type 0} (f : A → A) where
  abbrev pub mapped : ℕ → List A → List A
  mapped i xs = map f (take i xs) ++ drop i xs

  pub mapped-none : (xs : List A) → xs ≡ mapped 0 xs
  mapped-none [] = refl
  mapped-none (x ∷ xs) = refl

  pub length-mapped : (i : ℕ) (xs : List A) → length (mapped i xs) ≡ length xs
  length-mapped i xs = simp (length-append, length-map, length-take, length-drop) (omega arith)

  length_front : (xs : List A) (i : ℕ) → i < length xs → length (map f (take i xs)) ≡ i
  length_front xs i h = simp (length-map, length-take) (omega arith)

  pub take-mapped : (i : ℕ) (xs : List A) → i ≤ length xs → take i (mapped i xs) ≡ map f (take i xs)
  take-mapped i xs h = take_at (map f (take i xs)) (drop i xs) i (simp (length-map, length-take) (omega arith))

  -- what the next turn reads is as it was
  pub mapped_next : (xs : List A) (i : ℕ) (d : A) → i < length xs → get_or (mapped i xs) i d ≡ get_or xs i d
  mapped_next xs i d h =
      rw (drop_more xs i d) (get_or_at (map f (take i xs)) (get_or xs i d) (drop (i + 1) xs) d i (length_front xs i h))

  -- what the next turn writes
  pub mapped-more : (xs : List A) (i : ℕ) (d : A) → i < length xs → set (mapped i xs) i (f (get_or xs i d)) ≡ mapped (i + 1) xs
  mapped-more xs i d h =
      rw (drop_more xs i d, take_more xs i d, map-append, append_assoc) (set_at (map f (take i xs)) _ _ _ i (length_front xs i h))

-- a fold seen through h, with its elements seen through k
pub fold-hom : {A B C D : Type 0} (h : B → D) (k : A → C) (f : B → A → B) (g : D → C → D) → ((z : B) (a : A) → h (f z a) ≡ g (h z) (k a))
    → (z : B) (l : List A) → h (fold f z l) ≡ fold g (h z) (map k l)
fold-hom h k f g p z [] = refl
fold-hom h k f g p z (a ∷ l) = fold-hom h k f g p (f z a) l ∙ rw (p z a)

pub fold-see : {A B D : Type 0} (h : B → D) (f : B → A → B) (g : D → A → D) → ((z : B) (a : A) → h (f z a) ≡ g (h z) a)
    → (z : B) (l : List A) → h (fold f z l) ≡ fold g (h z) l
fold-see h f g p z [] = refl
fold-see h f g p z (a ∷ l) = fold-see h f g p (f z a) l ∙ rw (p z a)
