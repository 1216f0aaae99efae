-- A pass that changes the first elements of a list where they stand, by a closure: what it leaves, and what it makes of the list
-- where it is known what the closure gives.
use Rattle.std.specs.Prelude.{◌≡◌, refl, List, [], ◌∷◌, ◌++◌, map, ℕ, zero, suc, ◌+◌, ◌<◌, min, length, take, drop, get_or, set}
use Rattle.std.proofs.Common.{arith, add-one}

module _ {A : Type 0} (post : A → A → Type 0) where
  -- each of the first n is what a call gave of the one that stood there, and those behind are as they were
  abbrev pub FirstChanged : ℕ → List A → List A → Type 0
  FirstChanged zero xs ys = ys ≡ xs
  FirstChanged (suc n) [] ys = ys ≡ []
  FirstChanged (suc n) (x ∷ xs) [] = ⊥
  FirstChanged (suc n) (x ∷ xs) (y ∷ ys) = post x y × FirstChanged n xs ys

  pub changed-more : (n : ℕ) (xs ys : List A) (b d : A) → FirstChanged n xs ys → n < length ys → post (get_or ys n d) b → FirstChanged (n + 1) xs (set ys n b)
  changed-more n xs ys b d w h e = rw add-one (by n xs ys w h e)
    where
      by : (n : ℕ) (xs ys : List A) → FirstChanged n xs ys → n < length ys → post (get_or ys n d) b → FirstChanged (suc n) xs (set ys n b)
      by zero [] [] w h e = let z : ⊥ = omega arith in absurd z
      by zero [] (y ∷ ys) w h e = let z : ◌≡◌ {A = ℕ} 0 1 = cc in let n : ⊥ = omega arith in absurd n
      by zero (x ∷ xs) [] w h e = let z : ⊥ = omega arith in absurd z
      by zero (x ∷ xs) (y ∷ ys) w h e = let p : y ≡ x = cc in let q : ys ≡ xs = cc in (rw p at e, q)
      by (suc n) [] [] w h e = let z : ⊥ = omega arith in absurd z
      by (suc n) [] (y ∷ ys) w h e = let z : ◌≡◌ {A = ℕ} 0 1 = cc in let n : ⊥ = omega arith in absurd n
      by (suc n) (x ∷ xs) [] w h e = absurd w
      by (suc n) (x ∷ xs) (y ∷ ys) w h e = (w.0, by n xs ys w.1 (omega arith) e)

  -- a pass over the first m, as the whole list has it
  pub changed-part : (i m n : ℕ) (xs ys : List A) → m ≡ min n (length xs) → i ≡ m → FirstChanged i (take m xs) ys → FirstChanged n xs (ys ++ drop m xs)
  changed-part i m n xs ys em ei w = by n xs ys m em (rw ei at w)
    where
      by : (n : ℕ) (xs ys : List A) (m : ℕ) → m ≡ min n (length xs) → FirstChanged m (take m xs) ys → FirstChanged n xs (ys ++ drop m xs)
      by zero xs ys zero e w = rw w
      by zero xs ys (suc m) e w = absurd (omega arith)
      by (suc n) [] ys zero e w = rw w
      by (suc n) [] ys (suc m) e w = absurd (omega arith)
      by (suc n) (x ∷ xs) ys zero e w = absurd (omega arith)
      by (suc n) (x ∷ xs) [] (suc m) e w = absurd w
      by (suc n) (x ∷ xs) (y ∷ ys) (suc m) e w = (w.0, by n xs ys m (omega arith) w.1)

  -- where the view of what a call gives is g of the view of the element
  pub changed-seen : {B : Type 0} (s : A → B) (g : B → B) → ((a b : A) → post a b → s b ≡ g (s a)) → (n : ℕ) (xs ys : List A) → FirstChanged n xs ys
      → map s (take n ys) ≡ map g (map s (take n xs))
  changed-seen s g law zero xs ys w = refl
  changed-seen s g law (suc n) [] ys w = rw w
  changed-seen s g law (suc n) (x ∷ xs) [] w = absurd w
  changed-seen s g law (suc n) (x ∷ xs) (y ∷ ys) w = rw (law x y w.0, changed-seen s g law n xs ys w.1)
