-- Items made from others, place by place, and a test of every item.
use mathlib.Core.Path.{◌≡◌, refl, ap, sym, ◌∙◌}
use mathlib.Core.Bool.{Bool, true}
use mathlib.Core.List.{List, [], ◌∷◌, map}
use Prim.Native.Nat.{ℕ, ◌+◌, ◌<◌}
use native.Mathlib.Numerals.{add-one}
use lib.ListN.{length, take, get_or, set}
use lib.Seq.{take-suc-set}
use Rattle.std.specs.List.{AllZip, list_all}
use Rattle.std.proofs.lemmas.Slice.Zip.{all_zipped_more}
use Rattle.lists.specs.Prefix.{take_more}
use Rattle.lists.specs.All.{all, all_map}

module _ {A B : Type 0} (R : A → B → Type 0) where
  pub made-more : (xs : List A) (ys : List B) (i : ℕ) (d : A) (y : B) → i < length xs → i < length ys → R (get_or xs i d) y
      → AllZip R (take i xs) (take i ys) → AllZip R (take (i + 1) xs) (take (i + 1) (set ys i y))
  made-more xs ys i d y hx hy r p = rw (take_more xs i d, add-one, take-suc-set ys i y) (all_zipped_more R _ _ _ y p r)

  -- what g shows of each item made is what f shows of the item that it was made from
  pub alike : {C : Type 0} (f : A → C) (g : B → C) (xs : List A) (ys : List B) → AllZip R xs ys → ((x : A) (y : B) → R x y → g y ≡ f x) → map g ys ≡ map f xs
  alike f g [] [] p h = refl
  alike f g [] (y ∷ ys) p h = absurd p
  alike f g (x ∷ xs) [] p h = absurd p
  alike f g (x ∷ xs) (y ∷ ys) p h = rw (h x y p.0, alike f g xs ys p.1 h)

-- tests that answer alike, all of them
pub all_alike : {A B : Type 0} (p : A → Bool) (q : B → Bool) (xs : List A) (ys : List B) → map p xs ≡ map q ys → all p xs ≡ all q ys
all_alike p q xs ys e = sym (all_map (λ (b : Bool). b) p xs) ∙ ap (all (λ (b : Bool). b)) e ∙ all_map (λ (b : Bool). b) q ys

all_true : {A : Type 0} (xs : List A) → all (λ (a : A). true) xs ≡ true
all_true [] = refl
all_true (x ∷ xs) = all_true xs

pub all-passed : {A B : Type 0} (p : A → Bool) (xs : List A) (ys : List B) → map p xs ≡ map (λ (b : B). true) ys → all p xs ≡ true
all-passed {B = B} p xs ys e = all_alike p (λ (b : B). true) xs ys e ∙ all_true ys

-- the library's test of every item
pub all_same : {A : Type 0} (p : A → Bool) (xs : List A) → list_all p xs ≡ all p xs
all_same p [] = refl
all_same p (x ∷ xs) = rw (all_same p xs)
