-- What a search found: the place is within the list exactly when some element passes.
use Rattle.std.specs.Prelude.{◌≡◌, refl, Bool, true, List, [], ◌∷◌, ◌≤◌, ◌<◌, length, get_or}
use Rattle.std.proofs.Common.{arith}
use Rattle.lists.specs.Count.{count}
use Rattle.lists.specs.Places.{find_at, last_at}

module _ {A : Type 0} (p : A → Bool) where
  pub find-passes : (d : A) (xs : List A) → find_at p xs < length xs → p (get_or xs (find_at p xs) d) ≡ true
  find-passes d [] h = absurd (omega arith)
  find-passes d (x ∷ xs) h = grind (arith, find-passes d xs)

  pub find-missed : (xs : List A) → length xs ≤ find_at p xs → count p xs ≡ 0
  find-missed [] h = refl
  find-missed (x ∷ xs) h = grind (arith, find-missed xs)

  pub last-counts : (xs : List A) → last_at p xs < length xs → 1 ≤ count p xs
  last-counts [] h = absurd (omega arith)
  last-counts (x ∷ xs) h = grind (arith, last-counts xs)

  pub last-missed : (xs : List A) → length xs ≤ last_at p xs → count p xs ≡ 0
  last-missed [] h = refl
  last-missed (x ∷ xs) h = grind (arith, last-missed xs)
