-- A rule of a whole table, computed once as a test over its entries, and the law that it then holds of each of them.
use Rattle.std.specs.Prelude.{◌≡◌, Bool, true, ◌&&◌, List, [], ◌∷◌, ℕ, zero, suc, ◌+◌, ◌<◌, length, get_or}
use Rattle.std.proofs.Common.{arith}

module _ {A : Type 0} (rule : ℕ → A → Bool) where
  -- the rule holds of each entry at its place, places counted from i
  abbrev pub every : ℕ → List A → Bool
  every i [] = true
  every i (x ∷ xs) = rule i x && every (suc i) xs

  pub every-from : (d : A) (xs : List A) (i k : ℕ) → every i xs ≡ true → k < length xs → rule (i + k) (get_or xs k d) ≡ true
  every-from d [] i k e h = absurd (omega arith)
  every-from d (x ∷ xs) i zero e h = grind arith
  every-from d (x ∷ xs) i (suc k) e h = grind (arith, every-from d xs (suc i) k)

  pub every-at : (d : A) (xs : List A) (k : ℕ) → every 0 xs ≡ true → k < length xs → rule k (get_or xs k d) ≡ true
  every-at d xs k e h = grind (arith, every-from d xs 0 k)
