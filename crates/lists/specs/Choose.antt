-- Laws on `cond`, the choice by a test.
use Rattle.std.specs.Prelude.{◌≡◌, refl, Bool, true, false, ◌&&◌, ◌||◌, cond, ℕ}
use Rattle.std.proofs.Common.{arith}
pub use Rattle.std.proofs.lemmas.Bool.{cond-true, cond-false}

module _ {A : Type 0} where
  -- what holds of a choice, by its test
  pub chosen : (P : A → Type 0) (b : Bool) (x y : A) → (b ≡ true → P x) → (b ≡ false → P y) → P (cond b x y)
  chosen P true x y f g = f refl
  chosen P false x y f g = g refl

-- no test both passes and fails
pub clash : (b : Bool) → b ≡ true → b ≡ false → ⊥
clash b e f = let z : ◌≡◌ {A = ℕ} 0 1 = cc in omega arith

-- both parts of a test that passes
pub both : (a b : Bool) → a && b ≡ true → (a ≡ true) × (b ≡ true)
both a b e = (grind arith, grind arith)

-- a chain of tests as code with early returns meets it: the first that fails ends an `&&`, the first that passes ends an `||`
module _ (a b : Bool) where
  pub and-fails : a ≡ false → false ≡ a && b
  and-fails e = rw e

  pub and_then : (x : Bool) → a ≡ true → x ≡ b → x ≡ a && b
  and_then x e f = rw e f

  pub or-passes : a ≡ true → true ≡ a || b
  or-passes e = rw e

  pub or_else : (x : Bool) → a ≡ false → x ≡ b → x ≡ a || b
  or_else x e f = rw e f
