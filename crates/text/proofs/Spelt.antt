-- Texts made of digits: the bytes `byte d` of the numbers d below b.
use mathlib.Core.Path.{◌≡◌, refl, ap, sym, ◌∙◌}
use mathlib.Core.Bool.{Bool, true, false}
use mathlib.Core.List.{List, [], ◌∷◌, ◌++◌}
use Prim.Native.Nat.{ℕ, ◌≤◌, ◌<◌}
use lib.Dec.{ltb}
use borrow.Author.Tests.{ltb-true, ltb-false}
use native.Mathlib.Omega.{arith}
use lib.ListN.{length}
use Rattle.std.proofs.Common.{None}
use Rattle.text.specs.Read.{ValueAs}
use Rattle.lists.specs.Parts.{head-same, tail-same, parts_same}
use Rattle.text.specs.Text.{NoneFirst}

module _ (b : ℕ) (byte : ℕ → ℕ) where
  pub record Digit (x : ℕ) : Type 0 where
    pub value : ℕ
    pub small : value < b
    pub is : x ≡ byte value

  abbrev pub Spelt : List ℕ → Type 0
  Spelt [] = Unit
  Spelt (x ∷ xs) = Digit x × Spelt xs

  pub spelt-append : (xs ys : List ℕ) → Spelt xs → Spelt ys → Spelt (xs ++ ys)
  spelt-append [] ys s t = t
  spelt-append (x ∷ xs) ys s t = (s.0, spelt-append xs ys s.1 t)

  -- behind a part of the digits the next digit stands
  pub begun : (xs ys rest more : List ℕ) → Spelt xs → length ys < length xs → xs ++ rest ≡ ys ++ more → NoneFirst b byte more → ⊥
  begun [] ys rest more s h e f = omega arith
  begun (x ∷ xs) [] rest more s h e f =
      let q = s.0.is in
      f s.0.value (xs ++ rest) s.0.small (sym e ∙ ap (λ (y : ℕ). y ∷ (xs ++ rest)) q)
  begun (x ∷ xs) (y ∷ ys) rest more s h e f = begun xs ys rest more s.1 (omega arith) (tail-same e) f

  -- digits with none behind them are all that a text begins with
  pub spelt-same : (xs ys rest more : List ℕ) → Spelt xs → Spelt ys → NoneFirst b byte rest → NoneFirst b byte more → xs ++ rest ≡ ys ++ more → (xs ≡ ys) × (rest ≡ more)
  spelt-same xs ys rest more s t f g e = by (ltb (length xs) (length ys)) refl (ltb (length ys) (length xs)) refl
    where
      by : (a : Bool) → ltb (length xs) (length ys) ≡ a → (c : Bool) → ltb (length ys) (length xs) ≡ c → (xs ≡ ys) × (rest ≡ more)
      by true p c q = absurd (begun ys xs more rest t (ltb-true _ _ p) (sym e) f)
      by false p true q = absurd (begun xs ys rest more s (ltb-true _ _ q) e g)
      by false p false q =
          let l : length ys ≤ length xs = ltb-false _ _ p in
          let m : length xs ≤ length ys = ltb-false _ _ q in
          parts_same xs ys rest more (omega arith) e

  -- a byte that is no digit
  pub none-here : (x : ℕ) (more : List ℕ) → ValueAs b byte x None → NoneFirst b byte (x ∷ more)
  none-here x more v d rest s e = v.no refl d s (head-same e)

  pub none-empty : NoneFirst b byte []
  none-empty d rest s e = let z : ⊥ = cc in absurd z
