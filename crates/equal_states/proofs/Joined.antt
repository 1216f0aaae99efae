-- Answers to questions, and one on floats.
use Rattle.std.proofs.Common.{◌≡◌, ℕ, Bool, true, ap, sym, ◌∙◌}
use Rattle.std.specs.Bool.{Decides}
use Rattle.std.specs.Prelude.{Float}
use Rattle.std.specs.Float.{binary32}
use Rattle.std.specs.Float.Ieee.{of_bits, to_bits}
use Rattle.std.proofs.lemmas.Bool.Decides.{Decides-eqb}
use denote.Floats.{passes}
use lib.Dec.{eqb}
use lib.Ieee.{fits}
use lib.Ieee.Bits.{of_bits-to_bits}

-- the same question in other words
pub means : {r : Bool} {P Q : Type 0} → (P → Q) → (Q → P) → Decides r P → Decides r Q
means f g d = ((λ e. f (d.0 e)), λ q. d.1 (g q))

pub by_bits : (x y : Float) (m n : ℕ) → fits binary32 x ≡ true → fits binary32 y ≡ true → m ≡ to_bits binary32 x → n ≡ to_bits binary32 y → Decides (eqb m n) (x ≡ y)
by_bits x y m n p q d e =
    let back : (z : Float) → fits binary32 z ≡ true → of_bits binary32 (to_bits binary32 z) ≡ z = λ z f. of_bits-to_bits binary32 z (passes _ f) in
    means (λ h. sym (back x p) ∙ ap (of_bits binary32) (sym d ∙ h ∙ e) ∙ back y q) (λ h. d ∙ ap (to_bits binary32) h ∙ sym e) (Decides-eqb m n)
