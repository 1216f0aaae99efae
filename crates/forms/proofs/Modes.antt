-- The modes: a word for each, of which none begins another.
use mathlib.Core.Path.{◌≡◌, refl}
use mathlib.Core.Bool.{true, false}
use mathlib.Core.List.{List, ◌∷◌, ◌++◌, append_cancel_left}
use Prim.Native.Nat.{ℕ}
use native.Mathlib.Omega.{arith}
use Rattle.std.proofs.Common.{Some}
use Rattle.lists.specs.Parts.{head-same}
use Rattle.design.specs.declared.PlayMode.{PlayMode}
use Rattle.design.specs.declared.PlayMode.TheVariants.{Poly, Mono}
use Rattle.text.specs.Read.{ReadAs, Any}
use Rattle.text.proofs.Once.{read-some}
use Rattle.forms.specs.Forms.{poly, mono, legato, mode_text}
use Rattle.forms.specs.Parts.{AnyMode}

clash : (x y : ℕ) (xs ys : List ℕ) {A : Type 0} → (x ≡ y → ⊥) → x ∷ xs ≡ y ∷ ys → A
clash x y xs ys f e = absurd (f (head-same e))

same : (v w : PlayMode) (more rest : List ℕ) → mode_text v ++ more ≡ mode_text w ++ rest → (v ≡ w) × (more ≡ rest)
same Poly Poly more rest e = (refl, append_cancel_left poly more rest e)
same Poly (Mono false) more rest e = clash 112 109 _ _ (λ z. omega arith) e
same Poly (Mono true) more rest e = clash 112 108 _ _ (λ z. omega arith) e
same (Mono false) Poly more rest e = clash 109 112 _ _ (λ z. omega arith) e
same (Mono false) (Mono false) more rest e = (refl, append_cancel_left mono more rest e)
same (Mono false) (Mono true) more rest e = clash 109 108 _ _ (λ z. omega arith) e
same (Mono true) Poly more rest e = clash 108 112 _ _ (λ z. omega arith) e
same (Mono true) (Mono false) more rest e = clash 108 109 _ _ (λ z. omega arith) e
same (Mono true) (Mono true) more rest e = (refl, append_cancel_left legato more rest e)

module _ (l : List ℕ) where
  pub mode-some : (v : PlayMode) (rest : List ℕ) → l ≡ mode_text v ++ rest → ReadAs mode_text AnyMode Any l (Some (v, rest))
  mode-some v rest p = read-some mode_text AnyMode Any l v rest (record { whole = p; fits = tt; ends = tt }) (λ w more f g e. same v w rest more e)
