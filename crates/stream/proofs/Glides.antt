-- A loop over the samples of a glide: the copy and the curve after i of them.
use mathlib.Core.Path.{◌≡◌, refl, ap, sym, ◌∙◌}
use mathlib.Core.List.{List, [], ◌∷◌, ◌++◌}
use Prim.Native.Nat.{ℕ, zero, suc, ◌+◌, ◌<◌}
use native.Mathlib.Numerals.{add-one}
use lib.Ieee.{Float}
use lib.ListN.{length, take, set, length-set}
use lib.Seq.{take-suc-set, take-length}
use Rattle.stream.specs.declared.UnisonCopy.{UnisonCopy}
use Rattle.stream.specs.Pitch.{pitched, stepped, heard, glided, curve, GlidedOver}

-- one sample more, at the end
glided-more : (n : ℕ) (c : UnisonCopy) → glided (suc n) c ≡ stepped (glided n c)
unfolding glided
glided-more zero c = refl
glided-more (suc n) c = glided-more n (stepped c)

curve-more : (n : ℕ) (c : UnisonCopy) → curve (suc n) c ≡ curve n c ++ (heard (glided (suc n) c) ∷ [])
unfolding curve glided
curve-more zero c = refl
curve-more (suc n) c = ap (◌∷◌ (heard (stepped c))) (curve-more n (stepped c))

-- the pitch p and the numbers `out` after i samples
pub record Glide (c : UnisonCopy) (i : ℕ) (p : Float) (old out : List Float) : Type 0 where
  pub copy : pitched c p c.pitch_target c.glide ≡ glided i c
  pub done : take i out ≡ curve i c
  pub size : length out ≡ length old

pub glide-start : (c : UnisonCopy) (old : List Float) → Glide c 0 c.pitch old old
unfolding glided curve pitched
glide-start c old = record { copy = refl; done = refl; size = refl }

pub glide-more : (c : UnisonCopy) (i : ℕ) (p q : Float) (old out : List Float) → i < length out
    → pitched c q c.pitch_target c.glide ≡ stepped (pitched c p c.pitch_target c.glide) → Glide c i p old out
    → Glide c (i + 1) q old (set out i (heard (pitched c q c.pitch_target c.glide)))
glide-more c i p q old out h e g =
    let k : pitched c q c.pitch_target c.glide ≡ glided (suc i) c = e ∙ ap stepped g.copy ∙ sym (glided-more i c) in
    record {
      copy = rw add-one k;
      done = rw (add-one, take-suc-set out i, g.done, curve-more i c, k);
      size = length-set out i _ ∙ g.size;
    }

pub glide-end : (c : UnisonCopy) (i : ℕ) (p : Float) (old out : List Float) → i ≡ length old → Glide c i p old out
    → GlidedOver c old out (pitched c p c.pitch_target c.glide)
glide-end c i p old out e g =
    record {
      numbers = sym (take-length out) ∙ ap (λ (n : ℕ). take n out) (g.size ∙ sym e) ∙ g.done ∙ ap (λ (n : ℕ). curve n c) e;
      next = g.copy ∙ ap (λ (n : ℕ). glided n c) e;
    }
