-- Digits written into a buffer from its end to its front.
use mathlib.Core.Path.{◌≡◌, ap, sym, ◌∙◌}
use mathlib.Core.List.{List, [], ◌∷◌, ◌++◌, append_assoc, append-nil}
use Prim.Native.Nat.{ℕ, zero, suc, ◌+◌, ◌-◌, ◌*◌, ◌/◌, ◌%◌, ◌≤◌, ◌<◌}
use native.Mathlib.Omega.{arith}
use lib.ListN.{length, drop, set, length-set, drop_of_length-le}
use Rattle.std.proofs.Common.{slice_set}
use Rattle.lists.specs.Parts.{drop-set}
use Rattle.text.specs.Text.{figure, decimal_text, glyphs, word_text}
use Rattle.text.specs.Put.{EndsIn}
use Rattle.text.proofs.Decimals.{text-one, text-more, tenfold}

-- the digits of n but those of `rest` stand from i on
pub record Figuring (n : ℕ) (buffer : List ℕ) (rest i : ℕ) : Type 0 where
  pub whole : decimal_text n ≡ decimal_text rest ++ drop i buffer
  pub small : rest < tenfold i
  pub size : length buffer ≡ 20
  pub inside : i ≤ 20
  pub some : 1 ≤ i

module _ (n : ℕ) (buffer : List ℕ) (rest i k : ℕ) (s : Figuring n buffer rest i) (e : i ≡ suc k) where
  front : (x : ℕ) → drop k (set buffer k x) ≡ x ∷ drop i buffer
  front x =
      let a = s.size in
      let b = s.inside in
      rw e (drop-set buffer k x (omega arith))

  pub figuring-more : 9 < rest → Figuring n (set buffer k (figure (rest % 10))) (rest / 10) k
  figuring-more h =
      let digits : 10 * (rest / 10) + rest % 10 ≡ rest = omega arith in
      let m : decimal_text rest ≡ decimal_text (rest / 10) ++ (figure (rest % 10) ∷ []) =
      ap decimal_text (sym digits) ∙ text-more (rest / 10) (rest % 10) (omega arith) (omega arith) in
      let r : rest < 10 * tenfold k = rw e at s.small in
      let b = s.inside in
      record {
        whole = s.whole ∙ ap (λ (u : List ℕ). u ++ drop i buffer) m
            ∙ append_assoc (decimal_text (rest / 10)) (figure (rest % 10) ∷ []) (drop i buffer)
            ∙ ap (λ (u : List ℕ). decimal_text (rest / 10) ++ u) (sym (front (figure (rest % 10))));
        small = omega arith;
        size = length-set buffer k _ ∙ s.size;
        inside = omega arith;
        some = by k r;
      }
    where
      by : (j : ℕ) → rest < 10 * tenfold j → 1 ≤ j
      by zero r = omega arith
      by (suc j) r = omega arith

  figured : rest ≤ 9 → EndsIn (decimal_text n) (set buffer k (figure (rest % 10))) k
  figured h = let m : rest % 10 ≡ rest = omega arith in rw m last
    where
      last : EndsIn (decimal_text n) (set buffer k (figure rest)) k
      last =
          let a = s.size in
          let b = s.inside in
          let l = length-set buffer k (figure rest) in
          record {
            ends = front (figure rest) ∙ ap (λ (u : List ℕ). u ++ drop i buffer) (sym (text-one rest (omega arith))) ∙ sym s.whole;
            inside = omega arith;
          }

-- the last digit, and the place that it gets
pub figuring_done : (n : ℕ) (buffer : List ℕ) (rest i : ℕ) → Figuring n buffer rest i → rest ≤ 9 → drop (i - 1) (slice_set buffer (i - 1) (48 + rest % 10)) ≡ decimal_text n
figuring_done n buffer rest i s h = let a = s.some in (figured n buffer rest i (i - 1) s (omega arith) h).ends

pub figuring_place : (n : ℕ) (buffer : List ℕ) (rest i x : ℕ) → Figuring n buffer rest i → i - 1 ≤ length (slice_set buffer (i - 1) x)
figuring_place n buffer rest i x s = let a = s.size in let b = s.inside in let c = length-set buffer (i - 1) x in omega arith

-- the digits of n but the first i stand from i on
pub record Glyphing (n : ℕ) (buffer : List ℕ) (rest i : ℕ) : Type 0 where
  pub whole : word_text n ≡ glyphs i rest ++ drop i buffer
  pub size : length buffer ≡ 8
  pub inside : i ≤ 8

pub glyphing-none : (n : ℕ) (buffer : List ℕ) → length buffer ≡ 8 → Glyphing n buffer n 8
unfolding word_text
glyphing-none n buffer s = record {
  whole = sym (append-nil (glyphs 8 n)) ∙ ap (λ (t : List ℕ). glyphs 8 n ++ t) (sym (drop_of_length-le buffer {i = 8} (omega arith)));
  size = s;
  inside = omega arith;
}
