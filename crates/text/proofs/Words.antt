-- Words of 8 hexadecimal digits: their texts, and one law for each way that the reader goes on or ends.
use mathlib.Core.Path.{◌≡◌, refl, ap, sym, ◌∙◌}
use mathlib.Core.Bool.{Bool, true, false}
use mathlib.Core.List.{List, [], ◌∷◌, ◌++◌, append_assoc}
use Prim.Native.Nat.{ℕ, zero, suc, ◌+◌, ◌*◌, ◌/◌, ◌%◌, ◌^◌, ◌≤◌, ◌<◌}
use Rattle.std.proofs.Math.Nat.{pow-suc}
use native.Mathlib.Numerals.{add-one}
use native.Mathlib.Omega.{arith}
use lib.Dec.{ltb}
use borrow.Author.Tests.{ltb-true, ltb-false}
use lib.ListN.{length, take, drop, get_or, length-append, take-append-drop}
use lib.Seq.{take_all}
use Rattle.lists.specs.Prefix.{take_more, drop_more}
use Rattle.std.proofs.Common.{Some, None}
use Rattle.text.specs.Text.{glyph, glyphs}
use Rattle.text.specs.Read.{DigitsAs, Got, Any, ValueAs}
use Rattle.lists.specs.Parts.{head-same, parts_same}
use Rattle.text.proofs.Spelt.{Spelt, spelt-append, begun, none-here}
use Rattle.text.proofs.Once.{read-none, read-some}

-- one byte is the digit of one number
pub glyph-same : (c d : ℕ) → c < 16 → d < 16 → glyph c ≡ glyph d → c ≡ d
glyph-same c d h k e = by (ltb c 10) refl (ltb d 10) refl
  where
    by : (a : Bool) → ltb c 10 ≡ a → (b : Bool) → ltb d 10 ≡ b → c ≡ d
    by true p true q = let f : 48 + c ≡ 48 + d = rw (p, q) at e in omega arith
    by true p false q = let f : 48 + c ≡ 55 + d = rw (p, q) at e in let x : c < 10 = ltb-true _ _ p in let y : 10 ≤ d = ltb-false _ _ q in omega arith
    by false p true q = let f : 55 + c ≡ 48 + d = rw (p, q) at e in let x : d < 10 = ltb-true _ _ q in let y : 10 ≤ c = ltb-false _ _ p in omega arith
    by false p false q = let f : 55 + c ≡ 55 + d = rw (p, q) at e in omega arith

pub glyphs-length : (k n : ℕ) → length (glyphs k n) ≡ k
glyphs-length zero n = refl
glyphs-length (suc k) n = let ih = glyphs-length k (n / 16) in rw length-append (omega arith)

spelt-glyphs : (k n : ℕ) → Spelt 16 glyph (glyphs k n)
spelt-glyphs zero n = tt
spelt-glyphs (suc k) n =
    spelt-append 16 glyph (glyphs k (n / 16)) (glyph (n % 16) ∷ []) (spelt-glyphs k (n / 16))
    (record { value = n % 16; small = omega arith; is = refl }, tt)

-- one more digit
pub glyphs-more : (k v d : ℕ) → d < 16 → glyphs (suc k) (16 * v + d) ≡ glyphs k v ++ (glyph d ∷ [])
glyphs-more k v d h =
    let q : (16 * v + d) / 16 ≡ v = omega arith in
    let m : (16 * v + d) % 16 ≡ d = omega arith in
    rw (q, m)

-- 16 to the k, as the digits are counted
abbrev pub room : ℕ → ℕ
room zero = 1
room (suc k) = 16 * room k

room-mono : (i j : ℕ) → i ≤ j → room i ≤ room j
room-mono zero zero h = omega arith
room-mono zero (suc j) h = let q = room-mono zero j (omega arith) in omega arith
room-mono (suc i) zero h = let z : ⊥ = omega arith in absurd z
room-mono (suc i) (suc j) h = let q = room-mono i j (omega arith) in omega arith

pub room_small : (i : ℕ) → i < 8 → 16 * room i ≤ 0x1_0000_0000
room_small i h = room-mono (suc i) 8 (omega arith)

pub glyphs-same : (k v w : ℕ) → v < room k → w < room k → glyphs k v ≡ glyphs k w → v ≡ w
glyphs-same zero v w hv hw e = omega arith
glyphs-same (suc k) v w hv hw e =
    let p = parts_same (glyphs k (v / 16)) (glyphs k (w / 16)) (glyph (v % 16) ∷ []) (glyph (w % 16) ∷ []) (glyphs-length k (v / 16) ∙ sym (glyphs-length k (w / 16))) e in
    let q = glyphs-same k (v / 16) (w / 16) (omega arith) (omega arith) p.0 in
    let r = glyph-same (v % 16) (w % 16) (omega arith) (omega arith) (head-same p.1) in
    omega arith

-- the first i digits were read
pub record Spelling (digits : List ℕ) (value i : ℕ) : Type 0 where
  pub front : take i digits ≡ glyphs i value
  pub small : value < room i

pub spelling-more : (digits : List ℕ) (value i d : ℕ) → i < length digits → Spelling digits value i → d < 16 → get_or digits i 0 ≡ glyph d
    → Spelling digits (16 * value + d) (i + 1)
spelling-more digits value i d h s k e =
    let r : room (suc i) ≡ 16 * room i = refl in
    let b = s.small in
    let q : take (i + 1) digits ≡ take i digits ++ (get_or digits i 0 ∷ []) = take_more digits i 0 h in
    let f : take (i + 1) digits ≡ glyphs (suc i) (16 * value + d) =
    q ∙ ap (λ (x : ℕ). take i digits ++ (x ∷ [])) e ∙ ap (λ (t : List ℕ). t ++ (glyph d ∷ [])) s.front ∙ sym (glyphs-more i value d k) in
    rw (add-one i) (record { front = rw (add-one i) at f; small = omega arith })

-- 16 to the k
pub room_is : (k : ℕ) → room k ≡ 16 ^ k
room_is zero = refl
room_is (suc k) = let ih = room_is k in rw pow-suc (omega arith)

module _ (k : ℕ) (l : List ℕ) where
  none : ((v : ℕ) (rest : List ℕ) → Got (glyphs k) (λ v. v < 16 ^ k) Any l v rest → ⊥) → DigitsAs k l None
  none = read-none (glyphs k) (λ v. v < 16 ^ k) Any l

  pub digits-short : length l < k → DigitsAs k l None
  digits-short h = none (λ v rest g.
      let a = ap length g.whole in
      let b = length-append (glyphs k v) rest in
      let c = glyphs-length k v in
      omega arith)

  module _ (digits rest : List ℕ) (size : length digits ≡ k) (whole : l ≡ digits ++ rest) where
    pub digits_none : (value i : ℕ) → i < k → Spelling digits value i → ValueAs 16 glyph (get_or digits i 0) None → DigitsAs k l None
    digits_none value i h s f = none (λ v more g.
        let a = glyphs-length k v in
        let b = glyphs-length i value in
        let c = drop_more digits i 0 (omega arith) in
        let left : List ℕ = drop (i + 1) digits ++ rest in
        let parts : digits ≡ glyphs i value ++ (get_or digits i 0 ∷ drop (i + 1) digits) =
        sym (take-append-drop i digits) ∙ ap (λ (t : List ℕ). t ++ drop i digits) s.front ∙ ap (λ (t : List ℕ). glyphs i value ++ t) c in
        let e : glyphs k v ++ more ≡ glyphs i value ++ (get_or digits i 0 ∷ left) =
        sym g.whole ∙ whole ∙ ap (λ (t : List ℕ). t ++ rest) parts ∙ append_assoc (glyphs i value) (get_or digits i 0 ∷ drop (i + 1) digits) rest in
        begun 16 glyph (glyphs k v) (glyphs i value) more (get_or digits i 0 ∷ left) (spelt-glyphs k v) (omega arith) e (none-here 16 glyph _ left f))

    pub digits-done : (value : ℕ) → Spelling digits value k → DigitsAs k l (Some (value, rest))
    digits-done value s =
        let f : digits ≡ glyphs k value = sym (take_all k digits (omega arith)) ∙ s.front in
        let small : value < 16 ^ k = rw room_is at s.small in
        read-some (glyphs k) (λ v. v < 16 ^ k) Any l value rest
        (record { whole = whole ∙ ap (λ (t : List ℕ). t ++ rest) f; fits = small; ends = tt })
        (λ v more h _ e.
        let p = parts_same (glyphs k value) (glyphs k v) rest more (glyphs-length k value ∙ sym (glyphs-length k v)) e in
        (glyphs-same k value v s.small (rw (← room_is) at h) p.0, p.1))

pub chunk : (k : ℕ) (l digits rest : List ℕ) → digits ≡ take k l → rest ≡ drop k l → l ≡ digits ++ rest
chunk k l digits rest e f = rw (e, f) (sym (take-append-drop k l))

pub chunk-length : (k : ℕ) (l digits rest : List ℕ) → digits ≡ take k l → rest ≡ drop k l → length rest + k ≡ length l → length digits ≡ k
chunk-length k l digits rest e f h = let a = ap length (chunk k l digits rest e f) in let b = length-append digits rest in omega arith
