-- Decimals: their texts, the digits that a line begins with, and one law for each way out of the reader.
use mathlib.Core.Path.{◌≡◌, refl, ap, sym, ◌∙◌}
use mathlib.Core.Bool.{Bool, true, false}
use mathlib.Core.List.{List, [], ◌∷◌, ◌++◌, append_assoc, append-nil}
use Prim.Native.Nat.{ℕ, zero, suc, min, ◌+◌, ◌-◌, ◌*◌, ◌/◌, ◌%◌, ◌^◌, ◌≤◌, ◌<◌}
use native.Mathlib.Omega.{arith}
use lib.Dec.{ltb}
use borrow.Author.Tests.{ltb-true, ltb-false, lt-ltb, le-ltb, ne_eqb}
use lib.ListN.{length, get_or, take, drop, length-append, take-append-drop}
use lib.Seq.{take_all}
use Rattle.std.specs.Char.{digit_value, is_ascii_digit}
use Rattle.std.specs.List.{prefix_len}
use Rattle.std.specs.Str.Parse.{ParsesUnsigned, AllDigits, IsNumeral, digits_value, digits_value_after, without_leading_plus}
use Rattle.std.proofs.Common.{Result, Ok, Err, Some, None}
use Rattle.std.specs.Prelude.{MatchResult}
use Rattle.std.specs.Result.{result_ok}
use Rattle.std.specs.Str.{IsUtf8}
use Rattle.std.proofs.lemmas.Str.{digit_value_digit, IsUtf8-from_ascii}
use Rattle.std.proofs.lemmas.Fmt.{IsAscii-from_digits}
use Rattle.std.proofs.lemmas.Int.Digits.{digits_value_push}
use Rattle.text.specs.Text.{figure, figures, decimal_text, NoDigit}
use Rattle.text.specs.Read.{Got, DecimalAs}
use Rattle.lists.specs.Parts.{head-same}
use Rattle.text.proofs.Spelt.{Spelt, spelt-append, begun, spelt-same, none-empty}
use Rattle.text.proofs.Once.{some-same, read-none, read-some}

-- division may be allowed more often than is needed
enough : (j k n : ℕ) → n ≤ j → n ≤ k → figures j n ≡ figures k n
enough zero zero n hj hk = refl
enough zero (suc k) n hj hk = let z : n ≡ 0 = omega arith in rw z
enough (suc j) zero n hj hk = let z : n ≡ 0 = omega arith in rw z
enough (suc j) (suc k) n hj hk = by (ltb n 10) refl (enough j k (n / 10))
  where
    by : (b : Bool) → ltb n 10 ≡ b → (n / 10 ≤ j → n / 10 ≤ k → figures j (n / 10) ≡ figures k (n / 10)) → figures (suc j) n ≡ figures (suc k) n
    by true e ih = rw e
    by false e ih =
        let q : 10 ≤ n = ltb-false _ _ e in
        rw (e, ih (omega arith) (omega arith))

pub text-one : (d : ℕ) → d < 10 → decimal_text d ≡ figure d ∷ []
unfolding decimal_text
text-one zero h = refl
text-one (suc d) h = rw (lt-ltb (suc d) 10 h)

pub text-more : (v d : ℕ) → 1 ≤ v → d < 10 → decimal_text (10 * v + d) ≡ decimal_text v ++ (figure d ∷ [])
unfolding decimal_text
text-more v d hv hd = by (10 * v + d) refl
  where
    by : (n : ℕ) → n ≡ 10 * v + d → figures n n ≡ figures v v ++ (figure d ∷ [])
    by zero e = let z : ⊥ = omega arith in absurd z
    by (suc k) e =
        let q : suc k / 10 ≡ v = omega arith in
        let m : suc k % 10 ≡ d = omega arith in
        let ih : figures k v ≡ figures v v = enough k v v (omega arith) (omega arith) in
        rw (le-ltb (suc k) 10 (omega arith), q, m, ih)

-- a digit, as the library reads it
digit-value : (d : ℕ) → d < 10 → digit_value (figure d) ≡ d
digit-value d h = let e = digit_value_digit (figure d) (omega arith, omega arith) in omega arith

value-figures : (k n : ℕ) → n ≤ k → digits_value 10 (figures k n) ≡ n
value-figures zero n h = let z : n ≡ 0 = omega arith in rw z refl
value-figures (suc k) n h = by (ltb n 10) refl (value-figures k (n / 10))
  where
    by : (b : Bool) → ltb n 10 ≡ b → (n / 10 ≤ k → digits_value 10 (figures k (n / 10)) ≡ n / 10) → digits_value 10 (figures (suc k) n) ≡ n
    by true e ih = let v = digit-value n (ltb-true _ _ e) in rw e (omega arith)
    by false e ih =
        let q : 10 ≤ n = ltb-false _ _ e in
        let s = digits_value_push 10 (figures k (n / 10)) (figure (n % 10)) in
        let i = ih (omega arith) in
        let v = digit-value (n % 10) (omega arith) in
        rw e (omega arith)

pub value-text : (n : ℕ) → digits_value 10 (decimal_text n) ≡ n
unfolding decimal_text
value-text n = value-figures n n (omega arith)

spelt-figures : (k n : ℕ) → n ≤ k → Spelt 10 figure (figures k n)
spelt-figures zero n h = (record { value = n; small = omega arith; is = refl }, tt)
spelt-figures (suc k) n h = by (ltb n 10) refl (spelt-figures k (n / 10))
  where
    by : (b : Bool) → ltb n 10 ≡ b → (n / 10 ≤ k → Spelt 10 figure (figures k (n / 10))) → Spelt 10 figure (figures (suc k) n)
    by true e ih = rw e (record { value = n; small = ltb-true _ _ e; is = refl }, tt)
    by false e ih =
        let q : 10 ≤ n = ltb-false _ _ e in
        rw e (spelt-append 10 figure (figures k (n / 10)) (figure (n % 10) ∷ []) (ih (omega arith)) (record { value = n % 10; small = omega arith; is = refl }, tt))

pub spelt-text : (n : ℕ) → Spelt 10 figure (decimal_text n)
unfolding decimal_text
spelt-text n = spelt-figures n n (omega arith)

some-figures : (k n : ℕ) → 1 ≤ length (figures k n)
some-figures zero n = omega arith
some-figures (suc k) n = by (ltb n 10) refl
  where
    by : (b : Bool) → ltb n 10 ≡ b → 1 ≤ length (figures (suc k) n)
    by true e = rw e (omega arith)
    by false e = rw (e, length-append) (omega arith)

pub some-text : (n : ℕ) → 1 ≤ length (decimal_text n)
unfolding decimal_text
some-text n = some-figures n n

-- the first digit is 0 in the text of 0 alone
leads : (k n : ℕ) (rest more : List ℕ) → n ≤ k → 1 ≤ n → figures k n ++ rest ≡ 48 ∷ more → ⊥
leads zero n rest more h p e = omega arith
leads (suc k) n rest more h p e = by (ltb n 10) refl (leads k (n / 10) (figure (n % 10) ∷ rest) more)
  where
    by : (b : Bool) → ltb n 10 ≡ b → (n / 10 ≤ k → 1 ≤ n / 10 → figures k (n / 10) ++ (figure (n % 10) ∷ rest) ≡ 48 ∷ more → ⊥) → ⊥
    by true t ih =
        let f : figure n ∷ rest ≡ 48 ∷ more = rw t at e in
        let q : figure n ≡ 48 = head-same f in
        omega arith
    by false t ih =
        let q : 10 ≤ n = ltb-false _ _ t in
        let f : (figures k (n / 10) ++ (figure (n % 10) ∷ [])) ++ rest ≡ 48 ∷ more = rw t at e in
        ih (omega arith) (omega arith) (sym (append_assoc (figures k (n / 10)) (figure (n % 10) ∷ []) rest) ∙ f)

-- 10 to the k
abbrev pub tenfold : ℕ → ℕ
tenfold zero = 1
tenfold (suc k) = 10 * tenfold k

-- k digits say what is below 10 to the k
figures-few : (j k n : ℕ) → n < tenfold (suc j) → length (figures k n) ≤ suc j
figures-few j zero n h = omega arith
figures-few j (suc k) n h = by j h (ltb n 10) refl (λ i q. figures-few i k (n / 10) q)
  where
    by : (j : ℕ) → n < tenfold (suc j) → (b : Bool) → ltb n 10 ≡ b → ((i : ℕ) → n / 10 < tenfold (suc i) → length (figures k (n / 10)) ≤ suc i)
        → length (figures (suc k) n) ≤ suc j
    by j h true e ih = rw e (omega arith)
    by zero h false e ih = let q : 10 ≤ n = ltb-false _ _ e in let z : ⊥ = omega arith in absurd z
    by (suc j) h false e ih = let s = ih j (omega arith) in rw (e, length-append) (omega arith)

text-few : (n : ℕ) → n < 2 ^ 64 → length (decimal_text n) ≤ 20
unfolding decimal_text
text-few n h = let t : tenfold 20 ≡ 100000000000000000000 = refl in figures-few 19 n n (omega arith)

pub text-leads : (n : ℕ) (rest more : List ℕ) → 1 ≤ n → decimal_text n ++ rest ≡ 48 ∷ more → ⊥
unfolding decimal_text
text-leads n rest more p e = leads n n rest more (omega arith) p e

-- one text with no digit behind it is the text of one number
pub text_same : (v w : ℕ) (rest more : List ℕ) → NoDigit rest → NoDigit more → decimal_text v ++ rest ≡ decimal_text w ++ more → (v ≡ w) × (rest ≡ more)
text_same v w rest more f g e =
    let s = spelt-same 10 figure (decimal_text v) (decimal_text w) rest more (spelt-text v) (spelt-text w) f g e in
    (sym (value-text v) ∙ ap (digits_value 10) s.0 ∙ value-text w, s.1)

-- ---- digits that stand in a line

-- more digits behind a number that is not 0
text-on : (v : ℕ) (ds : List ℕ) → 1 ≤ v → Spelt 10 figure ds → decimal_text (digits_value_after 10 v ds) ≡ decimal_text v ++ ds
text-on v [] h s = sym (append-nil (decimal_text v))
text-on v (x ∷ xs) h s =
    let d = s.0.value in
    let k = s.0.small in
    let e : v * 10 + digit_value x ≡ 10 * v + d = ap (λ (y : ℕ). v * 10 + digit_value y) s.0.is ∙ (let i = digit-value d k in omega arith) in
    ap (λ (n : ℕ). decimal_text (digits_value_after 10 n xs)) e
    ∙ text-on (10 * v + d) xs (omega arith) s.1
    ∙ ap (λ (t : List ℕ). t ++ xs) (text-more v d h k)
    ∙ append_assoc (decimal_text v) (figure d ∷ []) xs
    ∙ ap (λ (y : ℕ). decimal_text v ++ (y ∷ xs)) (sym s.0.is)

-- digits with no zero in front are the text of what they say
pub text-of : (ds : List ℕ) → 1 ≤ length ds → Spelt 10 figure ds → (1 < length ds → get_or ds 0 0 ≡ 48 → ⊥) → decimal_text (digits_value 10 ds) ≡ ds
text-of [] h s f = absurd (omega arith)
text-of (x ∷ xs) h s f = by s.0.value refl xs s.1 f
  where
    e : 0 * 10 + digit_value x ≡ s.0.value
    e = ap (λ (y : ℕ). 0 * 10 + digit_value y) s.0.is ∙ (let i = digit-value s.0.value s.0.small in omega arith)

    by : (d : ℕ) → s.0.value ≡ d → (ys : List ℕ) → Spelt 10 figure ys → (1 < length (x ∷ ys) → x ≡ 48 → ⊥) → decimal_text (digits_value 10 (x ∷ ys)) ≡ x ∷ ys
    by zero z [] t g = ap decimal_text (e ∙ z) ∙ text-one 0 (omega arith) ∙ ap (λ (y : ℕ). y ∷ []) (sym (s.0.is ∙ ap figure z))
    by zero z (y ∷ ys) t g = absurd (g (omega arith) (s.0.is ∙ ap figure z))
    by (suc d) z ys t g =
        ap (λ (n : ℕ). decimal_text (digits_value_after 10 n ys)) e
        ∙ text-on s.0.value ys (omega arith) t
        ∙ ap (λ (u : List ℕ). u ++ ys) (text-one s.0.value s.0.small)
        ∙ ap (λ (y : ℕ). y ∷ ys) (sym s.0.is)

spelt-digits : (ds : List ℕ) → Spelt 10 figure ds → AllDigits 10 ds
spelt-digits [] s = tt
spelt-digits (x ∷ xs) s =
    let d : digit_value x < 10 = let i = digit-value s.0.value s.0.small in let e = ap digit_value s.0.is in let k = s.0.small in omega arith in
    (d, spelt-digits xs s.1)

no-plus : (ds : List ℕ) → Spelt 10 figure ds → without_leading_plus ds ≡ ds
no-plus [] s = refl
no-plus (x ∷ xs) s = rw (ne_eqb x 43 (λ e. let i = s.0.is in omega arith)) refl

-- ---- the reader

-- the text begins with digits, and no digit is behind fewer than 21
pub record Cut (l digits rest : List ℕ) : Type 0 where
  pub whole : l ≡ digits ++ rest
  pub spelt : Spelt 10 figure digits
  pub ends : length digits < 21 → NoDigit rest

-- of at most k bytes
abbrev digits_of : ℕ → List ℕ → ℕ
digits_of k l = prefix_len is_ascii_digit (take k l)

abbrev CutAt : ℕ → List ℕ → ℕ → Type 0
CutAt k l n = (length (take n l) ≡ n) × Spelt 10 figure (take n l) × (n < k → NoDigit (drop n l))

cut-here : (k : ℕ) (l : List ℕ) → CutAt k l (digits_of k l)
cut-here zero l = (refl, tt, λ h. absurd (omega arith))
cut-here (suc k) [] = (refl, tt, λ h. none-empty 10 figure)
cut-here (suc k) (x ∷ xs) = by (is_ascii_digit x) refl (digits_of k xs) refl (cut-here k xs)
  where
    by : (b : Bool) → is_ascii_digit x ≡ b → (n : ℕ) → digits_of k xs ≡ n → CutAt k xs n → CutAt (suc k) (x ∷ xs) (digits_of (suc k) (x ∷ xs))
    by true e n f ih =
        let r : (48 ≤ x) × (x ≤ 57) = grind arith in
        let a : 1 + n ≡ suc n = omega arith in
        let b : length (x ∷ take n xs) ≡ suc n = let c = ih.0 in omega arith in
        rw (e, f, a) (b, (record { value = x - 48; small = omega arith; is = omega arith }, ih.1), λ h. ih.2 (omega arith))
    by false e n f ih = rw e (refl, tt, λ h d rest s g. let q : x ≡ figure d = head-same g in let z : is_ascii_digit x ≡ true = grind arith in let y : ⊥ = cc in y)

head-long : (l : List ℕ) (m : ℕ) → m ≡ min (length l) 21 → take m l ≡ take 21 l
head-long l m e = by (ltb (length l) 21) refl
  where
    by : (b : Bool) → ltb (length l) 21 ≡ b → take m l ≡ take 21 l
    by true p = let q : length l < 21 = ltb-true _ _ p in take_all m l (omega arith) ∙ sym (take_all 21 l (omega arith))
    by false p = let q : 21 ≤ length l = ltb-false _ _ p in let r : m ≡ 21 = omega arith in rw r refl

pub cut : (l : List ℕ) (m n : ℕ) (digits rest : List ℕ) → m ≡ min (length l) 21 → n ≡ prefix_len is_ascii_digit (take m l) → digits ≡ take n l → rest ≡ drop n l
    → Cut l digits rest
cut l m n digits rest b e f g =
    let h = cut-here 21 l in
    let a : n ≡ digits_of 21 l = e ∙ ap (prefix_len is_ascii_digit) (head-long l m b) in
    rw (f, g, a) (record { whole = sym (take-append-drop (digits_of 21 l) l); spelt = h.1; ends = λ k. h.2 (let s = h.0 in omega arith) })

module _ (l digits rest : List ℕ) (most : ℕ) (m : most < 2 ^ 64) (c : Cut l digits rest) where
  none : ((v : ℕ) → v ≤ most → decimal_text v ≡ digits → ⊥) → DecimalAs most l None
  none f = read-none decimal_text (λ v. v ≤ most) NoDigit l (λ v more g. by v more g (ltb (length digits) 21) refl)
    where
      by : (v : ℕ) (more : List ℕ) → Got decimal_text (λ v. v ≤ most) NoDigit l v more → (b : Bool) → ltb (length digits) 21 ≡ b → ⊥
      by v more g true e =
          f v g.fits (spelt-same 10 figure (decimal_text v) digits more rest (spelt-text v) c.spelt g.ends (c.ends (ltb-true _ _ e)) (sym g.whole ∙ c.whole)).0
      by v more g false e =
          let a : 21 ≤ length digits = ltb-false _ _ e in
          let b : v ≤ most = g.fits in
          let t = text-few v (omega arith) in
          begun 10 figure digits (decimal_text v) rest more c.spelt (omega arith) (sym c.whole ∙ g.whole) g.ends

  -- a zero in front
  pub none-led : 1 < length digits → get_or digits 0 0 ≡ 48 → DecimalAs most l None
  none-led h z = none (λ v _ e. by v digits e h z)
    where
      by : (v : ℕ) (ds : List ℕ) → decimal_text v ≡ ds → 1 < length ds → get_or ds 0 0 ≡ 48 → ⊥
      by v [] e h z = omega arith
      by zero (x ∷ xs) e h z = let a = ap length (sym (text-one 0 (omega arith)) ∙ e) in omega arith
      by (suc v) (x ∷ xs) e h z = text-leads (suc v) [] xs (omega arith) (append-nil (decimal_text (suc v)) ∙ e ∙ ap (λ (y : ℕ). y ∷ xs) z)

  pub not-text : (IsUtf8 digits → ⊥) → DecimalAs most l None
  not-text f = absurd (f (IsUtf8-from_ascii digits (IsAscii-from_digits digits (spelt-digits digits c.spelt))))

  -- no digit stands there, or they say more than a u64 holds
  pub none-read : (IsNumeral 10 (without_leading_plus digits) × (digits_value 10 (without_leading_plus digits) < 2 ^ 64) → ⊥) → DecimalAs most l None
  none-read f = none (λ v h e.
      let some : 0 < length digits = rw e at (some-text v) in
      let w : digits_value 10 digits ≡ v = ap (digits_value 10) (sym e) ∙ value-text v in
      let p = no-plus digits c.spelt in
      f (rw p ((some, spelt-digits digits c.spelt), omega arith)))

  pub none-large : (value : ℕ) → value ≡ digits_value 10 (without_leading_plus digits) → most < value → DecimalAs most l None
  none-large value q k = none (λ v h e.
      let w : digits_value 10 digits ≡ v = ap (digits_value 10) (sym e) ∙ value-text v in
      let p = ap (digits_value 10) (no-plus digits c.spelt) in
      omega arith)

  pub some-read : (value : ℕ) → 0 < length (without_leading_plus digits) → value ≡ digits_value 10 (without_leading_plus digits) → value ≤ most
      → (1 < length digits → get_or digits 0 0 ≡ 48 → ⊥) → DecimalAs most l (Some (value, rest))
  some-read value n q k f =
      let p = no-plus digits c.spelt in
      let t : decimal_text value ≡ digits = ap decimal_text (q ∙ ap (digits_value 10) p) ∙ text-of digits (rw p at n) c.spelt f in
      let few : length digits ≤ 20 = let a = text-few value (omega arith) in rw t at a in
      let ends : NoDigit rest = c.ends (omega arith) in
      read-some decimal_text (λ v. v ≤ most) NoDigit l value rest
      (record { whole = c.whole ∙ ap (λ (u : List ℕ). u ++ rest) (sym t); fits = k; ends = ends })
      (λ w more _ h e. text_same value w rest more ends h e)

-- ---- what the library's readers answer, where only the value is kept

module _ {A E : Type 0} (P : A → Type 0) (Q : E → Type 0) where
  pub fails : (N : Type 0) (r : Result A E) → MatchResult r P (λ e. N × Q e) → None ≡ result_ok r → N
  fails N (Ok x) m e = let z : ⊥ = cc in absurd z
  fails N (Err x) m e = m.0

  pub gives : (x : A) (r : Result A E) → MatchResult r P Q → Some x ≡ result_ok r → P x
  gives x (Ok y) m e = let q : x ≡ y = some-same e in rw q m
  gives x (Err y) m e = let z : ⊥ = cc in absurd z

module _ {E : Type 0} (text digits : List ℕ) (same : text ≡ digits) where
  pub parse-none : (r : Result ℕ E) → ParsesUnsigned 64 10 text r → None ≡ result_ok r
      → IsNumeral 10 (without_leading_plus digits) × (digits_value 10 (without_leading_plus digits) < 2 ^ 64) → ⊥
  parse-none (Ok x) m e = let z : ⊥ = cc in absurd z
  parse-none (Err x) m e = rw same at m

  pub parse-some : (x : ℕ) (r : Result ℕ E) → ParsesUnsigned 64 10 text r → Some x ≡ result_ok r
      → (0 < length (without_leading_plus digits)) × (x ≡ digits_value 10 (without_leading_plus digits))
  parse-some x (Ok y) m e =
      let n : 0 < length (without_leading_plus digits) = rw same at m.0.0.0 in
      let k : y ≡ digits_value 10 (without_leading_plus digits) = rw same at m.1 in
      (n, some-same e ∙ k)
  parse-some x (Err y) m e = let z : ⊥ = cc in absurd z
