-- Texts put one behind the other.
use mathlib.Core.Path.{◌≡◌, refl, ap, sym, ◌∙◌}
use mathlib.Core.Bool.{Bool, true, false}
use native.Mathlib.Nat.{div-add-mod}
use lib.Dec.{ltb}
use borrow.Author.Tests.{ltb-false}
use mathlib.Core.List.{List, [], ◌∷◌, ◌++◌, append_assoc, flat_map, map}
use Prim.Native.Nat.{ℕ, zero, suc, ◌+◌, ◌-◌, ◌*◌, ◌/◌, ◌≤◌, ◌<◌}
use native.Mathlib.Omega.{arith}
use lib.ListN.{length, take, drop, get_or, take-append-drop, length-append, length-take, length-drop}
use lib.Seq.{take_all, take_at, drop_at, drop-drop}
use lib.Ieee.{to_bits, binary32}
use Rattle.std.specs.Int.{from_bool}
use Rattle.model.specs.Types as model
use Rattle.text.specs.Put.{PutAs}
use Rattle.lists.specs.Parts.{flat-more}
use Rattle.std.proofs.lemmas.List.{length-map}
use Rattle.voice.specs.declared.Voice.{Voice}
use Rattle.voice.specs.View.{Seen, shown, seen}
use Rattle.voice.proofs.Sizes.{past_end}
use Rattle.table.specs.View.{seen_first, voices_of}
use Rattle.forms.specs.Forms.{decimal_part, word_part, space, close}
use Rattle.script.specs.Answers.{row_text, rows_text, table_text, one_text, voices_word, started_word, open_row, close_line}
use Rattle.script.specs.Lines.{Puts, Printed}
use Rattle.text.specs.Text.{figures, decimal_text, glyphs, word_text}
use Rattle.lists.specs.Count.{one_if}

pub puts : (t old : List ℕ) (at : ℕ) (new : List ℕ) (next : ℕ) → PutAs t old at new next → Puts t old at new next
puts t old at new next p = record { room = p.room }

module _ (t u old mid new : List ℕ) (at n m : ℕ) where
  pub puts_then : Puts t old at mid n → Puts u mid n new m → Puts (t ++ u) old at new m
  puts_then p q = record {
    room = λ h.
        let l : length (t ++ u) ≡ length t + length u = length-append t u in
        let x = p.room (omega arith) in
        let n-is : n ≡ at + length t = x.1 in
        let tail : List ℕ = drop (at + length t) old in
        let w : mid ≡ (take at old ++ t) ++ tail = x.0 ∙ sym (append_assoc (take at old) t tail) in
        let tl : length (take at old) ≡ at = length-take at old ∙ (omega arith) in
        let fl : length (take at old ++ t) ≡ n = length-append (take at old) t ∙ (omega arith) in
        let dl : length tail ≡ length old - (at + length t) = length-drop (at + length t) old in
        let size : length mid ≡ length old = ap length w ∙ length-append (take at old ++ t) tail ∙ (omega arith) in
        let y = q.room (omega arith) in
        let front : take n mid ≡ take at old ++ t = ap (take n) w ∙ take_at (take at old ++ t) tail n fl in
        let back : drop n mid ≡ tail = ap (drop n) w ∙ drop_at (take at old ++ t) tail n fl in
        let k : at + length t + length u ≡ at + length (t ++ u) = omega arith in
        let rest : drop (n + length u) mid ≡ drop (at + length (t ++ u)) old =
        sym (drop-drop (length u) n mid) ∙ ap (drop (length u)) back ∙ drop-drop (length u) (at + length t) old ∙ ap (λ (z : ℕ). drop z old) k in (
          y.0 ∙ ap (λ (z : List ℕ). z ++ (u ++ drop (n + length u) mid)) front
              ∙ ap (λ (z : List ℕ). (take at old ++ t) ++ (u ++ z)) rest
              ∙ append_assoc (take at old) t (u ++ drop (at + length (t ++ u)) old)
              ∙ ap (λ (z : List ℕ). take at old ++ z) (sym (append_assoc t u (drop (at + length (t ++ u)) old))),
          omega arith,
        );
  }

-- as the text crate puts them
pub puts_both : (t u old mid new : List ℕ) (at n m : ℕ) → PutAs t old at mid n → PutAs u mid n new m → Puts (t ++ u) old at new m
puts_both t u old mid new at n m p q = puts_then t u old mid new at n m (puts t old at mid n p) (puts u mid n new m q)

pub puts_none : (old : List ℕ) (at : ℕ) → Puts [] old at old at
puts_none old at = record {
  room = λ h.
      let z : at + 0 ≡ at = omega arith in
      (sym (take-append-drop at old) ∙ ap (λ (k : ℕ). take at old ++ drop k old) (sym z), sym z);
}

-- what the library makes of a flag
pub flag : (b : Bool) (n : ℕ) → n ≡ from_bool b → n ≡ one_if b
flag true n e = e
flag false n e = e

-- ---- the rows of a table

abbrev pub row : Voice → List ℕ
row v = row_text (shown v)

pub rows_more : (vs : List Voice) (i : ℕ) (old mid new : List ℕ) (at n m : ℕ) → i < length vs
    → Puts (flat_map row (take i vs)) old at mid n → Puts (row (get_or vs i past_end)) mid n new m → Puts (flat_map row (take (i + 1) vs)) old at new m
rows_more vs i old mid new at n m h p q = rw (flat-more row vs i past_end h) (puts_then _ _ old mid new at n m p q)

rows_seen : (vs : List Voice) → flat_map row vs ≡ flat_map row_text (voices_of (map seen vs))
unfolding flat_map seen
rows_seen [] = refl
rows_seen (v ∷ vs) = ap (λ (t : List ℕ). row v ++ t) (rows_seen vs)

rows-view : (vs : List Voice) (ss : List Seen) (i : ℕ) → map seen vs ≡ ss → length vs ≤ i → flat_map row (take i vs) ≡ flat_map row_text (voices_of ss)
rows-view vs ss i e g = ap (flat_map row) (take_all i vs g) ∙ rows_seen vs ∙ ap (λ (s : List Seen). flat_map row_text (voices_of s)) e

pub rows-done : (vs : List Voice) (ss : List Seen) (i : ℕ) (old mid new : List ℕ) (k l : ℕ) → map seen vs ≡ ss → length vs ≤ i
    → Puts voices_word old 0 mid k → Puts (flat_map row (take i vs)) mid k new l → Puts (rows_text (voices_of ss)) old 0 new l
rows-done vs ss i old mid new k l e g p q = rw (← rows-view vs ss i e g) (puts_then voices_word (flat_map row (take i vs)) old mid new 0 k l p q)

-- ---- how long the texts are

abbrev tenfold : ℕ → ℕ
tenfold zero = 1
tenfold (suc k) = 10 * tenfold k

figures-length : (j k n : ℕ) → n < tenfold (suc k) → length (figures j n) ≤ suc k
figures-length zero k n h = omega arith
figures-length (suc j) zero n h = by (ltb n 10) refl
  where
    by : (b : Bool) → ltb n 10 ≡ b → length (figures (suc j) n) ≤ 1
    by true e = rw e (omega arith)
    by false e = let q : 10 ≤ n = ltb-false _ _ e in let z : ⊥ = omega arith in absurd z
figures-length (suc j) (suc k) n h = by (ltb n 10) refl (figures-length j k (n / 10))
  where
    by : (b : Bool) → ltb n 10 ≡ b → (n / 10 < tenfold (suc k) → length (figures j (n / 10)) ≤ suc k) → length (figures (suc j) n) ≤ suc (suc k)
    by true e ih = rw e (omega arith)
    by false e ih =
        let d = div-add-mod n 10 in
        let r : 10 * tenfold (suc k) ≡ tenfold (suc (suc k)) = refl in
        let q = ih (omega arith) in
        rw (e, length-append) (omega arith)

pub decimal-length : (n : ℕ) → n < 0x1_0000_0000_0000_0000 → length (decimal_text n) ≤ 20
unfolding decimal_text
decimal-length n h = figures-length n 19 n (omega arith)

pub flag-length : (b : Bool) → length (decimal_text (one_if b)) ≡ 1
unfolding decimal_text
flag-length true = refl
flag-length false = refl

glyphs-length : (k n : ℕ) → length (glyphs k n) ≡ k
glyphs-length zero n = refl
glyphs-length (suc k) n = let ih = glyphs-length k (n / 16) in rw length-append (omega arith)

pub word-length : (n : ℕ) → length (word_text n) ≡ 8
unfolding word_text
word-length n = glyphs-length 8 n

pub part_length : (lead : List ℕ) (n : ℕ) → n < 0x1_0000_0000_0000_0000 → length (decimal_part lead n) ≤ length lead + 20
part_length lead n h = let d = decimal-length n h in let l = length-append lead (decimal_text n) in omega arith

pub one_length : (word : List ℕ) (n : ℕ) → length (decimal_part word n) ≤ length word + 20 → length (one_text word n) ≤ length word + 22
one_length word n h = let l = length-append (decimal_part word n) close_line in omega arith

pub started_length : (a b c : ℕ) → length (decimal_part started_word a) ≤ 29 → length (decimal_part space b) ≤ 21 → length (decimal_part space c) ≤ 21
    → length (decimal_part started_word a ++ (decimal_part space b ++ (decimal_part space c ++ close_line))) ≤ 73
started_length a b c h k l =
    let x = length-append (decimal_part space c) close_line in
    let y = length-append (decimal_part space b) (decimal_part space c ++ close_line) in
    let z = length-append (decimal_part started_word a) (decimal_part space b ++ (decimal_part space c ++ close_line)) in
    omega arith

pub row-length : (v : model.Voice) → length (decimal_part open_row v.handle) ≤ 22 → length (decimal_part space v.note) ≤ 21 → length (row_text v) ≤ 57
unfolding row_text
row-length v h k =
    let level : List ℕ = word_part space (to_bits binary32 v.env.level) ++ close in
    let sus : List ℕ = decimal_part space (one_if v.sustained) ++ level in
    let rel : List ℕ = decimal_part space (one_if v.releasing) ++ sus in
    let a = word-length (to_bits binary32 v.env.level) in
    let b = flag-length v.sustained in
    let c = flag-length v.releasing in
    let d : length level ≡ length (word_part space (to_bits binary32 v.env.level)) + 1 = length-append (word_part space (to_bits binary32 v.env.level)) close in
    let e : length (word_part space (to_bits binary32 v.env.level)) ≡ 1 + length (word_text (to_bits binary32 v.env.level)) = length-append space (word_text (to_bits binary32 v.env.level)) in
    let f : length sus ≡ length (decimal_part space (one_if v.sustained)) + length level = length-append (decimal_part space (one_if v.sustained)) level in
    let g : length (decimal_part space (one_if v.sustained)) ≡ 1 + length (decimal_text (one_if v.sustained)) = length-append space (decimal_text (one_if v.sustained)) in
    let i : length rel ≡ length (decimal_part space (one_if v.releasing)) + length sus = length-append (decimal_part space (one_if v.releasing)) sus in
    let j : length (decimal_part space (one_if v.releasing)) ≡ 1 + length (decimal_text (one_if v.releasing)) = length-append space (decimal_text (one_if v.releasing)) in
    let l : length (decimal_part space v.note ++ rel) ≡ length (decimal_part space v.note) + length rel = length-append (decimal_part space v.note) rel in
    let m : length (decimal_part open_row v.handle ++ (decimal_part space v.note ++ rel)) ≡ length (decimal_part open_row v.handle) + length (decimal_part space v.note ++ rel) =
    length-append (decimal_part open_row v.handle) (decimal_part space v.note ++ rel) in
    omega arith

pub rows-length-more : (vs : List Voice) (i : ℕ) → i < length vs → length (flat_map row (take i vs)) ≤ 57 * i → length (row (get_or vs i past_end)) ≤ 57
    → length (flat_map row (take (i + 1) vs)) ≤ 57 * (i + 1)
rows-length-more vs i h p q =
    rw (flat-more row vs i past_end h) (let l = length-append (flat_map row (take i vs)) (row (get_or vs i past_end)) in omega arith)

pub rows-length-done : (vs all : List Voice) (n i : ℕ) → length all ≡ 64 → map seen vs ≡ seen_first n all → i ≤ length vs → length vs ≤ i
    → length (flat_map row (take i vs)) ≤ 57 * i → length (rows_text (voices_of (seen_first n all))) ≤ 3655
rows-length-done vs all n i s e h g p =
    let few : length vs ≡ length (take n all) = sym (length-map vs seen) ∙ ap length e ∙ length-map (take n all) seen in
    let t = length-take n all in
    let q : length (flat_map row (take i vs)) ≡ length (flat_map row_text (voices_of (seen_first n all))) = ap length (rows-view vs (seen_first n all) i e g) in
    let l : length (rows_text (voices_of (seen_first n all))) ≡ 7 + length (flat_map row_text (voices_of (seen_first n all))) =
    length-append voices_word (flat_map row_text (voices_of (seen_first n all))) in
    omega arith

pub table_length : (vs : List model.Voice) → length (rows_text vs) ≤ 3655 → length (table_text vs) ≤ 4096
table_length vs h = let l = length-append (rows_text vs) close_line in omega arith

-- a whole answer
pub printed : (text old new : List ℕ) (count : ℕ) → Puts text old 0 new count → length text ≤ 4096 → 4096 ≤ length old → Printed text old new count
printed text old new count p h k =
    let z : 0 + length text ≡ length text = omega arith in
    let x = p.room (omega arith) in
    record { bytes = x.0 ∙ ap (λ (n : ℕ). text ++ drop n old) z; size = x.1 ∙ z; inside = omega arith }
