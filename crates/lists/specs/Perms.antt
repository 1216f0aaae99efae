-- How often a number stands in a list: lists that agree on it are permutations of one another, and one in which no number stands twice has no repeats.
use Rattle.std.specs.Prelude.{◌≡◌, refl, Bool, true, false, ◌&&◌, ℕ, zero, suc, ◌+◌, ◌≤◌, ◌<◌, eqb, ltb, length}
use Rattle.std.proofs.Common.{ap, sym, ◌∙◌, arith, eqb-true, ne_eqb}
use mathlib.Core.List.Perm
use mathlib.Core.List.{List, [], ◌∷◌, ◌++◌, Memᴰ, Mem, Nodup, Nodup-nil, Nodup-cons, Perm, perm_middle}
use Rattle.std.proofs.Math.Logic.{∥∥₁_elim}
use Rattle.std.proofs.Math.Bridge.{le_prop}
use Rattle.lists.specs.All.{all}
use Rattle.lists.specs.Count.{one_if, count, count-append}

-- how often h stands in the list
abbrev pub times : ℕ → List ℕ → ℕ
times h l = count (λ (x : ℕ). eqb x h) l

pub times-append : (h : ℕ) (xs ys : List ℕ) → times h (xs ++ ys) ≡ times h xs + times h ys
times-append h xs ys = count-append (λ (x : ℕ). eqb x h) xs ys

pub times-other : (h x : ℕ) → (x ≡ h → ⊥) → times h (x ∷ []) ≡ 0
times-other h x n = rw (ne_eqb x h n)

pub found : (h : ℕ) (l : List ℕ) → 1 ≤ times h l → Memᴰ h l
found h [] p = let z : ⊥ = omega arith in absurd z
found h (x ∷ xs) p = by (eqb x h) refl (found h xs)
  where
    by : (b : Bool) → eqb x h ≡ b → (1 ≤ times h xs → Memᴰ h xs) → Memᴰ h (x ∷ xs)
    by true e ih = Memᴰ.head (sym (eqb-true x h e))
    by false e ih = Memᴰ.tail (ih (let q : 1 ≤ one_if false + times h xs = rw e at p in omega arith))

pub counted : {h : ℕ} {l : List ℕ} → Memᴰ h l → 1 ≤ times h l
counted {h} (Memᴰ.head {x = x} {xs = xs} e) = grind arith
counted {h} (Memᴰ.tail {x = x} {xs = xs} m) = grind (arith, counted m)

pub counted-in : {h : ℕ} {l : List ℕ} → Mem h l → 1 ≤ times h l
counted-in {h} {l} m = ∥∥₁_elim m le_prop counted

-- a list that holds h is a front, h and a back
pub record Split (h : ℕ) (l : List ℕ) : Type 0 where
  pub front : List ℕ
  pub back : List ℕ
  pub whole : l ≡ front ++ (h ∷ back)

pub split : {h : ℕ} {l : List ℕ} → Memᴰ h l → Split h l
split {h} (Memᴰ.head {x = x} {xs = xs} e) = record { front = []; back = xs; whole = ap (λ (y : ℕ). y ∷ xs) (sym e) }
split {h} (Memᴰ.tail {x = x} {xs = xs} m) =
    let s = split m in record { front = x ∷ s.front; back = s.back; whole = ap (◌∷◌ x) s.whole }

-- lists in which every number stands equally often are permutations
module _ (x : ℕ) (xs front back : List ℕ) where
  rest : ((h : ℕ) → times h (x ∷ xs) ≡ times h (front ++ (x ∷ back))) → (h : ℕ) → times h xs ≡ times h (front ++ back)
  rest e h = omega (arith, e h, times-append h front (x ∷ back), times-append h front back)

  placed : Perm xs (front ++ back) → Perm (x ∷ xs) (front ++ (x ∷ back))
  placed p = Perm.trans (Perm.cons x p) (Perm.symm (perm_middle front back))

pub perm-of-times : (xs ys : List ℕ) → ((h : ℕ) → times h xs ≡ times h ys) → Perm xs ys
perm-of-times [] [] e = Perm.nil
perm-of-times [] (y ∷ ys) e = let z : 1 + times y ys ≡ 0 = grind (arith, e y) in absurd (omega arith)
perm-of-times (x ∷ xs) ys e = by (perm-of-times xs) (split (found x ys (grind (arith, e x))))
  where
    by : ((zs : List ℕ) → ((h : ℕ) → times h xs ≡ times h zs) → Perm xs zs) → Split x ys → Perm (x ∷ xs) ys
    by ih s =
        rw s.whole (placed x xs s.front s.back (ih (s.front ++ s.back) (rest x xs s.front s.back (λ h. e h ∙ ap (times h) s.whole))))

pub nodup-of-times : (l : List ℕ) → ((h : ℕ) → times h l ≤ 1) → Nodup l
nodup-of-times [] e = Nodup-nil
nodup-of-times (x ∷ xs) e =
    Nodup-cons.1 (
      λ m. let k : 1 ≤ times x xs = counted-in m in let z = e x in grind arith,
      nodup-of-times xs (λ h. omega (arith, e h)),
    )

-- no number stands twice, as a test
abbrev pub distinct : List ℕ → Bool
distinct [] = true
distinct (x ∷ xs) = eqb (times x xs) 0 && distinct xs

pub distinct-of-times : (l : List ℕ) → ((h : ℕ) → times h l ≤ 1) → distinct l ≡ true
distinct-of-times [] e = refl
distinct-of-times (x ∷ xs) e = grind (arith, distinct-of-times xs (λ h. omega (arith, e h)), e x)

pub times-of-distinct : (l : List ℕ) → distinct l ≡ true → (h : ℕ) → times h l ≤ 1
times-of-distinct [] e h = omega arith
times-of-distinct (x ∷ xs) e h = grind (arith, times-of-distinct xs)

-- one more at the end
pub distinct_snoc : (l : List ℕ) (x : ℕ) → distinct (l ++ (x ∷ [])) ≡ (distinct l && eqb (times x l) 0)
distinct_snoc [] x = refl
distinct_snoc (y ∷ l) x = grind (arith, distinct_snoc l x, times-append y l (x ∷ []))

-- what stands in front of a list without repeats has none
pub distinct-front : (l m : List ℕ) → distinct (l ++ m) ≡ true → distinct l ≡ true
distinct-front [] m e = refl
distinct-front (x ∷ l) m e = grind (arith, distinct-front l m, times-append x l m)

-- how many numbers below k stand in the list, repeats counted
abbrev tally : ℕ → List ℕ → ℕ
tally zero l = 0
tally (suc k) l = times k l + tally k l

tally-high : (k x : ℕ) (l : List ℕ) → k ≤ x → tally k (x ∷ l) ≡ tally k l
tally-high zero x l h = refl
tally-high (suc k) x l h = grind (arith, tally-high k x l)

tally-low : (k x : ℕ) (l : List ℕ) → x < k → tally k (x ∷ l) ≡ 1 + tally k l
tally-low zero x l h = absurd (omega arith)
tally-low (suc k) x l h = grind (arith, tally-low k x l, tally-high k x l)

tally-all : (k : ℕ) (l : List ℕ) → all (λ (x : ℕ). ltb x k) l ≡ true → tally k l ≡ length l
tally-all k [] e = none k
  where
    none : (k : ℕ) → tally k [] ≡ 0
    none zero = refl
    none (suc k) = grind (arith, none k)
tally-all k (x ∷ l) e = grind (arith, tally-all k l, tally-low k x l)

tally-most : (k : ℕ) (l : List ℕ) → ((y : ℕ) → times y l ≤ 1) → tally k l ≤ k
tally-most zero l h = omega arith
tally-most (suc k) l h = grind (arith, tally-most k l h, h k)

tally-less : (k n : ℕ) (l : List ℕ) → n < k → times n l ≡ 0 → ((y : ℕ) → times y l ≤ 1) → tally k l < k
tally-less zero n l p z h = absurd (omega arith)
tally-less (suc k) n l p z h = grind (arith, tally-less k n l, tally-most k l h, h k)

-- numbers below k, none twice and n not among them, are fewer than k
pub distinct-short : (k n : ℕ) (l : List ℕ) → n < k → all (λ (x : ℕ). ltb x k) l ≡ true → times n l ≡ 0 → ((y : ℕ) → times y l ≤ 1) → length l < k
distinct-short k n l p a z h = omega (arith, tally-all k l a, tally-less k n l p z h)
