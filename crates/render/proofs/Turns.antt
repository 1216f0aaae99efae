-- One turn of each loop of a part, over variables.
use mathlib.Core.Path.{◌≡◌, refl, ap, sym, ◌∙◌}
use mathlib.Core.List.{List, [], ◌∷◌, ◌++◌, append_assoc}
use Prim.Native.Nat.{ℕ, zero, suc, ◌+◌, ◌-◌, ◌*◌, ◌≤◌, ◌<◌}
use native.Mathlib.Nat.{mul-zero, mul-suc, mul-add}
use native.Mathlib.Numerals.{add-one}
use native.Mathlib.Omega.{arith}
use lib.Ieee.{Float, nan, binary32, add, mul}
use lib.ListN.{length, take, drop, get_or, set, length-set, length-take, length-drop}
use lib.Seq.{take_all, get_or-drop, set-get_or, drop-drop, take-suc-set}
use Rattle.std.proofs.lemmas.List.{drop_all, take_rest}
use Rattle.lists.specs.Prefix.{take_more, take_min, drop_more, fold}
use Rattle.stream.specs.declared.UnisonCopy.{UnisonCopy}
use Rattle.model.specs.Mix.{add_side, Mixing, mixing, interleave}
use Rattle.voice.specs.declared.Voice.{Voice}
use Rattle.voice.specs.View.{shown, no_copy}
use Rattle.render.specs.Parts.{part_copy, framed}
use Rattle.model.proofs.Laws.{length-add}

-- ---- one frame

-- what a copy adds at frame f
abbrev term : Float → List Float → List Float → ℕ → Float
term g xs es f = mul binary32 (mul binary32 (get_or xs f nan) (get_or es f nan)) g

module _ (g : Float) where
  -- over sums to which the copies before have added theirs
  side-next : (xs es cs : List Float) (f : ℕ) (x : Float) → f < length xs → f < length es → f < length cs
      → add_side g (take (f + 1) xs) es (set cs f x) ≡ set (add_side g (take f xs) es cs) f (add binary32 x (term g xs es f))
  side-next xs es cs f x hx he hc = rw add-one (go xs es cs f hx he hc)
    where
      go : (xs es cs : List Float) (f : ℕ) → f < length xs → f < length es → f < length cs
          → add_side g (take (suc f) xs) es (set cs f x) ≡ set (add_side g (take f xs) es cs) f (add binary32 x (term g xs es f))
      go [] es cs f hx he hc = let z : ⊥ = omega arith in absurd z
      go (x ∷ xs) [] cs f hx he hc = let z : ⊥ = omega arith in absurd z
      go (x ∷ xs) (e ∷ es) [] f hx he hc = let z : ⊥ = omega arith in absurd z
      go (x ∷ xs) (e ∷ es) (c ∷ cs) zero hx he hc = refl
      go (x ∷ xs) (e ∷ es) (c ∷ cs) (suc f) hx he hc =
          ap (◌∷◌ (add binary32 c (mul binary32 (mul binary32 x e) g))) (go xs es cs f (omega arith) (omega arith) (omega arith))

  side-beyond : (xs es cs : List Float) (f : ℕ) (d : Float) → get_or (add_side g (take f xs) es cs) f d ≡ get_or cs f d
  side-beyond xs es cs zero d = refl
  side-beyond [] es cs (suc f) d = refl
  side-beyond (x ∷ xs) [] cs (suc f) d = refl
  side-beyond (x ∷ xs) (e ∷ es) [] (suc f) d = refl
  side-beyond (x ∷ xs) (e ∷ es) (c ∷ cs) (suc f) d = side-beyond xs es cs f d

-- the next copy's place
place-after : (n i : ℕ) → n * (i + 1) ≡ n * i + n
place-after n i = rw (add-one, mul-suc)

-- ---- one frame of copies

module _ (side : UnisonCopy → Float) (n : ℕ) where
  -- one copy more
  pub framed_more : (i : ℕ) (e s : Float) (xs : List Float) (cs : List UnisonCopy) → i < length cs
      → framed side n e (drop (n * i) xs) (drop i cs) s
      ≡ framed side n e (drop (n * (i + 1)) xs) (drop (i + 1) cs) (add binary32 s (mul binary32 (mul binary32 (get_or xs (n * i) nan) e) (side (get_or cs i no_copy))))
  unfolding framed
  framed_more i e s xs cs h =
      let z : n * i + 0 ≡ n * i = omega arith in
      let x : get_or (drop (n * i) xs) 0 nan ≡ get_or xs (n * i) nan = rw z at (get_or-drop (n * i) xs 0 nan) in
      let c = get_or cs i no_copy in
      let step : framed side n e (drop (n * i) xs) (c ∷ drop (i + 1) cs) s
      ≡ framed side n e (drop n (drop (n * i) xs)) (drop (i + 1) cs) (add binary32 s (mul binary32 (mul binary32 (get_or (drop (n * i) xs) 0 nan) e) (side c))) = refl in
      rw (drop_more cs i no_copy h, place-after) (rw (x, drop-drop n (n * i) xs) at step)

  pub framed_all : (i : ℕ) (e s : Float) (xs : List Float) (cs : List UnisonCopy) → length cs ≤ i → framed side n e xs (drop i cs) s ≡ s
  unfolding framed
  framed_all i e s xs cs h = rw (drop_all i cs h)

module _ (side : UnisonCopy → Float) (n : ℕ) (es : List Float) where
  abbrev Summed : ℕ → List Float → List UnisonCopy → List Float → List Float
  Summed f xs cs sums = (fold (part_copy side n f es) (mixing xs sums) cs).sums

  pub frames_none : (xs sums : List Float) (cs : List UnisonCopy) → sums ≡ Summed 0 xs cs sums
  unfolding part_copy
  frames_none xs sums [] = refl
  frames_none xs sums (c ∷ cs) = frames_none (drop n xs) sums cs

  frame-beyond : (f : ℕ) (xs sums : List Float) (cs : List UnisonCopy) → get_or (Summed f xs cs sums) f nan ≡ get_or sums f nan
  unfolding part_copy
  frame-beyond f xs sums [] = refl
  frame-beyond f xs sums (c ∷ cs) =
      frame-beyond f (drop n xs) (add_side (side c) (take f xs) es sums) cs ∙ side-beyond (side c) xs es sums f nan

  -- over sums in which x stands for the frame
  frame-next : (f : ℕ) (x : Float) (xs sums : List Float) (cs : List UnisonCopy) → f < length es → n * length cs + f < length xs + n → f < length sums
      → Summed (f + 1) xs cs (set sums f x) ≡ set (Summed f xs cs sums) f (framed side n (get_or es f nan) (drop f xs) cs x)
  unfolding part_copy framed
  frame-next f x xs sums [] hf hx hs = refl
  frame-next f x xs sums (c ∷ cs) hf hx hs =
      let m = mul-suc n (length cs) in
      let e = get_or es f nan in
      let y = add binary32 x (mul binary32 (mul binary32 (get_or xs f nan) e) (side c)) in
      let old = add_side (side c) (take f xs) es sums in
      let here = side-next (side c) xs es sums f x (omega (arith, m)) hf hs in
      let room : n * length cs + f < length (drop n xs) + n = simp length-drop (omega (arith, m)) in
      let later = frame-next f y (drop n xs) old cs hf room (rw (length-add (side c) (take f xs) es sums) hs) in
      let z : f + 0 ≡ f = omega arith in
      let k : n + f ≡ f + n = omega arith in
      ap (Summed (f + 1) (drop n xs) cs) here ∙ rw (get_or-drop f xs 0 nan, z, drop-drop n f xs) (rw (drop-drop f n xs, k) at later)

  -- the frame more that the code adds
  pub frame_more : (f : ℕ) (xs sums o : List Float) (cs : List UnisonCopy) → f < length es → n * length cs + f < length xs + n → f < length sums
      → o ≡ Summed f xs cs sums → set o f (framed side n (get_or es f nan) (drop f xs) cs (get_or o f nan)) ≡ Summed (f + 1) xs cs sums
  frame_more f xs sums o cs hf hx hs p =
      rw (p, frame-beyond f xs sums cs) (sym (rw (set-get_or sums f nan) at (frame-next f (get_or sums f nan) xs sums cs hf hx hs)))

-- ---- the copies of a voice

module _ (side : UnisonCopy → Float) (n m : ℕ) (es : List Float) where
  fold-both : (z : Mixing) (xs ys : List UnisonCopy) → fold (part_copy side n m es) z (xs ++ ys) ≡ fold (part_copy side n m es) (fold (part_copy side n m es) z xs) ys
  fold-both z [] ys = refl
  fold-both z (x ∷ xs) ys = fold-both (part_copy side n m es z x) xs ys

  used : (z : Mixing) (cs : List UnisonCopy) → (fold (part_copy side n m es) z cs).samples ≡ drop (n * length cs) z.samples
  unfolding part_copy
  used z [] = rw mul-zero
  used z (c ∷ cs) =
      let e : n + n * length cs ≡ n * suc (length cs) = rw mul-suc (omega arith) in
      used (part_copy side n m es z c) cs ∙ drop-drop (n * length cs) n z.samples ∙ rw e

  -- the first copies are done, and the samples behind theirs are left
  copies-turn : (k : ℕ) (xs o w ys : List Float) (part rest cs : List UnisonCopy) → cs ≡ part ++ rest → length part ≡ k → ys ≡ drop (n * k) xs
      → w ≡ (fold (part_copy side n m es) (mixing xs o) part).sums
      → (fold (part_copy side n m es) (mixing ys w) rest).sums ≡ (fold (part_copy side n m es) (mixing xs o) cs).sums
  copies-turn k xs o w ys part rest cs e l q p =
      let s : ys ≡ (fold (part_copy side n m es) (mixing xs o) part).samples = q ∙ sym (rw l at (used (mixing xs o) part)) in
      rw (e, fold-both (mixing xs o) part rest, s, p)

  -- one copy more
  pub copies_more : (j : ℕ) (xs o : List Float) (cs : List UnisonCopy) → j < length cs
      → (fold (part_copy side n m es) (mixing (drop (n * j) xs) o) (drop j cs)).sums
      ≡ (fold (part_copy side n m es) (mixing (drop (n * (j + 1)) xs) (part_copy side n m es (mixing (drop (n * j) xs) o) (get_or cs j no_copy)).sums) (drop (j + 1) cs)).sums
  copies_more j xs o cs h =
      let all : n * j + n * 1 ≡ n * (j + 1) = omega arith in
      let behind : drop (n * (j + 1)) xs ≡ drop (n * 1) (drop (n * j) xs) = sym (rw all at (drop-drop (n * 1) (n * j) xs)) in
      sym (copies-turn 1 (drop (n * j) xs) o _ _ (get_or cs j no_copy ∷ []) (drop (j + 1) cs) (drop j cs) (drop_more cs j no_copy h) refl behind refl)

  -- a few copies are done, and the samples behind theirs are left
  pub few-turn : (a : ℕ) (xs o w t : List Float) (few rest cs : List UnisonCopy) → cs ≡ few ++ rest
      → w ≡ (fold (part_copy side n m es) (mixing (drop a xs) o) few).sums
      → (fold (part_copy side n m es) (mixing (drop a xs) o) cs).sums ≡ t
      → (fold (part_copy side n m es) (mixing (drop a (take (length xs - n * length few) (drop (n * length few) xs))) w) rest).sums ≡ t
  few-turn a xs o w t few rest cs parts p q =
      let k = n * length few in
      let e : k + a ≡ a + k = omega arith in
      let both : drop a (drop k xs) ≡ drop (a + k) xs = rw e at (drop-drop a k xs) in
      let behind : drop a (drop k xs) ≡ drop k (drop a xs) = both ∙ sym (drop-drop k a xs) in
      rw (take_rest xs k) (copies-turn (length few) (drop a xs) o w (drop a (drop k xs)) few rest cs parts refl behind p ∙ q)

-- the code takes the copies that count
pub copies-shown : (v : Voice) (k : ℕ) → k ≡ length (shown v).copies → take k v.copies ≡ (shown v).copies
unfolding shown
copies-shown v k h = rw (h, length-take) (take_min v.copy_count _ v.copies refl)

-- ---- the output

inter-append : (ls rs ks qs : List Float) → length ls ≡ length rs → interleave (ls ++ ks) (rs ++ qs) ≡ interleave ls rs ++ interleave ks qs
inter-append [] [] ks qs h = refl
inter-append [] (r ∷ rs) ks qs h = let z : ⊥ = omega arith in absurd z
inter-append (l ∷ ls) [] ks qs h = let z : ⊥ = omega arith in absurd z
inter-append (l ∷ ls) (r ∷ rs) ks qs h = ap (λ (k : List Float). l ∷ r ∷ k) (inter-append ls rs ks qs (omega arith))

inter-more : (ls rs : List Float) (f : ℕ) → f < length ls → f < length rs
    → interleave (take (f + 1) ls) (take (f + 1) rs) ≡ interleave (take f ls) (take f rs) ++ (get_or ls f nan ∷ get_or rs f nan ∷ [])
inter-more ls rs f hl hr =
    rw (take_more ls f nan hl, take_more rs f nan hr) (inter-append (take f ls) (take f rs) _ _ (simp length-take (omega arith)))

-- two stores behind the front
two-more : (out : List Float) (k : ℕ) (x y : Float) → k + 1 < length out → take (k + 2) (set (set out k x) (k + 1) y) ≡ take k out ++ (x ∷ y ∷ [])
two-more out k x y h =
    let e : k + 2 ≡ suc (k + 1) = rw (← add-one (k + 1)) (omega arith) in
    let l : k + 1 < length (set out k x) = simp length-set (omega arith) in
    let m : k < length out = omega arith in
    rw (e, take-suc-set (set out k x) (k + 1) y l, add-one k, take-suc-set out k x m, append_assoc)

pub put_more : (out ls rs : List Float) (p f : ℕ) → p ≡ f + f → p + 1 < length out → f < length ls → f < length rs
    → take (f + f) out ≡ interleave (take f ls) (take f rs)
    → take (f + 1 + (f + 1)) (set (set out p (get_or ls f nan)) (p + 1) (get_or rs f nan)) ≡ interleave (take (f + 1) ls) (take (f + 1) rs)
put_more out ls rs p f e h hl hr s =
    let two : f + 1 + (f + 1) ≡ p + 2 = omega arith in
    let t = rw (← e) at s in
    rw (two, two-more out p (get_or ls f nan) (get_or rs f nan) h, inter-more ls rs f hl hr, t)

-- four of at most four
pub take_four : (cs : List UnisonCopy) → length cs ≤ 4 → take 4 cs ≡ cs
take_four cs h = take_all 4 cs h

-- for tactics
pub ruleset frame_turns = (framed_more, framed_all, mul-zero)

pub ruleset part_turns = (frames_none, frame_more, take_rest)

pub ruleset copy_turns = (copies_more, take_rest)
