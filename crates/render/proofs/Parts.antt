-- A voice goes through a block in parts: the parts make the whole. And the first frames of a mix that has places for more.
use mathlib.Core.Path.{◌≡◌, refl, ap, sym, ◌∙◌}
use mathlib.Core.List.{List, [], ◌∷◌, ◌++◌}
use Prim.Native.Nat.{ℕ, zero, suc, ◌+◌, ◌-◌, ◌*◌, ◌≤◌}
use native.Mathlib.Nat.{mul-zero, mul-suc}
use native.Mathlib.Omega.{arith}
use lib.Ieee.{Float, binary32, add, mul}
use lib.ListN.{length, take, drop, replicate, take-append-drop, length-take}
use lib.Seq.{take-take, take_all, take-add, drop-drop}
use Rattle.std.proofs.Common.{take_at}
use Rattle.lists.specs.Prefix.{fold, fold-see}
use Rattle.lists.specs.Parts.{part_length, part-size, part-front, part-take, part-replicate, rest-on, part-rest}
use Rattle.float32.specs.Numbers.{zero as +0}
use Rattle.envelope.specs.declared.EnvGen.{EnvGen}
use Rattle.envelope.specs.Ticks.{ticked}
use Rattle.stream.specs.declared.UnisonCopy.{UnisonCopy}
use Rattle.model.specs.Types as model
use Rattle.model.specs.Voices.{aged}
use Rattle.model.specs.Mix.{levels, add_side, Mixing, mixing, side_copy, side_voice, side_mix, on_left, on_right}
use Rattle.levels.specs.Filled.{FilledAll}
use Rattle.levels.proofs.Frames.{aged-add}
use Rattle.voice.specs.declared.Voice.{Voice}
use Rattle.voice.specs.View.{shown}
use Rattle.render.proofs.Turns.{copies-shown}
use Rattle.render.specs.Parts.{part_copy, SidesFit, BothSides}

-- ---- one side of one copy

module _ (g : Float) where
  side-nil : (xs cs : List Float) → add_side g xs [] cs ≡ cs
  side-nil [] cs = refl
  side-nil (x ∷ xs) cs = refl

  side-none : (xs es : List Float) → add_side g xs es [] ≡ []
  side-none [] es = refl
  side-none (x ∷ xs) [] = refl
  side-none (x ∷ xs) (e ∷ es) = refl

  drop-side : (a : ℕ) (xs es cs : List Float) → drop a (add_side g xs es cs) ≡ add_side g (drop a xs) (drop a es) (drop a cs)
  drop-side zero xs es cs = refl
  drop-side (suc a) [] es cs = refl
  drop-side (suc a) (x ∷ xs) [] cs = sym (side-nil (drop a xs) (drop (suc a) cs))
  drop-side (suc a) (x ∷ xs) (e ∷ es) [] = sym (side-none (drop a xs) (drop a es))
  drop-side (suc a) (x ∷ xs) (e ∷ es) (c ∷ cs) = drop-side a xs es cs

  take-side : (m : ℕ) (xs es cs : List Float) → take m (add_side g xs es cs) ≡ add_side g (take m xs) (take m es) (take m cs)
  take-side zero xs es cs = refl
  take-side (suc m) [] es cs = refl
  take-side (suc m) (x ∷ xs) [] cs = refl
  take-side (suc m) (x ∷ xs) (e ∷ es) [] = refl
  take-side (suc m) (x ∷ xs) (e ∷ es) (c ∷ cs) = ap (◌∷◌ (add binary32 c (mul binary32 (mul binary32 x e) g))) (take-side m xs es cs)

  -- nothing is added past the samples
  side-past : (n : ℕ) (xs es cs : List Float) → drop n (add_side g (take n xs) es cs) ≡ drop n cs
  side-past zero xs es cs = refl
  side-past (suc n) [] es cs = refl
  side-past (suc n) (x ∷ xs) [] cs = refl
  side-past (suc n) (x ∷ xs) (e ∷ es) [] = refl
  side-past (suc n) (x ∷ xs) (e ∷ es) (c ∷ cs) = side-past n xs es cs

-- ---- the envelope in parts

module _ (gain trem : Float) where
  pub length-levels : (n : ℕ) (e : EnvGen) → length (levels gain trem n e) ≡ n
  unfolding levels
  length-levels zero e = refl
  length-levels (suc n) e = ap suc (length-levels n (ticked e))

  levels-part : (a m n : ℕ) (e : EnvGen) → a + m ≤ n → take m (drop a (levels gain trem n e)) ≡ levels gain trem m (aged a e)
  unfolding levels aged
  levels-part zero zero n e h = refl
  levels-part zero (suc m) zero e h = let z : ⊥ = omega arith in absurd z
  levels-part zero (suc m) (suc n) e h =
      ap (◌∷◌ (mul binary32 (mul binary32 (ticked e).level gain) trem)) (levels-part zero m n (ticked e) (omega arith))
  levels-part (suc a) m zero e h = let z : ⊥ = omega arith in absurd z
  levels-part (suc a) m (suc n) e h = levels-part a m n (ticked e) (omega arith)

-- the frames from a on of a side under way
abbrev cut : ℕ → ℕ → Mixing → Mixing
cut a m z = mixing (drop a z.samples) (take m (drop a z.sums))

drop-swap : (a b : ℕ) (xs : List Float) → drop a (drop b xs) ≡ drop b (drop a xs)
drop-swap a b xs = let e : a + b ≡ b + a = omega arith in rw (drop-drop a b xs, drop-drop b a xs, e)

module _ (side : UnisonCopy → Float) (n a m : ℕ) (h : a + m ≤ n) where
  copy-part : (es : List Float) (z : Mixing) (c : UnisonCopy) → cut a m (side_copy side n es z c) ≡ part_copy side n m (take m (drop a es)) (cut a m z) c
  unfolding side_copy part_copy
  copy-part es z c = rw (drop-swap a n z.samples, drop-side (side c) a, take-side (side c) m, part-take a m n z.samples h)

  voice-part : (trem : Float) (z : Mixing) (v : model.Voice)
      → take m (drop a (side_voice side n trem z v).sums) ≡ (fold (part_copy side n m (levels v.gain trem m (aged a v.env))) (cut a m z) v.copies).sums
  unfolding side_voice
  voice-part trem z v =
      let es = levels v.gain trem n v.env in
      ap (λ (y : Mixing). y.sums) (fold-see (cut a m) (side_copy side n es) (part_copy side n m (take m (drop a es))) (copy-part es) z v.copies)
      ∙ ap (λ (l : List Float). (fold (part_copy side n m l) (cut a m z) v.copies).sums) (levels-part v.gain trem a m n v.env h)

-- ---- one side of one voice

module _ (side : UnisonCopy → Float) (n : ℕ) where
  copies-past : (es : List Float) (z : Mixing) (cs : List UnisonCopy) → drop n (fold (side_copy side n es) z cs).sums ≡ drop n z.sums
  unfolding side_copy
  copies-past es z [] = refl
  copies-past es z (c ∷ cs) = copies-past es (side_copy side n es z c) cs ∙ side-past (side c) n z.samples es z.sums

  voice-past : (trem : Float) (z : Mixing) (v : model.Voice) → drop n (side_voice side n trem z v).sums ≡ drop n z.sums
  unfolding side_voice
  voice-past trem z v = copies-past (levels v.gain trem n v.env) z v.copies

-- the first a frames of the voice v are added, and the other sums are as they were
pub record Added (side : UnisonCopy → Float) (n : ℕ) (trem : Float) (xs : List Float) (v : model.Voice) (old : List Float) (a : ℕ) (now : List Float) : Type 0 where
  pub front : take a now ≡ take a (side_voice side n trem (mixing xs old) v).sums
  pub back : drop a now ≡ drop a old
  pub size : length now ≡ length old

module _ (side : UnisonCopy → Float) (n : ℕ) (trem : Float) (xs : List Float) (v : model.Voice) (old : List Float) where
  added_none : Added side n trem xs v old 0 old
  added_none = record { front = refl; back = refl; size = refl }

  -- the part up to e
  added_more : (a e : ℕ) (es now new : List Float) → a ≤ e → e ≤ n → n ≡ length old → es ≡ levels v.gain trem (e - a) (aged a v.env)
      → new ≡ (fold (part_copy side n (e - a) es) (mixing (drop a xs) (take (e - a) (drop a now))) v.copies).sums → length new ≡ length (take (e - a) (drop a now))
      → Added side n trem xs v old a now → Added side n trem xs v old e (take a now ++ (new ++ drop (e - a) (drop a now)))
  added_more a e es now new before h fits l p size d =
      let m = e - a in
      let k : a + m ≡ e = omega arith in
      let room : a + m ≤ length now = let g = d.size in omega arith in
      let many : length new ≡ m = size ∙ part-size a m now room in
      let whole = (side_voice side n trem (mixing xs old) v).sums in
      let here : new ≡ take m (drop a whole) = rw (l, d.back) at p ∙ sym (voice-part side n a m (omega arith) trem (mixing xs old) v) in
      let front : take (a + m) (take a now ++ (new ++ drop m (drop a now))) ≡ take (a + m) whole =
      rw (part-front a m now new room many, d.front, here) (sym (take-add a m whole)) in
      let back : drop (a + m) (take a now ++ (new ++ drop m (drop a now))) ≡ drop (a + m) old =
      part-rest a m now new room many ∙ rest-on a (a + m) now old (omega arith) d.back in
      record { front = rw k at front; back = rw k at back; size = part_length a m now new room many ∙ d.size }

  added-all : (a : ℕ) (now : List Float) → a ≡ n → Added side n trem xs v old a now → now ≡ (side_voice side n trem (mixing xs old) v).sums
  added-all a now e d =
      let whole = (side_voice side n trem (mixing xs old) v).sums in
      let f : take n now ≡ take n whole = rw e at d.front in
      let b : drop n now ≡ drop n whole = rw e at d.back ∙ sym (voice-past side n trem (mixing xs old) v) in
      sym (take-append-drop n now) ∙ rw (f, b) (take-append-drop n whole)

-- the first a frames of the voice v are added on both sides, and its envelope is behind them
module _ (n : ℕ) (trem : Float) (xs : List Float) (v : model.Voice) (left₀ right₀ : List Float) where
  pub record Went (a : ℕ) (e : EnvGen) (left right : List Float) : Type 0 where
    pub env : e ≡ aged a v.env
    pub on_left : Added on_left n trem xs v left₀ a left
    pub on_right : Added on_right n trem xs v right₀ a right

  pub went_none : Went 0 v.env left₀ right₀
  unfolding aged
  went_none = record { env = refl; on_left = added_none on_left n trem xs v left₀; on_right = added_none on_right n trem xs v right₀ }

  -- a part more, up to frame b
  went_more : (a b : ℕ) (e next : EnvGen) (es left right new_left new_right : List Float) → a ≤ b → b ≤ n → n ≡ length left₀ → length right₀ ≡ length left₀
      → next ≡ aged (b - a) e → es ≡ levels v.gain trem (b - a) e → length new_left ≡ length (take (b - a) (drop a left)) → length new_right ≡ length (take (b - a) (drop a right))
      → BothSides (λ (side : UnisonCopy → Float) sums. (fold (part_copy side n (length es) es) (mixing (drop a xs) sums) v.copies).sums) on_left on_right
      (take (b - a) (drop a left)) (take (b - a) (drop a right)) new_left new_right
      → Went a e left right → Went b next (take a left ++ (new_left ++ drop (b - a) (drop a left))) (take a right ++ (new_right ++ drop (b - a) (drop a right)))
  went_more a b e next es left right new_left new_right before h fits sides p l size_left size_right added w =
      let k : a + (b - a) ≡ b = omega arith in
      let many : length es ≡ b - a = ap length l ∙ length-levels v.gain trem (b - a) e in
      let sums = rw many at added in
      let part : es ≡ levels v.gain trem (b - a) (aged a v.env) = rw w.env at l in
      record {
        env = p ∙ ap (aged (b - a)) w.env ∙ rw k at (sym (aged-add a (b - a) v.env));
        on_left = added_more on_left n trem xs v left₀ a b es left new_left before h fits part sums.on_left size_left w.on_left;
        on_right = added_more on_right n trem xs v right₀ a b es right new_right before h (fits ∙ sym sides) part sums.on_right size_right w.on_right;
      }

  pub went-all : (a : ℕ) (e : EnvGen) (left right : List Float) → a ≡ n → Went a e left right
      → (e ≡ aged n v.env) × BothSides (λ (side : UnisonCopy → Float) sums. (side_voice side n trem (mixing xs sums) v).sums) on_left on_right left₀ right₀ left right
  went-all a e left right all w = (
    rw all at w.env,
    record { on_left = added-all on_left n trem xs v left₀ a left all w.on_left; on_right = added-all on_right n trem xs v right₀ a right all w.on_right },
  )

-- as the code goes on: by the levels that `fill_all` leaves of 64 numbers, over the copies that count
module _ (v : Voice) (trem : Float) (xs left₀ right₀ : List Float) where
  -- one side's sums with copies gone in from frame a on, by the levels of a part
  abbrev copied : ℕ → List Float → List UnisonCopy → (UnisonCopy → Float) → List Float → List Float
  copied a es cs side sums = (fold (part_copy side (length left₀) (length es) es) (mixing (drop a xs) sums) cs).sums

  pub went_on : (a b k : ℕ) (e next : EnvGen) (es part left right new_left new_right : List Float) → a ≤ b → b ≤ a + 64 → b ≤ length left₀
      → SidesFit v xs left₀ right₀ → k ≡ length (shown v).copies
      → length es ≡ 64 → length part ≡ length (take (b - a) es) → FilledAll e v.gain trem (take (b - a) es) part next
      → length new_left ≡ length (take (b - a) (drop a left)) → length new_right ≡ length (take (b - a) (drop a right))
      → BothSides (copied a (take (b - a) (part ++ drop (b - a) es)) (take k v.copies))
      on_left on_right (take (b - a) (drop a left)) (take (b - a) (drop a right)) new_left new_right
      → Went (length left₀) trem xs (shown v) left₀ right₀ a e left right
      → Went (length left₀) trem xs (shown v) left₀ right₀ b next (take a left ++ (new_left ++ drop (b - a) (drop a left))) (take a right ++ (new_right ++ drop (b - a) (drop a right)))
  unfolding shown
  went_on a b k e next es part left right new_left new_right before short h fits counts room many f size_left size_right added w =
      let m : length (take (b - a) es) ≡ b - a = simp (length-take, room) (omega arith) in
      let here : take (b - a) (part ++ drop (b - a) es) ≡ part = take_at part (drop (b - a) es) (b - a) (many ∙ m) in
      went_more (length left₀) trem xs (shown v) left₀ right₀ a b e next part left right new_left new_right before h refl fits.sides
      (rw m at f.env) (rw m at f.numbers) size_left size_right (rw (copies-shown v k counts, here) at added) w

-- ---- the voices of a table

module _ (side : UnisonCopy → Float) (n : ℕ) where
  -- the first n sums
  abbrev front : Mixing → Mixing
  front z = mixing z.samples (take n z.sums)

  front-copy : (es : List Float) → length es ≡ n → (z : Mixing) (c : UnisonCopy) → front (side_copy side n es z c) ≡ side_copy side n es (front z) c
  unfolding side_copy
  front-copy es h z c =
      let l : length es ≤ n = omega arith in
      rw (take-side (side c) n, take-take n n z.samples (omega arith), take_all n es l)

  front-voice : (trem : Float) (z : Mixing) (v : model.Voice) → front (side_voice side n trem z v) ≡ side_voice side n trem (front z) v
  unfolding side_voice
  front-voice trem z v =
      let es = levels v.gain trem n v.env in
      fold-see front (side_copy side n es) (side_copy side n es) (front-copy es (length-levels v.gain trem n v.env)) z v.copies

  -- the sums behind the first n are as they were
  pub front-added : (trem : Float) (xs old new : List Float) (v : model.Voice) → new ≡ (side_voice side n trem (mixing xs (take n old)) v).sums
      → new ++ drop n old ≡ (side_voice side n trem (mixing xs old) v).sums
  front-added trem xs old new v e =
      let whole = (side_voice side n trem (mixing xs old) v).sums in
      let seen : take n whole ≡ new = ap (λ (z : Mixing). z.sums) (front-voice trem (mixing xs old) v) ∙ sym e in
      rw (← voice-past side n trem (mixing xs old) v, ← seen) (take-append-drop n whole)

  -- k sums from zeros: the first n are the whole side
  pub first-sums : (k : ℕ) (trem : Float) (xs o : List Float) (vs : List model.Voice) → n ≤ k
      → o ≡ (fold (side_voice side n trem) (mixing xs (replicate k +0)) vs).sums → take n o ≡ side_mix side n trem xs vs
  unfolding side_mix
  first-sums k trem xs o vs h e =
      let zeros : take n (replicate k +0) ≡ replicate n +0 = part-replicate zero n k +0 (omega arith) in
      let seen = fold-see front (side_voice side n trem) (side_voice side n trem) (front-voice trem) (mixing xs (replicate k +0)) vs in
      rw e (ap (λ (z : Mixing). z.sums) seen ∙ rw zeros)

  -- what a voice uses up
  left-copies : (es : List Float) (z : Mixing) (cs : List UnisonCopy) → (fold (side_copy side n es) z cs).samples ≡ drop (n * length cs) z.samples
  unfolding side_copy
  left-copies es z [] = rw mul-zero
  left-copies es z (c ∷ cs) =
      let e : n + n * length cs ≡ n * suc (length cs) = rw mul-suc (omega arith) in
      left-copies es (side_copy side n es z c) cs ∙ drop-drop (n * length cs) n z.samples ∙ rw e

  pub left-voice : (trem : Float) (z : Mixing) (v : model.Voice) → (side_voice side n trem z v).samples ≡ drop (n * length v.copies) z.samples
  unfolding side_voice
  left-voice trem z v = left-copies (levels v.gain trem n v.env) z v.copies
