-- A voice whose copies no longer move: it is its own later self, and the curve of each copy is one number.
use mathlib.Core.Path.{◌≡◌, refl, ap, sym, subst, ◌∙◌}
use mathlib.Core.Bool.{Bool, true, false, false≢true}
use mathlib.Core.List.{List, [], ◌∷◌, ◌++◌, map, flat_map}
use Prim.Native.Nat.{ℕ, zero, suc, ◌+◌, ◌-◌, ◌*◌, ◌≤◌, ◌<◌, min}
use native.Mathlib.Nat.{mul-le-mul_left}
use native.Mathlib.Omega.{arith}
use lib.Ieee.{Float}
use lib.ListN.{length, take, drop, get_or, replicate, length-take, length-replicate, take-append-drop}
use lib.Seq.{take_all, take_at, get_or-take}
use Rattle.std.specs.Prelude.{Option, Some, None, MatchOption, unwrap_or}
use Rattle.std.specs.Bool.{MatchBool}
use Rattle.std.specs.List.{All, AllWithin, HoldsAt}
use Rattle.lists.specs.Parts.{head-same, tail-same, part-size, flat-more, length-flat}
use Rattle.lists.specs.Prefix.{take_min, mapped, length-mapped, take-mapped}
use Rattle.stream.specs.declared.UnisonCopy.{UnisonCopy}
use Rattle.stream.specs.Pitch.{pitched, glide_step, stepped, heard, glided, curve}
use Rattle.model.specs.Voices.{with_copies, with_voice}
use Rattle.voice.specs.declared.Voice.{Voice}
use Rattle.voice.specs.View.{Seen, shown, seen, no_copy}
use Rattle.voice.specs.Changes.{on_seen}
use Rattle.curves.specs.Glides.{flat, GlidedVoice, StandsAs, StandingCurve}
use Rattle.curves.proofs.Glides.{wider}
use Rattle.curves.proofs.Holds.{stays-flat, steady_glided}

-- the next sample leaves the pitch where it is, or moves it
abbrev pub Still : UnisonCopy → Type 0
Still c = glide_step c ≡ c.pitch

abbrev pub Moves : UnisonCopy → Type 0
Moves c = Still c → ⊥

-- by the code's test
pub moving : (c : UnisonCopy) → (Still c → false ≡ true) → Moves c
moving c h e = absurd (false≢true (h e))

-- copies that all stand
stand-glided : (n : ℕ) (cs : List UnisonCopy) → All Still cs → map (glided n) cs ≡ cs
stand-glided n [] h = refl
stand-glided n (c ∷ cs) h = rw (steady_glided n c (h 0 c (omega arith)), stand-glided n cs (λ k d l. h (suc k) d (omega arith)))

-- where no copy moves in one sample, none would
pub stood : (xs : List UnisonCopy) (j : ℕ) (d : UnisonCopy) → j < length xs → map (glided 1) xs ≡ xs → glide_step (get_or xs j d) ≡ (get_or xs j d).pitch
unfolding glided stepped pitched
stood [] j d h e = let z : ⊥ = omega arith in absurd z
stood (x ∷ xs) zero d h e = ap (λ (c : UnisonCopy). c.pitch) (head-same e)
stood (x ∷ xs) (suc j) d h e = stood xs j d (omega arith) (tail-same e)

-- and their curves are flat
flat-all : (n : ℕ) (cs : List UnisonCopy) → map (glided 1) cs ≡ cs → flat_map (flat n) cs ≡ flat_map (curve n) cs
unfolding flat_map glided
flat-all n [] e = refl
flat-all n (c ∷ cs) e = rw (stays-flat n c (head-same e), flat-all n cs (tail-same e))

-- how many stand at the head, as the code finds the first that moves
pub head-stands : (cs : List UnisonCopy) (r : Option ℕ) → MatchOption r (AllWithin Still cs 0 (length cs)) (λ (i : ℕ). (i < length cs) × HoldsAt (λ _. Unit {0}) cs i × AllWithin Still cs 0 i)
    → (unwrap_or r (length cs) ≤ length cs) × ((k : ℕ) → map (glided k) (take (unwrap_or r (length cs)) cs) ≡ take (unwrap_or r (length cs)) cs)
head-stands cs None m = (omega arith, λ k. rw (take_all (length cs) cs (omega arith)) (stand-glided k cs (λ j d l. m j d (omega arith) l)))
head-stands cs (Some i) m = (
  omega (arith, m.0),
  λ k. stand-glided k (take i cs) (λ j d l. let z = length-take i cs in let h : j < i = omega arith in subst Still (sym (get_or-take i cs j d h)) (m.2 j d (omega arith) h)),
)

-- they are as they will be, and have written their numbers
pub head-glided : (n m : ℕ) (cs : List UnisonCopy) (out ys : List Float) → m ≤ length cs → ((k : ℕ) → map (glided k) (take m cs) ≡ take m cs)
    → ys ≡ flat_map (flat n) (take m cs) → (cs ≡ mapped (glided n) m cs) × (take (n * m) (ys ++ drop (n * m) out) ≡ flat_map (curve n) (take m cs))
head-glided n m cs out ys h e w =
    let many : length (take m cs) ≡ m = simp length-take (omega arith) in
    let size : length ys ≡ n * m = ap length w ∙ length-flat (flat n) n (λ c. length-replicate n (heard c)) (take m cs) ∙ ap (◌*◌ n) many in (
      sym (rw (e n) (take-append-drop m cs)),
      take_at ys (drop (n * m) out) (n * m) size ∙ w ∙ flat-all n (take m cs) (e 1),
    )

-- a voice stands where its copies do
module _ (v : Voice) where
  copies-count : (n : ℕ) → n ≡ length (shown v).copies → n ≡ min v.copy_count (length v.copies)
  unfolding shown
  copies-count n h = h ∙ length-take v.copy_count v.copies

  -- the code takes the copies that count
  pub copies-shown : (n : ℕ) → n ≡ length (shown v).copies → take n v.copies ≡ (shown v).copies
  unfolding shown
  copies-shown n h = rw (h, length-take) (take_min v.copy_count _ v.copies refl)

  -- and puts them back changed
  pub copies-back : (f : UnisonCopy → UnisonCopy) (n : ℕ) (new : List UnisonCopy) → n ≡ length (shown v).copies → new ≡ map f (take n v.copies)
      → take v.copy_count (new ++ drop n v.copies) ≡ map f (shown v).copies
  copies-back f n new h e =
      let l = copies-count n h in
      ap (λ (l : List UnisonCopy). take v.copy_count (l ++ drop n v.copies)) e
      ∙ sym (take_min v.copy_count (length v.copies) (mapped f n v.copies) (length-mapped f n v.copies))
      ∙ ap (λ (k : ℕ). take k (mapped f n v.copies)) (sym l)
      ∙ take-mapped f n v.copies (omega arith)
      ∙ ap (map f) (copies-shown n h)

  later-copies : (n : ℕ) → on_seen (with_copies (glided n)) (seen v) ≡ seen v → map (glided n) (shown v).copies ≡ (shown v).copies
  unfolding seen shown on_seen with_copies with_voice
  later-copies n e = ap (λ (x : Seen). x.voice.copies) e

  pub all-stand : ((n : ℕ) → map (glided n) (shown v).copies ≡ (shown v).copies) → StandsAs v true
  unfolding seen shown on_seen with_copies with_voice
  all-stand h = record { stays = λ _ n. rw (h n); all = λ _. refl }

  pub one-moves : (map (glided 1) (shown v).copies ≡ (shown v).copies → ⊥) → StandsAs v false
  one-moves moves = record { stays = λ e. absurd (false≢true e); all = λ h. absurd (moves (later-copies 1 (h 1))) }

-- by the copies that the code asks
pub stands-by : (v : Voice) (cs : List UnisonCopy) (r : Bool) → cs ≡ (shown v).copies
    → MatchBool r (AllWithin Still cs 0 (length cs)) ((k : ℕ) × (k < length cs) × HoldsAt Moves cs k) → StandsAs v r
stands-by v cs true e m = all-stand v (rw e at (λ (n : ℕ). stand-glided n cs (λ k d h. m k d (omega arith) h)))
stands-by v cs false e m = one-moves v (rw e at (λ (h : map (glided 1) cs ≡ cs). m.2 no_copy (stood cs m.0 no_copy m.1 h)))

-- one copy more has filled its part, as the code does
pub flat-writes : (n j : ℕ) (out ys : List Float) (x : Float) (cs : List UnisonCopy) → n * length cs ≡ length out → j < length cs
    → x ≡ heard (get_or cs j no_copy) → take (n * j) out ≡ flat_map (flat n) (take j cs)
    → ys ≡ replicate (length (take (n * (j + 1) - n * j) (drop (n * j) out))) x
    → take (n * (j + 1)) (take (n * j) out ++ (ys ++ drop (n * (j + 1) - n * j) (drop (n * j) out))) ≡ flat_map (flat n) (take (j + 1) cs)
flat-writes n j out ys x cs fits h here done w =
    let next : n * (j + 1) ≡ n * j + n = omega arith in
    let k : n * (j + 1) - n * j ≡ n = omega (arith, next) in
    let room : n * j + n ≤ length out = omega (arith, mul-le-mul_left n h, next) in
    let size : length (take n (drop (n * j) out)) ≡ n = part-size (n * j) n out room in
    let c = get_or cs j no_copy in
    let full : ys ≡ flat n c = rw (k, size, here) at w in
    rw (k, next) (wider (n * j) n n out ys (flat n c) refl room full (length-replicate n (heard c)) ∙ rw done (sym (flat-more (flat n) cs j no_copy h)))

-- the voice that stands has glided: Plan need not put it back
pub stands-glides : (frames : ℕ) (v : Voice) (r : Bool) (old new : List Float) → StandsAs v r → r ≡ true → StandingCurve frames v old new
    → GlidedVoice frames v v old new
stands-glides frames v r old new s e w =
    record {
      voice = λ _. sym (s.stays e frames);
      numbers = λ h. w.numbers h ∙ flat-all frames (shown v).copies (later-copies v 1 (s.stays e 1));
      other = λ no. (refl, w.other no);
    }
