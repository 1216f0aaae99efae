-- The pass that drops ended voices and reports them, at one turn.
use mathlib.Core.Path.{◌≡◌, refl, ap, subst}
use mathlib.Core.Bool.{Bool, true, false, not}
use mathlib.Core.List.{List, [], ◌∷◌, ◌++◌, map, map-append, append-nil}
use Prim.Native.Nat.{ℕ, zero, suc, ◌+◌, ◌-◌, ◌≤◌, ◌<◌}
use native.Mathlib.Omega.{arith}
use borrow.Author.Tests.{not-true, not-false}
use lib.ListN.{length, get_or, set, replicate, length-append}
use lib.Seq.{get_or-set_same}
use Rattle.lists.specs.Pass.{Pass, pass-keep, pass-put, pass-spend}
use Rattle.lists.specs.Places.{kept, kept_append, map-kept}
use Rattle.model.specs.Types as model
use Rattle.model.specs.Voices.{is_ended}
use Rattle.model.specs.Mix.{remaining, ended_handles}
use Rattle.voice.specs.declared.Voice.{Voice}
use Rattle.voice.specs.View.{shown, Seen, seen}
use Rattle.table.specs.View.{voices_of}
use Rattle.table.specs.Mixes.{goes_on, reported}

-- one number more in a report
report-more : (l es : List ℕ) (h : ℕ) → set (reported l es) (length l) h ≡ reported (l ++ (h ∷ [])) es
report-more [] [] h = refl
report-more [] (e ∷ es) h = refl
report-more (x ∷ l) [] h = refl
report-more (x ∷ l) (e ∷ es) h = ap (◌∷◌ x) (report-more l es h)

ended-more : (l : List Seen) (x : Seen)
    → ended_handles (voices_of (l ++ (x ∷ []))) ≡ ended_handles (voices_of l) ++ map (λ (v : model.Voice). v.handle) (kept is_ended (x.voice ∷ []))
unfolding ended_handles
ended-more l x = rw (map-append (λ (x : Seen). x.voice), kept_append is_ended (voices_of l) (x.voice ∷ []), map-append (λ (v : model.Voice). v.handle))

-- the table and the report, when the voices of l are done: w of them go on and k have ended
pub record Retaining (l : List Seen) (es : List ℕ) (w k i : ℕ) (ws : List Voice) (ended : List ℕ) (vs : List Voice) : Type 0 where
  pub pass : Pass seen (kept goes_on l) w i ws vs
  pub report : ended ≡ reported (ended_handles (voices_of l)) es
  pub many : k ≡ length (ended_handles (voices_of l))
  pub places : w + k ≡ i

-- v is the next voice, done, and stored where it stood; a voice that goes on moves up where some before it have ended
module _ {l : List Seen} {es : List ℕ} {w k i : ℕ} {ws : List Voice} {ended : List ℕ} {vs : List Voice} (v : Voice) (d : Retaining l es w k i ws ended vs) where
  module _ (e : not (is_ended (shown v)) ≡ true) where
    same : ended_handles (voices_of (l ++ (seen v ∷ []))) ≡ ended_handles (voices_of l)
    unfolding seen
    same = rw (ended-more l (seen v), not-true (is_ended (shown v)) e, append-nil)

    retain-keep : (ts : List Voice) → Pass seen (kept goes_on l ++ (seen v ∷ [])) (w + 1) (i + 1) ts vs → Retaining (l ++ (seen v ∷ [])) es (w + 1) k (i + 1) ts ended vs
    unfolding goes_on seen
    retain-keep ts p =
        record {
          pass = rw (kept_append goes_on l (seen v ∷ []), e) p;
          report = rw same d.report;
          many = rw same d.many;
          places = let z = d.places in omega arith;
        }

    pub retain-here : k ≡ 0 → i < length vs → Retaining (l ++ (seen v ∷ [])) es (w + 1) k (i + 1) (set ws i v) ended vs
    retain-here z h =
        let p : w ≡ i = let y = d.places in omega arith in
        retain-keep (set ws i v) (subst (λ (j : ℕ). Pass seen (kept goes_on l ++ (seen v ∷ [])) (w + 1) (i + 1) (set ws j v) vs) p (pass-keep v (seen v) refl d.pass h))

    pub retain-up : (x : Voice) → 0 < k → i < length vs → Retaining (l ++ (seen v ∷ [])) es (w + 1) k (i + 1) (set (set ws i v) (i - k) (get_or (set ws i v) i x)) ended vs
    retain-up x z h =
        let y = d.places in
        let u : i - k ≡ w = omega arith in
        let n = d.pass.size in
        let r : get_or (set ws i v) i x ≡ v = get_or-set_same ws i v x (omega arith) in
        rw (r, u) (retain-keep (set (set ws i v) w v) (pass-put v (seen v) refl (pass-spend v d.pass) (omega arith) (omega arith)))

  pub retain-not : not (is_ended (shown v)) ≡ false → Retaining (l ++ (seen v ∷ [])) es w (k + 1) (i + 1) (set ws i v) (set ended k v.handle) vs
  unfolding goes_on seen shown
  retain-not e =
      let more : ended_handles (voices_of (l ++ (seen v ∷ []))) ≡ ended_handles (voices_of l) ++ (v.handle ∷ []) =
      rw (ended-more l (seen v), not-false (is_ended (shown v)) e) in
      record {
        pass = rw (kept_append goes_on l (seen v ∷ []), e, append-nil) (pass-spend v d.pass);
        report = rw (d.report, d.many, more) (report-more (ended_handles (voices_of l)) es v.handle);
        many = rw more (simp length-append (omega arith));
        places = let z = d.places in omega arith;
      }

-- ---- what is left of a whole table

pub remaining-seen : (l : List Seen) → voices_of (kept goes_on l) ≡ remaining (voices_of l)
unfolding remaining goes_on
remaining-seen l = map-kept (λ (x : Seen). x.voice) (λ (v : model.Voice). not (is_ended v)) l

-- each voice goes on or is reported
pub all_told : (l : List Seen) → length (kept goes_on l) + length (ended_handles (voices_of l)) ≡ length l
unfolding goes_on ended_handles
all_told [] = refl
all_told (x ∷ l) = by (is_ended x.voice) refl (all_told l)
  where
    by : (b : Bool) → is_ended x.voice ≡ b → length (kept goes_on l) + length (ended_handles (voices_of l)) ≡ length l
        → length (kept goes_on (x ∷ l)) + length (ended_handles (voices_of (x ∷ l))) ≡ length (x ∷ l)
    by true e h = rw e (omega arith)
    by false e h = rw e (omega arith)

-- "with a count and zeros behind"
pub reported-zeros : (l : List ℕ) (k : ℕ) → length l ≤ k → reported l (replicate k 0) ≡ l ++ replicate (k - length l) 0
reported-zeros [] k h = let e : k - 0 ≡ k = omega arith in rw e
reported-zeros (x ∷ l) zero h = let z : ⊥ = omega arith in absurd z
reported-zeros (x ∷ l) (suc k) h = let e : suc k - suc (length l) ≡ k - length l = omega arith in rw e (ap (◌∷◌ x) (reported-zeros l k (omega arith)))
