-- The ways out of Mix.
use Rattle.std.specs.Prelude.{Result, Ok, Err}
use mathlib.Core.Path.{◌≡◌, refl, ap, sym, ◌∙◌}
use mathlib.Core.Bool.{Bool, true, false, not, ◌&&◌, ◌||◌, cond}
use mathlib.Core.List.{List}
use Prim.Native.Nat.{ℕ, ◌*◌, ◌-◌, ◌≤◌}
use native.Mathlib.Omega.{arith}
use borrow.Author.Tests.{eq-eqb, ne_eqb, eqb-true, eqb-false, not-false}
use lib.Dec.{eqb}
use lib.Ieee.{Float}
use lib.ListN.{length, take, replicate, length-take}
use Rattle.lists.specs.Choose.{both, clash}
use Rattle.float32.specs.Numbers.{zero as +0}
use Rattle.outcome.specs.declared.Outcome.{Outcome}
use Rattle.outcome.specs.declared.Refusal.{Refusal}
use Rattle.outcome.specs.declared.Refusal.TheVariants.{Malformed, NoBlock, LentLength}
use Rattle.outcome.specs.Numbers.{number_of}
use Rattle.design.specs.declared.InstrumentDesign.{InstrumentDesign}
use Rattle.design.specs.Accepted.{copies_of}
use Rattle.model.specs.Types as M
use Rattle.model.specs.Changes.{blocked}
use Rattle.model.specs.Formed.{block_fits, well_formed}
use Rattle.model.specs.Voices.{copies_in}
use Rattle.model.specs.Mix.{on_left, on_right, output, played, mix_of}
use Rattle.model.specs.Step.{no_block, block_open, block_missing, handles_spent, refusal}
use Rattle.model.proofs.Laws.{length-side}
use Rattle.model.proofs.Refusals.{Passes, passes}
use Rattle.table.specs.View.{voices_in}
use Rattle.table.specs.Mixes.{MixedTable}
use Rattle.table.specs.declared.Table.{Table}
use Rattle.table.proofs.Mixing.{Played, played-all}
use Rattle.render.specs.Mixes.{PutAs}
use Rattle.instrument.specs.View.{view, counted, formed}
use Rattle.instrument.specs.Calls.{refusal_of, blocked_as}
use Rattle.instrument.specs.Mixes.{MixAs, mix_fits}
use Rattle.instrument.specs.declared.Instrument.{Instrument}
use Rattle.instrument.specs.declared.Report.{Report}
use Rattle.instrument.proofs.Formed.{Parts, parts-of, table-copies}
use Rattle.instrument.proofs.Calls.{some-number, number_in, counts, counted_of, refusal-in, refused-call, accepted-step, roomy_of}
use Rattle.instrument.proofs.Plans.{frames-most, refused-lent, accepted-lent}

-- an open block is no longer than the longest
block-most : (d : InstrumentDesign) (n : ℕ) → block_fits d n ≡ true → n ≤ 1024
unfolding block_fits
block-most d n e = by (eqb n 0) refl
  where
    by : (b : Bool) → eqb n 0 ≡ b → n ≤ 1024
    by true p = let z : n ≡ 0 = eqb-true n 0 p in omega arith
    by false p = frames-most d n (rw p at e)

either : (a b : Bool) → (a || b) ≡ false → (a ≡ false) × (b ≡ false)
either true b e = (e, cc)
either false b e = (refl, e)

-- ---- the refusals

-- both tests of lengths as the definition has them
lengths-are : (a b c d : ℕ) → number_in (cond (eqb a b && eqb c d) (Ok tt) (Err LentLength)) ≡ (cond (not (eqb b a) || not (eqb d c)) 7 0)
lengths-are a b c d = by (eqb a b) refl (eqb c d) refl
  where
    by : (p : Bool) → eqb a b ≡ p → (q : Bool) → eqb c d ≡ q → number_in (cond (eqb a b && eqb c d) (Ok tt) (Err LentLength)) ≡ (cond (not (eqb b a) || not (eqb d c)) 7 0)
    by true p true q = rw (p, q, eq-eqb b a (sym (eqb-true a b p)), eq-eqb d c (sym (eqb-true c d q)))
    by true p false q = rw (p, q, eq-eqb b a (sym (eqb-true a b p)), ne_eqb d c (λ e. eqb-false c d q (sym e)))
    by false p q r = rw (p, ne_eqb b a (λ e. eqb-false a b p (sym e)))

module _ (s : Instrument) (xs out : List Float) where
  pub mix-unformed : formed s ≡ false → refusal_of s (M.Call.mix xs out) ≡ number_of Malformed
  unfolding refusal_of refusal formed
  mix-unformed e = by (counted s) refl (well_formed (view s)) refl
    where
      by : (a : Bool) → counted s ≡ a → (b : Bool) → well_formed (view s) ≡ b → refusal_of s (M.Call.mix xs out) ≡ 1
      by true p true q = absurd (clash (formed s) (rw (p, q)) e)
      by true p false q = rw (p, q)
      by false p b q = rw p

module _ (s : Instrument) (xs out : List Float) (lv : length s.table.voices ≡ 64) (lh : length s.held.notes ≡ 256) where
  abbrev call : M.Call
  call = M.Call.mix xs out

  pub mix-number : formed s ≡ true → number_in (mix_fits s (length xs) (length out)) ≡ refusal_of s call
  unfolding refusal_of refusal formed mix_fits block_open block_missing no_block handles_spent view
  mix-number e =
      let w = both (counted s) (well_formed (view s)) e in
      rw (w.0, w.1, table-copies s lv lh e)
      (by (eqb s.frames 0) _ ∙ ap (λ (k : ℕ). cond (eqb s.frames 0) 6 k) (lengths-are (s.frames * (s.table.count * copies_of s.design)) (length xs) (2 * s.frames) (length out)))
    where
      by : (b : Bool) (x : Result (Unit {0}) Refusal) → number_in (cond b (Err NoBlock) x) ≡ cond b 6 (number_in x)
      by true x = refl
      by false x = refl

-- ---- the call

module _ (s : Instrument) (xs old : List Float) where
  pub mix-refused : (refusal : Refusal) (r : Outcome Instrument Report) → refusal_of s (M.Call.mix xs old) ≡ number_of refusal
      → r ≡ record { state = s; reply = Err refusal } → MixAs s xs old old r
  mix-refused refusal r e q =
      let l = some-number refusal in
      rw q (record { call = refused-call s _ refusal e; lent = refused-lent s (M.Call.mix xs old) (λ w. let z : number_of refusal ≡ 0 = sym e ∙ w in omega arith) })

  -- t is the table after an accepted call
  module _ (lv : length s.table.voices ≡ 64) (lh : length s.held.notes ≡ 256) (e : refusal_of s (M.Call.mix xs old) ≡ 0) {left right : List Float} {ended : List ℕ} {t : Table}
      (d : MixedTable s.frames s.trem s.table xs (replicate 1024 +0) (replicate 1024 +0) (replicate 64 0) left right ended t) where
    kept : Passes (view s) (M.Call.mix xs old)
    kept = passes (view s) _ (refusal-in s _ (counted_of s _ e) ∙ e)

    parts : Parts s
    unfolding formed
    parts = parts-of s lv lh (rw (counted_of s _ e, kept.well))

    lengths : (s.frames * copies_in (voices_in s.table) ≡ length xs) × (2 * s.frames ≡ length old)
    unfolding view
    lengths = let b = either _ _ kept.lengths in (sym (eqb-true _ _ (not-false _ b.0)), sym (eqb-true _ _ (not-false _ b.1)))

    short : s.frames ≤ 1024
    short = block-most s.design s.frames parts.block

    pub mix-played : Played s.frames s.trem s.table xs left right ended t
    mix-played = played-all s.frames s.trem s.table xs lv parts.voices64 short lengths.0 d

    inside : counted (blocked_as s t 0) ≡ true
    unfolding counted blocked_as
    inside =
        let few = parts.voices64 in
        let size = mix-played.size in
        roomy_of t s.held (omega arith) parts.held256 (mix-played.room (counts s (counted_of s _ e)).room)

    pub mix-done : (new : List Float) (r : Outcome Instrument Report) → PutAs left right s.frames old new
        → r ≡ record { state = blocked_as s t 0; reply = Ok (record { count = s.table.count - t.count; ended = ended }) } → MixAs s xs old new r
    unfolding output view mix_of played blocked blocked_as
    mix-done new r o q =
        let p = mix-played in
        let ll : length (take s.frames left) ≡ s.frames = ap length p.left_sums ∙ length-side on_left _ _ _ _ in
        let lr : length (take s.frames right) ≡ s.frames = ap length p.right_sums ∙ length-side on_right _ _ _ _ in
        let ml = length-take s.frames left in
        let mr = length-take s.frames right in
        let put = o.written (record { left_sums = omega arith; right_sums = omega arith; places = lengths.1 }) in
        rw q
        (record {
          call = accepted-step s _ _ _ e p.said inside (ap (λ (vs : List M.Voice). blocked (view s) vs 0) p.voices);
          lent = put ∙ rw (p.left_sums, p.right_sums) (accepted-lent s (M.Call.mix xs old) e);
        })
