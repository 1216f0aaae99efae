-- The ways out of Plan and of its parts.
use Rattle.std.specs.Prelude.{Ok, Err}
use mathlib.Core.Path.{◌≡◌, refl, ap, sym, ◌∙◌}
use mathlib.Core.Bool.{Bool, true, false, not, cond}
use mathlib.Core.List.{List, map}
use Prim.Native.Nat.{ℕ, ◌*◌, ◌≤◌}
use native.Mathlib.Omega.{arith}
use borrow.Author.Tests.{leb-true, eq-eqb, ne_eqb, eqb-true, eqb-false, not-false}
use lib.Dec.{T, leb, eqb}
use lib.Ieee.{Float, binary32, mul, in_float}
use lib.IntN.{pos}
use lib.ListN.{length}
use Rattle.lists.specs.Choose.{both, cond-true, cond-false}
use Rattle.outcome.specs.declared.Refusal.{Refusal}
use Rattle.outcome.specs.declared.Refusal.TheVariants.{Frames, LentLength}
use Rattle.outcome.specs.Numbers.{number_of}
use Rattle.stream.specs.Pitch.{glided}
use Rattle.design.specs.declared.InstrumentDesign.{InstrumentDesign}
use Rattle.design.specs.Accepted.{is_accepted, modulated, copies_of}
use Rattle.envelope.specs.Start.{rate_fits}
use Rattle.envelope.proofs.Starts.{rate-float}
use Rattle.design.proofs.Limits.{rate-fits}
use Rattle.model.specs.Types as M
use Rattle.model.specs.Changes.{moved, blocked}
use Rattle.model.specs.Formed.{frames_fit, well_formed}
use Rattle.model.specs.Voices.{with_copies, copies_in}
use Rattle.model.specs.Plan.{vibrato_factor, filter_factor, tremolo_gain, phase_after, wobbled, applied, modulated_by, opened, plan_of}
use Rattle.model.specs.Step.{no_block, block_open, block_missing, handles_spent, refusal, lent_to, accepted, step}
use Rattle.model.proofs.Laws.{modulated-copies}
use Rattle.model.proofs.Refusals.{Passes, passes}
use Rattle.voice.specs.View.{Seen}
use Rattle.table.specs.View.{seen_in, voices_in, Holds}
use Rattle.table.specs.declared.Table.{Table}
use Rattle.table.specs.Plans.{GlidedTable}
use Rattle.table.proofs.Changes.{map-seen}
use Rattle.table.proofs.Gliding.{glides-whole}
use Rattle.voice.specs.Changes.{on_seen}
use Rattle.instrument.specs.View.{view, roomy, counted}
use Rattle.instrument.specs.Calls.{Called, refusal_of, lent_of, answered_as, refused_as, moved_as, blocked_as}
use Rattle.instrument.specs.Plans.{PlannedAs, plan_fits, factor_of, step_of, phase_on, wobble_of, StandsFor}
use Rattle.instrument.specs.declared.Instrument.{Instrument}
use Rattle.instrument.specs.declared.Reply.TheVariants.{Planned}
use Rattle.instrument.proofs.Formed.{table-copies}
use Rattle.instrument.proofs.Calls.{some-number, number_in, Free, counts, counted_of, refusal-in, refused-call, accepted-call, stands-mapped, roomy_of}

-- ---- what the checks say of the numbers

pub frames-most : (d : InstrumentDesign) (n : ℕ) → frames_fit d n ≡ true → n ≤ 1024
unfolding frames_fit
frames-most d n e = by (modulated d.modulation) (leb-true n _ (both (leb 1 n) _ e).1)
  where
    by : (b : Bool) → n ≤ cond b 64 1024 → n ≤ 1024
    by true h = omega arith
    by false h = h

pub rate_float : (rate : ℕ) → rate_fits rate ≡ true → T (in_float binary32 (pos rate))
rate_float rate e = rate-float rate e

-- ---- the refusals

module _ (s : Instrument) (n : ℕ) (vibrato filter sine : Float) (curve : List Float) (lv : length s.table.voices ≡ 64) (lh : length s.held.notes ≡ 256) where
  -- nothing bars the call
  pub plan-number : Free s → number_in (plan_fits s n (length curve)) ≡ refusal_of s (M.Call.plan n vibrato filter sine curve)
  unfolding refusal_of refusal block_open block_missing no_block handles_spent view plan_fits
  plan-number f = rw (f.counted, f.well, eq-eqb s.frames 0 f.closed, table-copies s lv lh f.formed)
      (by (frames_fit s.design n) (n * (s.table.count * copies_of s.design)) (length curve))
    where
      by : (b : Bool) (x y : ℕ) → number_in (cond b (cond (eqb x y) (Ok tt) (Err LentLength)) (Err Frames)) ≡ cond (not b) 4 (cond (not (eqb y x)) 7 0)
      by b x y = cases b (eqb x y) refl
        where
          cases : (b c : Bool) → eqb x y ≡ c → number_in (cond b (cond (eqb x y) (Ok tt) (Err LentLength)) (Err Frames)) ≡ cond (not b) 4 (cond (not (eqb y x)) 7 0)
          cases true true p = rw (p, eq-eqb y x (sym (eqb-true x y p)))
          cases true false p = rw (p, ne_eqb y x (λ e. eqb-false x y p (sym e)))
          cases false c p = refl

-- ---- the lent list

module _ (s : Instrument) (c : M.Call) where
  pub refused-lent : (refusal_of s c ≡ 0 → ⊥) → lent_to c ≡ lent_of s c
  unfolding lent_of refusal_of step
  refused-lent z = by (counted s) refl
    where
      by : (b : Bool) → counted s ≡ b → lent_to c ≡ lent_of s c
      by true p = rw (p, ne_eqb (refusal (view s) c) 0 (λ q. z (rw p q)))
      by false p = rw p

  pub accepted-lent : refusal_of s c ≡ 0 → (accepted (view s) c).lent ≡ lent_of s c
  unfolding lent_of refusal_of step
  accepted-lent z = by (counted s) refl
    where
      by : (b : Bool) → counted s ≡ b → (accepted (view s) c).lent ≡ lent_of s c
      by true p = rw (p, eq-eqb (refusal (view s) c) 0 (rw p at z))
      by false p = let y : ◌≡◌ {A = ℕ} 1 0 = rw p at z in let n : ⊥ = omega arith in absurd n

-- ---- the states

-- another table of as many voices
module _ (s : Instrument) (g : M.Voice → M.Voice) (t : Table) (h : Holds (map (on_seen g) (seen_in s.table)) t) where
  room : counted s ≡ true → roomy t s.held ≡ true
  room k = let st = stands-mapped s k g t h in roomy_of t s.held st.size (counts s k).held256 st.room

  voices-are : voices_in t ≡ map g (voices_in s.table)
  voices-are = ap (map (λ (x : Seen). x.voice)) h.seen ∙ map-seen g (seen_in s.table)

  moved-stands : (a b c x : Float) → StandsFor s (moved (view s) (map g (view s).voices) a b c x) (moved_as s t a b c x)
  unfolding counted view moved_as moved
  moved-stands a b c x = record { in_room = room; next = ap (λ (vs : List M.Voice). moved (view s) vs a b c x) voices-are }

  blocked-stands : (n : ℕ) → StandsFor s (blocked (view s) (map g (view s).voices) n) (blocked_as s t n)
  unfolding counted view blocked_as blocked
  blocked-stands n = record { in_room = room; next = ap (λ (vs : List M.Voice). blocked (view s) vs n) voices-are }

-- the state after the modulation
abbrev pub ModulatedAs : Instrument → ℕ → Float → Float → Float → Instrument → Type 0
ModulatedAs s n vibrato filter sine r = StandsFor s (modulated_by (view s) n vibrato filter sine) r

-- the change of every copy is the definition's
wobble-is : (s : Instrument) (v f : Float) → with_copies (wobble_of s.design.modulation (mul binary32 s.bend v) (mul binary32 s.brightness f)) ≡ with_copies (wobbled (view s) v f)
unfolding wobble_of wobbled view
wobble-is s v f = refl

module _ (s : Instrument) (n : ℕ) (vibrato filter sine : Float) where
  pub applies : (r : Instrument) (v f t d a b c : Float) (u : Table)
      → v ≡ factor_of s.design.modulation.vibrato_cents vibrato → f ≡ factor_of s.design.modulation.filter_octaves filter → t ≡ tremolo_gain s.design.modulation sine
      → d ≡ step_of n s.design.sample_rate → a ≡ phase_on s.vib_phase s.design.modulation.vibrato_rate d
      → b ≡ phase_on s.flt_phase s.design.modulation.filter_rate d → c ≡ phase_on s.trem_phase s.design.modulation.tremolo_rate d
      → Holds (map (on_seen (with_copies (wobble_of s.design.modulation (mul binary32 s.bend v) (mul binary32 s.brightness f)))) (seen_in s.table)) u → r ≡ moved_as s u a b c t
      → StandsFor s (applied (view s) n vibrato filter sine) r
  unfolding applied vibrato_factor filter_factor phase_after view
  applies r v f t d a b c u ev ef et ed ea eb ec e q =
      let g : with_copies (wobble_of s.design.modulation (mul binary32 s.bend v) (mul binary32 s.brightness f)) ≡ with_copies (wobbled (view s)
      (vibrato_factor s.design.modulation vibrato) (filter_factor s.design.modulation filter)) = rw (ev, ef) (wobble-is s _ _) in
      rw (q, ea, eb, ec, et, ed) (moved-stands s _ u (rw g at e) _ _ _ _)

  pub modulated-on : (r : Instrument) → modulated s.design.modulation ≡ true → StandsFor s (applied (view s) n vibrato filter sine) r → ModulatedAs s n vibrato filter sine r
  unfolding modulated_by view
  modulated-on r e h = record { in_room = h.in_room; next = h.next ∙ sym (cond-true _ _ _ e) }

  pub modulated-off : modulated s.design.modulation ≡ false → ModulatedAs s n vibrato filter sine s
  unfolding modulated_by view
  modulated-off e = record { in_room = λ k. k; next = sym (cond-false _ _ _ e) }

-- ---- the call

module _ (s : Instrument) (n : ℕ) (vibrato filter sine : Float) (old : List Float) where
  pub plan-refused : (refusal : Refusal) (r : Called) → refusal_of s (M.Call.plan n vibrato filter sine old) ≡ number_of refusal → r ≡ refused_as s refusal
      → PlannedAs s n vibrato filter sine old old r
  plan-refused refusal r e q =
      let l = some-number refusal in
      rw q (record { call = refused-call s _ refusal e; lent = refused-lent s (M.Call.plan n vibrato filter sine old) (λ w. let z : number_of refusal ≡ 0 = sym e ∙ w in omega arith) })

  module _ (e : refusal_of s (M.Call.plan n vibrato filter sine old) ≡ 0) where
    kept : Passes (view s) (M.Call.plan n vibrato filter sine old)
    kept = passes (view s) _ (refusal-in s _ (counted_of s _ e) ∙ e)

    pub plan-fits : (n ≤ 1024) × (rate_fits s.design.sample_rate ≡ true)
    unfolding well_formed view
    plan-fits = (frames-most _ _ (not-false _ kept.frames), rate-fits _ (both (is_accepted s.design) _ kept.well).0)

    module _ (t : Instrument) (m : ModulatedAs s n vibrato filter sine t) where
      plan-size : n * copies_in (voices_in t.table) ≡ length old
      unfolding view
      plan-size =
          let q : copies_in (voices_in t.table) ≡ copies_in (view s).voices = ap (λ (w : M.Model). copies_in w.voices) m.next ∙ modulated-copies (view s) n vibrato filter sine in
          ap (◌*◌ n) q ∙ sym (eqb-true _ _ (not-false _ kept.lengths))

      pub plan-done : (u : Table) (new : List Float) (r : Called) → GlidedTable n t.table old new u → r ≡ answered_as Planned (blocked_as t u n) → PlannedAs s n vibrato filter sine old new r
      unfolding plan_of opened view
      plan-done u new r g q =
          let w = glides-whole n t.table old new u plan-fits.0 plan-size g in
          let o = blocked-stands t (with_copies (glided n)) u w.0 n in
          let same = ap (λ (w : M.Model). opened w n) m.next in
          rw q
          (record {
            call = accepted-call s _ (answered_as Planned (blocked_as t u n)) e
                (record { reply = refl; in_room = o.in_room (m.in_room (counted_of s _ e)); next = o.next ∙ ap (λ (w : M.Outcome). w.model) same });
            lent = w.1 ∙ ap (λ (w : M.Outcome). w.lent) same ∙ accepted-lent s (M.Call.plan n vibrato filter sine old) e;
          })
