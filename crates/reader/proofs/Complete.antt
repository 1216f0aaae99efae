-- A tally's steps are enough, and each event stands in one of its counts.
use Prim.Native.Nat.{ℕ, zero, suc, ◌+◌, ◌<◌}
use mathlib.Core.Path.{◌≡◌, refl}
use mathlib.Core.Bool.{true, false}
use mathlib.Core.List.{List, [], ◌∷◌}
use native.Mathlib.Omega.{arith}
use lib.ListN.{length}
use Rattle.std.specs.Prelude.{Some, None, Ok, Err}
use Rattle.std.proofs.lemmas.Bool.{cond_both}
use Rattle.midi.specs.Answers.{Answer, is_event}
use Rattle.midi.specs.Steps.{Stepped, stepped}
use Rattle.midi.specs.Streams.{answers, steps_for}
use Rattle.midi.specs.declared.Event.TheVariants.{On, Off, Pedal, AllOff, Bend, Other}
use Rattle.midi.specs.declared.Cursor.{Cursor}
use Rattle.midi.proofs.Whole.{moves}
use Rattle.reader.specs.Tallies.{counts_of, last_step, tallied, total}

-- the counts of one answer
total-event : (a : Answer) → is_event a ≡ true → total (counts_of (a ∷ [])) ≡ 1
total-event (Ok (Some (On note velocity))) e = refl
total-event (Ok (Some (Off note))) e = refl
total-event (Ok (Some (Pedal down))) e = refl
total-event (Ok (Some AllOff)) e = refl
total-event (Ok (Some (Bend value))) e = refl
total-event (Ok (Some Other)) e = refl
total-event (Ok None) e = cc
total-event (Err r) e = cc

total-end : (a : Answer) → is_event a ≡ false → total (counts_of (a ∷ [])) ≡ 0
total-end (Ok (Some e)) h = cc
total-end (Ok None) h = refl
total-end (Err r) h = refl

total-more : (a : Answer) (l : List Answer) → total (counts_of (a ∷ l)) ≡ total (counts_of (a ∷ [])) + total (counts_of l)
total-more a l = omega arith

module _ (stream : List ℕ) where
  abbrev Enough : ℕ → Cursor → Type 0
  Enough n c = (0 < n) × (length stream < n + c.place)

  -- behind an event, a step less is enough
  behind : (n : ℕ) (c : Cursor) → Enough (suc n) c → is_event (stepped stream c).reply ≡ true → Enough n (stepped stream c).state
  behind n c h t = let m = moves stream c t in (omega (arith, h.1, m.0, m.1), omega (arith, h.1, m.0))

  ends : (n : ℕ) (c : Cursor) → Enough n c → is_event (last_step n stream c).reply ≡ false
  ends zero c h = absurd (omega (arith, h.0))
  ends (suc n) c h =
      cond_both (is_event (stepped stream c).reply) _ _ (λ (o : Stepped). is_event o.reply ≡ false)
      (λ t. ends n (stepped stream c).state (behind n c h t)) (λ t. t)

  counts : (n : ℕ) (c : Cursor) → Enough n c → total (counts_of (answers n stream c)) + 1 ≡ length (answers n stream c)
  counts zero c h = absurd (omega (arith, h.0))
  counts (suc n) c h =
      let a = (stepped stream c).reply in
      cond_both (is_event a) _ _ (λ (l : List Answer). total (counts_of (a ∷ l)) + 1 ≡ length (a ∷ l))
      (λ t. let l = answers n stream (stepped stream c).state in
      omega (arith, total-more a l, total-event a t, counts n (stepped stream c).state (behind n c h t)))
      (λ t. omega (arith, total-end a t))

  pub ended : (c : Cursor) → is_event (tallied stream c).last.reply ≡ false
  ended c = ends (steps_for stream) c (omega arith, omega arith)

  pub counted : (c : Cursor) → total (tallied stream c).counts + 1 ≡ length (answers (steps_for stream) stream c)
  counted c = counts (steps_for stream) c (omega arith, omega arith)
