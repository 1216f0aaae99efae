-- The ways out of the queries.
use Rattle.std.specs.Prelude.{Option, None, Some, Ok, Err, MatchOption}
use Rattle.std.specs.Option.{is_some}
use mathlib.Core.Path.{◌≡◌, refl, ap, sym, ◌∙◌}
use mathlib.Core.Bool.{Bool, true, false, cond}
use Prim.Native.Nat.{ℕ, ◌≤◌, ◌<◌}
use native.Mathlib.Omega.{arith}
use borrow.Author.Tests.{lt-ltb}
use lib.Dec.{ltb}
use lib.ListN.{length}
use Rattle.lists.specs.Choose.{both}
use Rattle.lists.specs.Places.{find_at}
use Rattle.lists.specs.Found.{find-passes, find-missed}
use Rattle.outcome.specs.declared.Refusal.TheVariants.{Malformed}
use Rattle.model.specs.Types as M
use Rattle.model.specs.Formed.{well_formed}
use Rattle.model.specs.Queries as Q
use Rattle.model.specs.Queries.{is_active, active_voices, sounds_note, VoiceOf}
use Rattle.model.specs.Voices.{is_place, place_of, has_handle, handle_at}
use Rattle.table.specs.View.{voices_in, place_in, handle_in}
use Rattle.table.proofs.Searches.{none-inside, some-inside}
use Rattle.instrument.specs.View.{view, counted, formed}
use Rattle.instrument.specs.Asked.{VoiceAs}
use Rattle.instrument.specs.declared.Instrument.{Instrument}

-- whether a handle is active, as a search for it answers
pub active_in : (s : Instrument) (h : ℕ) → is_active (view s) h ≡ cond (well_formed (view s))
    (Q.Answer.active (is_some (place_in (find_at (has_handle h) (voices_in s.table)) (voices_in s.table)))) (Q.Answer.refused 1)
unfolding is_active is_place place_of view
active_in s h =
    ap (λ (b : Bool). cond (well_formed (view s)) (Q.Answer.active b) (Q.Answer.refused 1)) (sym (some-in (ltb (find_at (has_handle h) (voices_in s.table)) (length (voices_in s.table))) _))
  where
    some-in : (b : Bool) (k : ℕ) → is_some (cond b (Some k) None) ≡ b
    some-in true k = refl
    some-in false k = refl

-- a state that is not well formed, on its counts or on what it stands for
pub voice-refused : (s : Instrument) → formed s ≡ false → (n : ℕ) → VoiceAs s n (Err Malformed)
unfolding VoiceOf formed
voice-refused s e n = record { in_room = λ p. ((rw p at e), refl); beyond = λ _. refl }

-- a state that is well formed
module _ (s : Instrument) (e : formed s ≡ true) where
  fine : (counted s ≡ true) × (well_formed (view s) ≡ true)
  unfolding formed
  fine = both (counted s) (well_formed (view s)) e

  module _ (n : ℕ) where
    abbrev at : ℕ
    at = find_at (sounds_note n) (voices_in s.table)

    voice-none : length (voices_in s.table) ≤ at → VoiceAs s n (Ok None)
    unfolding VoiceOf view
    voice-none h =
        record { in_room = λ _. (fine.1, find-missed (sounds_note n) (voices_in s.table) (omega arith)); beyond = λ x. absurd (x fine.0) }

    voice-some : at < length (voices_in s.table) → VoiceAs s n (Ok (Some (handle_at at (voices_in s.table))))
    unfolding VoiceOf view
    voice-some h =
        record {
          in_room = λ _. (
            fine.1,
            record {
              place = at;
              inside = h;
              names = refl;
              sounds = find-passes (sounds_note n) M.no_voice (voices_in s.table) (omega arith);
            },
          );
          beyond = λ x. absurd (x fine.0);
        }

    -- the handle where the search found a place
    pub voice-found : (o r : Option ℕ) (P : ℕ → Type 0) → o ≡ place_in at (voices_in s.table)
        → MatchOption o (r ≡ None) P → ((k : ℕ) → P k → r ≡ handle_in k (voices_in s.table)) → VoiceAs s n (Ok r)
    voice-found None r P e m f = rw m (voice-none (none-inside at (voices_in s.table) e))
    voice-found (Some k) r P e m f =
        let p = some-inside at (voices_in s.table) k e in
        let h : at < length (voices_in s.table) = rw p.0 p.1 in
        let q : r ≡ Some (handle_at at (voices_in s.table)) = f k m ∙ rw (← p.0, lt-ltb at (length (voices_in s.table)) h) refl in
        rw q (voice-some h)
