-- The examples compute: with the definitions of the calls unfolded each is `refl`, but for E1, which is of every design, and E6, which is of any
-- number of frames.
use Rattle.std.specs.Prelude.{None}
use mathlib.Core.Path.{◌≡◌, refl, ap, ◌∙◌}
use mathlib.Core.Bool.{Bool, true, false}
use mathlib.Core.List.{List, [], ◌∷◌, ◌++◌, map}
use Prim.Native.Nat.{ℕ, ◌*◌}
use native.Mathlib.Omega.{arith}
use borrow.Author.Tests.{le-leb}
use lib.Ieee.{Float, nan, binary32, of_bits, of_int, is_nan, le, sub, mul, div}
use lib.ListN.{length}
use Rattle.float32.specs.Numbers.{zero as +0, one, max_of, min_of, clamp_of}
use Rattle.float32.specs.Order.{below, smaller}
use Rattle.float32.specs.Root.{root_of}
use Rattle.note.specs.Frequency.{freq_of}
use Rattle.envelope.specs.declared.Stage.TheVariants.{Sustain}
use Rattle.envelope.specs.Start.{rate_fits, all_finite, settled}
use Rattle.envelope.specs.Gates.{at, gated_on, released, with_release, gated_off, killed, is_active, is_faded}
use Rattle.envelope.specs.Ticks.{rise, ticked_attack, ticked_decay, ticked_release, ticked}
use Rattle.stream.specs.Pitch.{pitched, glide_step, stepped, heard, glided, curve}
use Rattle.stream.specs.Copies.{new_copy, spread_of, pan_of, norm_of, caught_up}
use Rattle.design.specs.declared.InstrumentDesign.{InstrumentDesign}
use Rattle.design.specs.declared.PlayMode.{PlayMode}
use Rattle.design.specs.declared.PlayMode.TheVariants.{Poly, Mono}
use Rattle.design.specs.Accepted.{lfo_active, modulated, modulation_finite, numbers_fit, floats_fit, design_reply, is_accepted, copies_of}
use Rattle.model.specs.Types.{Voice, Model, Reply, Outcome}
use Rattle.model.specs.Types.{Call.note_on, Reply.started}
use Rattle.model.specs.Changes.{placed, blocked}
use Rattle.model.specs.Voices.{
  with_voice,
  released_voice,
  killed_voice,
  with_sustained,
  aimed_at,
  struck_again,
  with_copies,
  aged,
  aged_voice,
  first_copies,
  new_copies,
  new_envelope,
  new_voice,
  is_ended,
  quieter,
  is_place,
  quietest_sounding,
  quietest,
  first_sounding,
  place_of,
}
use Rattle.model.specs.Formed.{frames_fit, block_fits, mode_fits, well_formed}
use Rattle.model.specs.Notes.{
  newest_of,
  poly_off,
  note_off_in,
  held_without,
  not_held,
  none_held,
  newest_held,
  fallen_back,
  mono_off,
  note_off_of,
  velocity_of,
  is_off,
  full,
  after_kill,
  killed_handle,
  crowded,
  after_taking,
  taken_handle,
  started_note,
  new_note,
  held_with,
  kept_voice,
  kept_note,
  goes_on,
  mono_on,
  note_on_of,
  new_handle_due,
}
use Rattle.model.specs.Controls.{release_of}
use Rattle.model.specs.Plan.{modulated_by, opened, plan_of}
use Rattle.model.specs.Mix.{played, remaining, ended_handles, report, mix_of}
use Rattle.model.specs.Step.{no_block, block_open, block_missing, handles_spent, refusal, step}
use Rattle.model.specs.Start.{fresh, start_of}
use Rattle.model.specs.Runs.{after, replies}
use Rattle.examples.specs.Examples.{designed, audible, row_of, frames, frames_kept, WorkedExamples}

-- To unfold this is to unfold what its line names; its value says nothing.
calls : Bool
unfolding of_bits of_int is_nan le sub mul div max_of min_of clamp_of below smaller root_of settled at gated_on released with_release gated_off killed
    is_active is_faded rise ticked_attack ticked_decay ticked_release ticked pitched glide_step stepped heard glided curve new_copy spread_of
    pan_of norm_of caught_up rate_fits all_finite lfo_active modulated modulation_finite numbers_fit floats_fit design_reply is_accepted
    copies_of with_voice released_voice killed_voice with_sustained aimed_at struck_again with_copies aged aged_voice first_copies new_copies
    new_envelope new_voice is_ended quieter is_place quietest_sounding quietest first_sounding place_of placed blocked newest_of poly_off
    held_without not_held none_held newest_held fallen_back mono_off note_off_of velocity_of is_off full after_kill killed_handle crowded
    after_taking taken_handle started_note new_note new_handle_due note_on_of held_with kept_voice kept_note goes_on mono_on frames_fit
    release_of modulated_by opened plan_of played remaining ended_handles report mix_of block_fits mode_fits well_formed no_block block_open
    block_missing handles_spent refusal step fresh start_of
calls = true

-- ---- E1

module _ (d : InstrumentDesign) (e : is_accepted d ≡ true) where
  any-mode : (p : PlayMode) → mode_fits p (fresh d) ≡ true
  unfolding mode_fits fresh
  any-mode Poly = refl
  any-mode (Mono legato) = refl

  formed : well_formed (fresh d) ≡ true
  unfolding well_formed fresh block_fits
  formed = rw (e, le-leb 0 (2 * d.max_voices) (omega arith), le-leb 0 d.max_voices (omega arith)) (any-mode d.mode)

  -- the call is a note-off of the mode
  nan-off : (n : ℕ) (built : Bool) → step (fresh d) (note_on n nan built) ≡ note_off_in d.mode (fresh d) n
  unfolding step refusal block_open no_block block_missing handles_spent new_handle_due note_on_of note_off_of is_off velocity_of is_nan le clamp_of of_bits fresh
  nan-off n built = rw formed

-- what holds in Poly and in Mono holds in every mode
in-mode : {A : Type 0} (f : PlayMode → A) (a : A) → f Poly ≡ a → ((legato : Bool) → f (Mono legato) ≡ a) → (p : PlayMode) → f p ≡ a
in-mode f a x y Poly = x
in-mode f a x y (Mono legato) = y legato

-- ---- E6

-- a state that a frame leaves as it is, and at which no voice ends
module _ (m : Model) (same : (x : Float) → after m (frames (x ∷ [])) ≡ m) (quiet : (x : Float) → replies m (frames (x ∷ [])) ≡ frames_kept 1) where
  stays : (xs : List Float) → after m (frames xs) ≡ m
  stays [] = refl
  stays (x ∷ xs) = ap (λ (s : Model). after s (frames xs)) (same x) ∙ stays xs

  said : (xs : List Float) → replies m (frames xs) ≡ frames_kept (length xs)
  said [] = refl
  said (x ∷ xs) =
      ap (λ (l : List Reply). l ++ replies (after m (frames (x ∷ []))) (frames xs)) (quiet x)
      ∙ ap (λ (l : List Reply). frames_kept 1 ++ l) (ap (λ (s : Model). replies s (frames xs)) (same x) ∙ said xs)

-- what the first two frames lead to
abbrev sustaining : Voice
sustaining = record {
  handle = 1;
  note = 60;
  copies = record { l = one; r = one; pitch = one; pitch_target = one; glide = one; bend = one; cutoff = None } ∷ [];
  built_hz = freq_of 60;
  env = record { a = +0; d = +0; s = audible; r = +0; sr = of_bits binary32 0x473b_8000; stage = Sustain; level = audible; rel_from = +0 };
  gain = one;
  releasing = false;
  sustained = false;
}

lasting : Model
lasting = placed (fresh (designed Poly audible)) (sustaining ∷ []) 2 false []

still : (x : Float) → after lasting (frames (x ∷ [])) ≡ lasting
unfolding calls lasting
still x = refl

none_end : (x : Float) → replies lasting (frames (x ∷ [])) ≡ frames_kept 1
unfolding calls lasting
none_end x = refl

-- ---- all of them

-- what holds with legato and without
either : (P : Bool → Type 0) → P true → P false → (b : Bool) → P b
either P x y true = x
either P x y false = y

pub worked_examples : WorkedExamples
unfolding calls lasting
worked_examples = record {
  e1 = λ d e n built.
      ap (λ (o : Outcome). o.reply) (nan-off d e n built) ∙ in-mode (λ (p : PlayMode). (note_off_in p (fresh d) n).reply) _ refl (λ legato. refl) d.mode;
  e2 = record { ready = refl; reply = refl; table = refl };
  e3 = λ r rate. refl;
  e4 = λ d s r. refl;
  e5 = λ x y. record { first = record { ready = refl; reply = refl; table = refl }; second = record { ready = refl; reply = refl; table = refl } };
  e6 = λ x y later. record {
    ready = refl;
    reply = ap (λ (l : List Reply). started 1 0 0 ∷ (frames_kept 2 ++ l)) (said lasting still none_end later);
    table = ap (λ (m : Model). map row_of m.voices) (stays lasting still none_end later);
  };
  e7 = λ x y. record { ready = refl; reply = refl; table = refl };
  e8 = λ l r cutoff. refl;
  e9 = (refl, refl);
  e10 = either _ (record { ready = refl; reply = refl; table = refl }) (record { ready = refl; reply = refl; table = refl });
  e11 = refl;
  e12 = refl;
  e13 = refl;
}
