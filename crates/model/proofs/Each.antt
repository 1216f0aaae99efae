-- Each of the nine calls is a step.
use mathlib.Core.Path.{◌≡◌, refl, ap, sym, ◌∙◌}
use mathlib.Core.Bool.{Bool, true, false, not, cond}
use mathlib.Core.List.{List, [], ◌∷◌, map}
use Prim.Native.Nat.{ℕ, zero, suc, ◌≤◌}
use native.Mathlib.Omega.{arith}
use borrow.Author.Tests.{ltb-true, ltb-false, not-true, not-false, eqb-true}
use lib.Dec.{eqb}
use lib.Ieee.{Float, le}
use lib.ListN.{get_or, length-map}
use lib.Seq.{take-append_seam}
use Rattle.float32.specs.Numbers.{zero as +0, one, max_of}
use Rattle.envelope.specs.declared.EnvGen.{EnvGen}
use Rattle.envelope.specs.declared.Stage.{Stage}
use Rattle.envelope.specs.declared.Stage.TheVariants.{Idle, Attack, Decay, Sustain, Release}
use Rattle.envelope.specs.Gates.{is_idle, is_release, at, gated_on, is_active}
use Rattle.envelope.specs.Ticks.{rise, fall, decline, ticked_attack, ticked_decay, ticked_release, ticked_in, ticked}
use Rattle.stream.specs.declared.UnisonCopy.{UnisonCopy}
use Rattle.stream.specs.Pitch.{bent, cut_to, least_cutoff, glided}
use Rattle.design.specs.declared.InstrumentDesign.{InstrumentDesign}
use Rattle.design.specs.declared.PlayMode.{PlayMode}
use Rattle.design.specs.declared.PlayMode.TheVariants.{Poly, Mono}
use Rattle.design.specs.Accepted.{modulated}
use Rattle.lists.specs.Choose.{chosen, clash}
use Rattle.lists.specs.Count.{count}
use Rattle.lists.specs.Found.{find-passes, find-missed}
use Rattle.lists.specs.Perms.{times, times-append}
use Rattle.lists.specs.Places.{count_kept, kept-none}
use Rattle.model.specs.Types.{Voice, Model, Call, Reply, no_voice}
use Rattle.model.specs.Types.{Call.note_on, Call.control, Call.plan, Call.mix}
use Rattle.model.specs.Types.{Control}
use Rattle.model.specs.Types.{Control.note_off, Control.pedal, Control.bend, Control.brightness, Control.release, Control.all_off}
use Rattle.model.specs.Types.{Reply.kept as keeps, Reply.off, Reply.done, Reply.released, Reply.planned, Reply.mixed, Reply.refused}
use Rattle.model.specs.Changes.{placed, tuned, moved, blocked}
use Rattle.model.specs.Voices.{with_voice, released_voice, with_sustained, aimed_at, struck_again, with_copies, aged, aged_voice, sounding, is_ended, is_place, first_sounding, place_of}
use Rattle.model.specs.Formed.{frames_fit, block_fits}
use Rattle.model.specs.Notes.{off_voice, newest_of, poly_off, held_without, not_held, none_held, fallen_back, mono_off, note_off_in, note_off_of}
use Rattle.model.specs.Notes.{velocity_of, is_off, started_note, silent_note, new_note, held_with, kept_voice, kept_note, goes_on, mono_on, note_on_in, note_on_of}
use Rattle.model.specs.Controls.{lifted_voice, pedal_of, release_of, all_off_of, bend_of, brightness_of}
use Rattle.model.specs.Plan.{wobbled, applied, modulated_by, opened, plan_of}
use Rattle.model.specs.Mix.{played, remaining, ended_handles, report, mix_of}
use Rattle.model.specs.Step.{refusal, controlled, accepted, step}
use Rattle.model.specs.Runs.{ending, nothing, noted}
use Rattle.model.specs.Account.{is_note_on}
use Rattle.model.proofs.Steady.{steady-on, steady-aged}
use Rattle.model.proofs.Moves.{Tame, tame-refl, Goes, goes_same, goes_map, goes_set, goes-changed, goes-mix, Leaves, gone, leaves-then}
use Rattle.model.proofs.Steps.{is_poly, Good, Tidy, Step, plain, unvoiced}
use Rattle.model.proofs.Refusals.{passes}
use Rattle.model.proofs.Born.{tame-released, start-step}

-- ---- one voice

tame-sustained : (b : Bool) (v : Voice) → Tame v (with_sustained b v)
unfolding with_sustained with_voice
tame-sustained b v = record { same = refl; still = λ e. e; fits = λ e. e; sized = refl; steady = λ h. h }

tame-aimed : (glide : Float) (n : ℕ) (v : Voice) → Tame v (aimed_at glide n v)
unfolding aimed_at with_voice
tame-aimed glide n v = record { same = refl; still = λ e. e; fits = λ e. e; sized = length-map v.copies _; steady = λ h. h }

tame-copies : (f : UnisonCopy → UnisonCopy) (v : Voice) → Tame v (with_copies f v)
unfolding with_copies with_voice
tame-copies f v = record { same = refl; still = λ e. e; fits = λ e. e; sized = length-map v.copies f; steady = λ h. h }

-- gate on is for a voice that is not releasing
tame-struck : (x : Float) (v : Voice) → v.releasing ≡ false → Tame v (struck_again x v)
unfolding struck_again with_voice gated_on at
tame-struck x v e = record { same = refl; still = λ f. f; fits = λ _. rw e; sized = refl; steady = steady-on v.env }

tame-then : {u v w : Voice} → Tame u v → Tame v w → Tame u w
tame-then a b = record { same = b.same ∙ a.same; still = λ e. b.still (a.still e); fits = λ e. b.fits (a.fits e); sized = b.sized ∙ a.sized; steady = λ h. b.steady (a.steady h) }

tame-off : (down : Bool) (v : Voice) → Tame v (off_voice down v)
unfolding off_voice
tame-off down v = chosen (Tame v) down _ _ (λ _. tame-sustained true v) (λ _. tame-released v)

tame-lifted : (v : Voice) → Tame v (lifted_voice v)
unfolding lifted_voice
tame-lifted v = chosen (Tame v) v.sustained _ _ (λ _. tame-then (tame-released v) (tame-sustained false (released_voice v))) (λ _. tame-refl v)

tame-unless : (down : Bool) (v : Voice) → Tame v (cond v.releasing v (off_voice down v))
tame-unless down v = chosen (Tame v) v.releasing _ _ (λ _. tame-refl v) (λ _. tame-off down v)

tame-kept : (glide : Float) (legato : Bool) (n : ℕ) (x : Float) (v : Voice) → v.releasing ≡ false → Tame v (kept_voice glide legato n x v)
unfolding kept_voice with_sustained aimed_at with_voice
tame-kept glide legato n x v e =
    let t = tame-then (tame-aimed glide n v) (tame-sustained false (aimed_at glide n v)) in
    chosen (Tame v) legato _ _ (λ _. t) (λ _. tame-then t (tame-struck x _ e))

-- a tick that does not end in Idle enters and leaves no Release
abbrev Onward : Stage → EnvGen → Type 0
Onward st e = is_idle e.stage ≡ false → (is_release e.stage ≡ is_release st) × (is_idle st ≡ false)

tick-on : (st : Stage) (e : EnvGen) → Onward st (ticked_in st e)
unfolding ticked_attack ticked_decay ticked_release at
tick-on Idle e = λ h. (refl, h)
tick-on Attack e =
    chosen (Onward Attack) (le e.a +0) _ _ (λ _ _. (refl, refl)) (λ _. chosen (Onward Attack) (le one (rise e)) _ _ (λ _ _. (refl, refl)) (λ _ _. (refl, refl)))
tick-on Decay e =
    chosen (Onward Decay) (le e.d +0) _ _ (λ _ _. (refl, refl)) (λ _. chosen (Onward Decay) (le (fall e) e.s) _ _ (λ _ _. (refl, refl)) (λ _ _. (refl, refl)))
tick-on Sustain e = λ _. (refl, refl)
tick-on Release e =
    chosen (Onward Release) (le e.r +0) _ _ (λ _ h. (sym h, refl))
    (λ _. chosen (Onward Release) (le (decline e) +0) _ _ (λ _ h. (sym h, refl)) (λ _ _. (refl, refl)))

aged-on : (n : ℕ) (e : EnvGen) → Onward e.stage (aged n e)
unfolding aged ticked
aged-on zero e h = (refl, h)
aged-on (suc n) e h = let a = aged-on n (ticked e) h in let b = tick-on e.stage e a.1 in (a.0 ∙ b.0, b.1)

not-ended : (v : Voice) → is_ended v ≡ false → is_idle v.env.stage ≡ false
unfolding is_ended is_active
not-ended v h = grind arith

tame-aged : (n : ℕ) (v : Voice) → is_ended (aged_voice n v) ≡ false → Tame v (aged_voice n v)
unfolding aged_voice with_voice
tame-aged n v h =
    let i = not-ended (aged_voice n v) h in
    let o = aged-on n v.env i in
    record { same = refl; still = λ e. e; fits = λ e. rw (o.0, i) (rw o.1 at e); sized = refl; steady = steady-aged n v.env }

aged-handle : (n : ℕ) (v : Voice) → (aged_voice n v).handle ≡ v.handle
unfolding aged_voice with_voice
aged-handle n v = refl

-- ---- the voice that is not releasing

goes_on_lem : (m : Model) → goes_on m ≡ true → (get_or m.voices (first_sounding m.voices) no_voice).releasing ≡ false
unfolding goes_on is_place first_sounding
goes_on_lem m e = not-true _ (find-passes _ no_voice m.voices (ltb-true _ _ e))

none-sounds : (m : Model) → goes_on m ≡ false → count sounding m.voices ≡ 0
unfolding goes_on is_place first_sounding
none-sounds m e = find-missed _ m.voices (ltb-false _ _ e)

-- ---- the held list

module _ (n : ℕ) (l : List ℕ) (once : (x : ℕ) → times x l ≤ 1) where
  without-once : (x : ℕ) → times x (held_without n l) ≤ 1
  unfolding held_without
  without-once x = omega (arith, count_kept (λ (y : ℕ). eqb y x) (λ (y : ℕ). not (eqb y n)) l, once x)

  without-none : times n (held_without n l) ≡ 0
  unfolding held_without
  without-none = kept-none (λ (y : ℕ). eqb y n) (λ (y : ℕ). not (eqb y n)) (λ y e. rw e) l

  with-once : (x : ℕ) → times x (held_with n l) ≤ 1
  unfolding held_with
  with-once x = grind (arith, times-append x (held_without n l) (n ∷ []), without-once x, without-none)

-- ---- the calls

-- frames within Plan's limits fit, and so does no block
block-frames : (d : InstrumentDesign) (n : ℕ) → frames_fit d n ≡ true → block_fits d n ≡ true
unfolding block_fits
block-frames d n e = grind (arith, e)

pub block_none : (d : InstrumentDesign) → block_fits d 0 ≡ true
unfolding block_fits
block_none d = refl

module _ (m : Model) (c : Call) (g : Good m) where
  tidy-same : (t : Model) → t.design ≡ m.design → t.held ≡ m.held → block_fits t.design t.frames ≡ true → Tidy t
  tidy-same t d h f = record { held_once = λ n. rw h (g.tidy.held_once n); poly_held = λ e. h ∙ g.tidy.poly_held (rw d at e); framed = f }

  tidy-mono : (t : Model) (legato : Bool) → m.design.mode ≡ Mono legato → t.design ≡ m.design → ((n : ℕ) → times n t.held ≤ 1) → block_fits t.design t.frames ≡ true → Tidy t
  tidy-mono t legato e d h f = record { held_once = h; poly_held = λ p. let q : is_poly m.design.mode ≡ true = rw d at p in absurd (clash (is_poly m.design.mode) q (rw e)); framed = f }

  -- a refusal, or a reply with nothing done
  still : (r : Reply) (lent : List Float) → noted r ≡ nothing → Step m c (record { reply = r; model = m; lent = lent })
  still r lent e = plain m c g r m lent [] refl refl e (gone (goes_same m.voices)) g.tidy

  -- a change of all voices
  all-step : (f : Voice → Voice) → ((v : Voice) → Tame v (f v)) → (t : Model) (lent : List Float) → t.design ≡ m.design → t.next ≡ m.next → t.voices ≡ map f m.voices → Tidy t
      → Step m c (record { reply = done; model = t; lent = lent })
  all-step f h t lent d n v y = plain m c g done t lent [] d n refl (rw v (gone (goes_map f h m.voices))) y

  new_note-step : (held : List ℕ) (n : ℕ) (x : Float) (built : Bool) → is_note_on c ≡ true → (is_poly m.design.mode ≡ false → count sounding m.voices ≡ 0)
      → ((vs : List Voice) → Tidy (placed m vs (suc m.next) m.pedal held)) → Step m c (new_note m held n x built)
  unfolding new_note silent_note started_note placed
  new_note-step held n x built e alone td =
      chosen (Step m c) built _ _
      (λ _. start-step m g c held n x e alone (td _))
      (λ _. unvoiced m c g (silent_note m held).model _ refl refl (gone (goes_same m.voices)) (td m.voices))

  poly_off-step : (n : ℕ) → Step m c (poly_off m n)
  unfolding poly_off placed
  poly_off-step n =
      chosen (Step m c) (is_place (newest_of n m.voices) m.voices) _ _
      (λ _. plain m c g (off true) _ _ [] refl refl refl
      (gone (goes-changed (off_voice m.pedal) (tame-off m.pedal) (newest_of n m.voices) m.voices)) (tidy-same _ refl refl g.tidy.framed))
      (λ _. still (off false) _ refl)

  fall-goes : (held : List ℕ) → Goes m.voices (fallen_back m held) []
  unfolding fallen_back
  fall-goes held =
      chosen (λ (vs : List Voice). Goes m.voices vs []) (none_held held) _ _
      (λ _. goes_map _ (tame-unless m.pedal) m.voices)
      (λ _. goes-changed (aimed_at m.design.glide _) (tame-aimed m.design.glide _) (first_sounding m.voices) m.voices)

  mono_off-step : (legato : Bool) → m.design.mode ≡ Mono legato → (n : ℕ) → Step m c (mono_off m n)
  unfolding mono_off placed
  mono_off-step legato e n =
      chosen (Step m c) (not_held n m.held) _ _
      (λ _. still (off false) _ refl)
      (λ _. plain m c g (off true) _ _ [] refl refl refl (gone (fall-goes (held_without n m.held)))
      (tidy-mono _ legato e refl (without-once n m.held g.tidy.held_once) g.tidy.framed))

  note_off_in-step : (n : ℕ) (p : PlayMode) → m.design.mode ≡ p → Step m c (note_off_in p m n)
  note_off_in-step n Poly e = poly_off-step n
  note_off_in-step n (Mono legato) e = mono_off-step legato e n

  note_off-step : (n : ℕ) → Step m c (note_off_of m n)
  unfolding note_off_of
  note_off-step n = note_off_in-step n m.design.mode refl

  mono_on-step : (legato : Bool) → m.design.mode ≡ Mono legato → (n : ℕ) (x : Float) (built : Bool) → is_note_on c ≡ true → Step m c (mono_on m legato n x built)
  unfolding mono_on kept_note placed
  mono_on-step legato p n x built e =
      chosen (Step m c) (goes_on m) _ _
      (λ q. plain m c g (keeps _) (kept_note m legato n x).model _ [] refl refl refl
      (gone (goes_set m.voices (first_sounding m.voices) _ (tame-kept m.design.glide legato n x _ (goes_on_lem m q))))
      (tidy-mono _ legato p refl (with-once n m.held g.tidy.held_once) g.tidy.framed))
      (λ q. new_note-step (held_with n m.held) n x built e (λ _. none-sounds m q)
      (λ vs. tidy-mono _ legato p refl (with-once n m.held g.tidy.held_once) g.tidy.framed))

  note_on_in-step : (n : ℕ) (x : Float) (built : Bool) (p : PlayMode) → m.design.mode ≡ p → is_note_on c ≡ true → Step m c (note_on_in p m n x built)
  unfolding placed
  note_on_in-step n x built Poly p e =
      new_note-step m.held n x built e (λ q. absurd (clash (is_poly m.design.mode) (rw p) q)) (λ vs. tidy-same _ refl refl g.tidy.framed)
  note_on_in-step n x built (Mono legato) p e = mono_on-step legato p n x built e

  note_on-step : (n : ℕ) (v : Float) (built : Bool) → is_note_on c ≡ true → Step m c (note_on_of m n v built)
  unfolding note_on_of
  note_on-step n v built e =
      chosen (Step m c) (is_off v) _ _ (λ _. note_off-step n) (λ _. note_on_in-step n (velocity_of v) built m.design.mode refl e)

  pedal-step : (down : Bool) → Step m c (pedal_of m down)
  unfolding pedal_of placed
  pedal-step down =
      plain m c g done _ _ [] refl refl refl
      (chosen (λ (vs : List Voice). Leaves m.voices vs []) down _ _ (λ _. gone (goes_same m.voices)) (λ _. gone (goes_map lifted_voice tame-lifted m.voices)))
      (tidy-same _ refl refl g.tidy.framed)

  release-step : (h : ℕ) → Step m c (release_of m h)
  unfolding release_of placed
  release-step h =
      chosen (Step m c) (is_place (place_of h m.voices) m.voices) _ _
      (λ _. plain m c g (released true) _ _ [] refl refl refl
      (gone (goes-changed released_voice tame-released (place_of h m.voices) m.voices)) (tidy-same _ refl refl g.tidy.framed))
      (λ _. still (released false) _ refl)

  all_off-step : Step m c (all_off_of m)
  unfolding all_off_of placed
  all_off-step =
      all-step released_voice tame-released (all_off_of m).model _ refl refl refl (record { held_once = λ n. omega arith; poly_held = λ _. refl; framed = g.tidy.framed })

  bend-step : (x : Float) → Step m c (bend_of m x)
  unfolding bend_of tuned
  bend-step x = all-step _ (tame-copies (bent x)) _ _ refl refl refl (tidy-same _ refl refl g.tidy.framed)

  brightness-step : (x : Float) → Step m c (brightness_of m x)
  unfolding brightness_of tuned
  brightness-step x = all-step _ (tame-copies (cut_to (max_of x least_cutoff))) _ _ refl refl refl (tidy-same _ refl refl g.tidy.framed)

  mix-step : (samples : List Float) → Step m c (mix_of m samples)
  unfolding mix_of played remaining ended_handles report blocked
  mix-step samples =
      plain m c g (mixed _ _) _ _ _ refl refl (ap ending (take-append_seam _ _))
      (gone (goes-mix (aged_voice m.frames) is_ended (aged-handle m.frames) (tame-aged m.frames) m.voices))
      (tidy-same _ refl refl (block_none m.design))

  opened-step : (t : Model) (n : ℕ) → frames_fit m.design n ≡ true → t.design ≡ m.design → t.next ≡ m.next → t.held ≡ m.held → Goes m.voices t.voices [] → Step m c (opened t n)
  unfolding opened blocked
  opened-step t n f d e h l =
      plain m c g planned _ _ [] d e refl
      (leaves-then (gone l) (gone (goes_map _ (tame-copies (glided n)) t.voices)))
      (tidy-same _ d h (rw d (block-frames m.design n f)))

  plan-step : (n : ℕ) (vibrato filter sine : Float) → frames_fit m.design n ≡ true → Step m c (plan_of m n vibrato filter sine)
  unfolding plan_of modulated_by applied moved
  plan-step n vibrato filter sine f =
      chosen (λ (t : Model). Step m c (opened t n)) (modulated m.design.modulation) _ _
      (λ _. opened-step _ n f refl refl refl (goes_map _ (tame-copies (wobbled m _ _)) m.voices))
      (λ _. opened-step m n f refl refl refl (goes_same m.voices))

-- ---- each

control-step : (m : Model) (x : Control) → Good m → Step m (control x) (controlled m x)
control-step m (note_off n) g = note_off-step m _ g n
control-step m (pedal down) g = pedal-step m _ g down
control-step m (bend x) g = bend-step m _ g x
control-step m (brightness x) g = brightness-step m _ g x
control-step m (release h) g = release-step m _ g h
control-step m all_off g = all_off-step m _ g

accepted-step : (m : Model) (c : Call) → Good m → refusal m c ≡ 0 → Step m c (accepted m c)
accepted-step m (note_on n v built) g e = note_on-step m _ g n v built refl
accepted-step m (control x) g e = control-step m x g
accepted-step m (plan n vibrato filter sine curve) g e = plan-step m _ g n vibrato filter sine (not-false _ (passes m (plan n vibrato filter sine curve) e).frames)
accepted-step m (mix samples out) g e = mix-step m _ g samples

pub each : (m : Model) (c : Call) → Good m → Step m c (step m c)
unfolding step
each m c g =
    chosen (Step m c) (eqb (refusal m c) 0) _ _ (λ e. accepted-step m c g (eqb-true _ _ e)) (λ _. still m c g (refused (refusal m c)) _ refl)
