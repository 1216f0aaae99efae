-- What a C function promises of its numbers is a step of what they stand for.
use Rattle.std.specs.Prelude.{Result, Ok, Err}
use mathlib.Core.Path.{◌≡◌, refl, ap, sym, ◌∙◌}
use mathlib.Core.Bool.{Bool, true, false, ◌&&◌}
use mathlib.Core.List.{List}
use Prim.Native.Nat.{ℕ}
use native.Mathlib.Omega.{arith}
use lib.Dec.{eqb}
use lib.Ieee.{Float}
use Rattle.lists.specs.Choose.{clash, cond-true, chosen, both}
use Rattle.design.specs.declared.PlayMode.{PlayMode}
use Rattle.design.specs.declared.PlayMode.TheVariants.{Poly, Mono}
use Rattle.outcome.specs.declared.Refusal.{Refusal}
use Rattle.design.specs.Accepted.{is_accepted}
use Rattle.model.specs.Types.{Model, Control, Call, Reply, Outcome}
use Rattle.model.specs.Types.{Call.note_on, Call.control, Call.plan, Call.mix}
use Rattle.model.specs.Types.{Control.note_off, Control.pedal, Control.bend, Control.brightness, Control.release, Control.all_off}
use Rattle.model.specs.Types.{Reply.started, Reply.silent, Reply.kept, Reply.off, Reply.done, Reply.released, Reply.planned, Reply.mixed, Reply.refused}
use Rattle.model.specs.Step.{refusal, is_mix, accepted, controlled, refused_with, step}
use Rattle.model.specs.Start.{fresh, zero_state}
use Rattle.model.specs.Voices.{is_place, place_of}
use Rattle.model.specs.Notes.{
  newest_of,
  poly_off,
  not_held,
  mono_off,
  note_off_in,
  note_off_of,
  velocity_of,
  is_off,
  started_note,
  silent_note,
  new_note,
  held_with,
  kept_note,
  goes_on,
  mono_on,
  note_on_in,
  note_on_of,
}
use Rattle.model.specs.Controls.{pedal_of, release_of, all_off_of, bend_of, brightness_of}
use Rattle.model.specs.Plan.{opened, plan_of}
use Rattle.wire.specs.declared.HostDesign.{HostDesign}
use Rattle.wire.specs.declared.HostState.{HostState}
use Rattle.wire.specs.Reads.{flag_of, mode_numbered, design_of, numbered, model_of}
use Rattle.host.specs.declared.HostReply.{HostReply}
use Rattle.host.specs.Said.{said_of, report_of, said_start, flag_number}
use Rattle.host.specs.Hosted.{host_refusal, host_reply, HostedAs, host_design_reply, host_accepted}
use Rattle.account.specs.Host.{Told, heard, HostPromises, host, HostHandleAccount}
use Rattle.instrument.proofs.Parts.{accepted-yes}
use Rattle.account.proofs.Account.{Steps, steps, account-of}

-- ---- the numbers of a reply stand for it

flag-read : (b : Bool) → flag_of (flag_number b) ≡ b
flag-read true = refl
flag-read false = refl

-- a reply with a report
reports : Reply → Bool
reports (started h k t) = false
reports (silent h) = false
reports (kept h) = false
reports (off f) = false
reports done = false
reports (released f) = false
reports planned = false
reports (mixed n l) = true
reports (refused n) = false

heard-as : (r : Reply) (l : List ℕ) → (reports r ≡ true → l ≡ report_of r) → heard (record { reply = said_of r; ended = l }) ≡ r
unfolding heard reports
heard-as (started h k t) l f = refl
heard-as (silent h) l f = refl
heard-as (kept h) l f = refl
heard-as (off b) l f = ap off (flag-read b)
heard-as done l f = refl
heard-as (released b) l f = ap released (flag-read b)
heard-as planned l f = refl
heard-as (mixed n ended) l f = ap (mixed n) (f refl)
heard-as (refused n) l f = refl

-- ---- only a Mix reports

abbrev Silent : Outcome → Type 0
Silent o = reports o.reply ≡ false

module _ (m : Model) where
  new-silent : (held : List ℕ) (n : ℕ) (x : Float) (built : Bool) → Silent (new_note m held n x built)
  unfolding new_note started_note silent_note reports
  new-silent held n x built = chosen Silent built _ _ (λ _. refl) (λ _. refl)

  on-silent : (p : PlayMode) (n : ℕ) (x : Float) (built : Bool) → Silent (note_on_in p m n x built)
  unfolding mono_on kept_note reports
  on-silent Poly n x built = new-silent m.held n x built
  on-silent (Mono legato) n x built = chosen Silent (goes_on m) _ _ (λ _. refl) (λ _. new-silent (held_with n m.held) n x built)

  off-silent : (p : PlayMode) (n : ℕ) → Silent (note_off_in p m n)
  unfolding poly_off mono_off reports
  off-silent Poly n = chosen Silent (is_place (newest_of n m.voices) m.voices) _ _ (λ _. refl) (λ _. refl)
  off-silent (Mono legato) n = chosen Silent (not_held n m.held) _ _ (λ _. refl) (λ _. refl)

  control-silent : (x : Control) → Silent (controlled m x)
  unfolding note_off_of pedal_of all_off_of bend_of brightness_of release_of reports
  control-silent (note_off n) = off-silent m.design.mode n
  control-silent (pedal down) = refl
  control-silent (bend x) = refl
  control-silent (brightness x) = refl
  control-silent (release h) = chosen Silent (is_place (place_of h m.voices) m.voices) _ _ (λ _. refl) (λ _. refl)
  control-silent all_off = refl

  accepted-silent : (c : Call) → is_mix c ≡ false → Silent (accepted m c)
  unfolding note_off_of note_on_of plan_of opened reports
  accepted-silent (note_on n v built) e =
      chosen Silent (is_off v) _ _ (λ _. off-silent m.design.mode n) (λ _. on-silent m.design.mode n (velocity_of v) built)
  accepted-silent (control x) e = control-silent x
  accepted-silent (plan n vibrato filter sine curve) e = refl
  accepted-silent (mix samples out) e = absurd (clash true refl e)

  only-mix : (c : Call) → is_mix c ≡ false → Silent (step m c)
  unfolding step reports
  only-mix c e = chosen Silent (eqb (refusal m c) 0) (accepted m c) (refused_with (refusal m c) m c) (λ _. accepted-silent c e) (λ _. refl)

-- ---- one call on numbers that stand for a state

module _ (h : HostState) (sure : numbered h ≡ true) (c : Call) where
  same-refusal : host_refusal h c ≡ refusal (model_of h) c
  unfolding host_refusal
  same-refusal = cond-true (numbered h) _ _ sure

  same-reply : host_reply h c ≡ (step (model_of h) c).reply
  unfolding host_reply
  same-reply = cond-true (numbered h) _ _ sure

  module _ (said : Told) (t : HostState) (a : HostedAs h c said.reply t) (f : reports (host_reply h c) ≡ true → said.ended ≡ report_of (host_reply h c)) where
    heard-is : heard said ≡ (step (model_of h) c).reply
    heard-is =
        ap (λ (r : HostReply). heard (record { reply = r; ended = said.ended })) a.reply
        ∙ heard-as (host_reply h c) said.ended f ∙ same-reply

    steps-as : Steps host h c said t
    steps-as = steps host h c said t (host_refusal h c) sure same-refusal heard-is a.refused a.numbered a.next

  -- a call that is no Mix has no report to read
  unread-report : is_mix c ≡ false → (l : List ℕ) → reports (host_reply h c) ≡ true → l ≡ report_of (host_reply h c)
  unread-report e l f = absurd (clash (reports (host_reply h c)) f (ap reports same-reply ∙ only-mix (model_of h) c e))

host-steps : (h : HostState) → numbered h ≡ true → (c : Call) (said : Told) (t : HostState) → HostPromises h c said t → Steps host h c said t
host-steps h sure (note_on n v built) said t a = steps-as h sure (note_on n v built) said t a (unread-report h sure (note_on n v built) refl said.ended)
host-steps h sure (control x) said t a = steps-as h sure (control x) said t a (unread-report h sure (control x) refl said.ended)
host-steps h sure (plan n vibrato filter sine curve) said t a =
    steps-as h sure (plan n vibrato filter sine curve) said t a (unread-report h sure (plan n vibrato filter sine curve) refl said.ended)
host-steps h sure (mix samples out) said t a = steps-as h sure (mix samples out) said t a.0 (λ _. a.1)

-- ---- the start

said-accepted : (x : Result (Unit {0}) Refusal) → (said_start x).kind ≡ 9 → x ≡ Ok tt
said-accepted (Ok tt) e = refl
said-accepted (Err n) e = let z : ◌≡◌ {A = ℕ} 0 9 = e in let y : ⊥ = omega arith in absurd y

host-accepted : (d : HostDesign) → host_design_reply d ≡ Ok tt → host_accepted d ≡ true
unfolding host_design_reply host_accepted
host-accepted d e = by (mode_numbered d) refl
  where
    by : (b : Bool) → mode_numbered d ≡ b → mode_numbered d && is_accepted (design_of d) ≡ true
    by true f = rw f (sym (accepted-yes (design_of d) (rw f at e)))
    by false f =
        let z : ◌≡◌ {A = ℕ} 0 9 = ap (λ (x : Result (Unit {0}) Refusal). (said_start x).kind) (rw f at e) in
        let y : ⊥ = omega arith in
        absurd y

pub host_account : HostHandleAccount
unfolding HostHandleAccount host_accepted
host_account d r a y xs g =
    let e : host_accepted d ≡ true = host-accepted d (said-accepted (host_design_reply d) (ap (λ (x : HostReply). x.kind) (sym a.reply) ∙ y)) in
    let v : model_of r.state ≡ fresh (design_of d) = a.state ∙ cond-true (host_accepted d) (fresh (design_of d)) zero_state e in
    account-of host host-steps (design_of d) (both (mode_numbered d) (is_accepted (design_of d)) e).1 r.state a.numbered v xs g
