-- From a call of the instrument on what was read to what the call promises to a host.
use Rattle.std.specs.Prelude.{Err}
use mathlib.Core.Path.{◌≡◌, refl, ap, sym, ◌∙◌}
use mathlib.Core.Bool.{Bool, true, false}
use mathlib.Core.List.{List}
use Prim.Native.Nat.{ℕ}
use native.Mathlib.Omega.{arith}
use lib.Ieee.{Float}
use lib.ListN.{replicate}
use Rattle.lists.specs.Choose.{cond-true}
use Rattle.design.specs.declared.InstrumentDesign.{InstrumentDesign}
use Rattle.envelope.specs.Start.{rate_fits}
use Rattle.design.specs.Accepted.{numbers_fit, design_reply, is_accepted}
use Rattle.model.specs.Types.{Model, Call, Reply, Outcome}
use Rattle.model.specs.Step.{refusal, lent_to, step}
use Rattle.model.proofs.Refusals.{refused-by, step-refused}
use Rattle.instrument.specs.declared.Instrument.{Instrument}
use Rattle.instrument.specs.declared.Report.{Report}
use Rattle.outcome.specs.declared.Outcome as gave
use Rattle.outcome.specs.declared.Refusal.TheVariants.{OutsideLimits}
use Rattle.instrument.specs.View.{counted}
use Rattle.instrument.specs.Calls.{refusal_of, reply_to, lent_of, StepAs}
use Rattle.instrument.specs.Mixes.{mix_reply_of, MixAs}
use Rattle.wire.specs.declared.HostState.{HostState}
use Rattle.wire.specs.Reads.{numbered, model_of, ReadFrom}
use Rattle.host.specs.Said.{said_of, report_of, refusing}
use Rattle.host.specs.Hosted.{host_refusal, host_reply, host_lent, HostedAs, HostCallAs, Hosts, unread}
use Rattle.host.specs.declared.HostReply.{HostReply}
use Rattle.host.specs.declared.HostOutcome.{HostOutcome}

-- ---- a refusal in numbers

only-refused : (r : Reply) → (said_of r).kind ≡ 0 → ((n : ℕ) → r ≡ Reply.refused n → ⊥) → ⊥
only-refused (Reply.started handle killed taken) e f = omega arith
only-refused (Reply.silent handle) e f = omega arith
only-refused (Reply.kept handle) e f = omega arith
only-refused (Reply.off found) e f = omega arith
only-refused Reply.done e f = omega arith
only-refused (Reply.released found) e f = omega arith
only-refused Reply.planned e f = omega arith
only-refused (Reply.mixed count ended) e f = omega arith
only-refused (Reply.refused n) e f = f n refl

-- ---- numbers that stand for no state

module _ (h : HostState) (fails : numbered h ≡ false) (c : Call) where
  unread-reply : refusing 1 ≡ said_of (host_reply h c)
  unfolding host_reply
  unread-reply = rw fails

  unread-refusal : host_refusal h c ≡ 1
  unfolding host_refusal
  unread-refusal = rw fails

  pub unread-lent : lent_to c ≡ host_lent h c
  unfolding host_lent
  unread-lent = rw fails

  pub unread-report : replicate 64 0 ≡ report_of (host_reply h c)
  unfolding host_reply
  unread-report = rw fails

  pub unread-call : (r : HostReply) → r ≡ refusing 1 → HostedAs h c r h
  unread-call r e = record {
    reply = e ∙ unread-reply;
    refused = λ _. refl;
    numbered = λ z. absurd (not_none z);
    next = λ z. absurd (not_none z);
  }
    where
      not_none : host_refusal h c ≡ 0 → ⊥
      not_none z = let n : ◌≡◌ {A = ℕ} 1 0 = sym unread-refusal ∙ z in omega arith

pub unread-outcome : (h : HostState) → numbered h ≡ false → (c : Call) (r : HostOutcome) → r ≡ unread h → HostCallAs h c r
unread-outcome h fails c r e = rw e (unread-call h fails c (refusing 1) refl)

-- ---- numbers that stand for a state: what was read is in room, and its view is the model

module _ (h : HostState) (s : Instrument) (sure : numbered h ≡ true) (from : ReadFrom h s) where
  room : counted s ≡ true
  room = from.counted sure

  module _ (c : Call) where
    same-refusal : refusal_of s c ≡ host_refusal h c
    unfolding refusal_of host_refusal
    same-refusal = rw (room, sure, from.view)

    same-reply : reply_to s c ≡ host_reply h c
    unfolding reply_to host_reply
    same-reply = rw (room, sure, from.view)

    pub same-lent : lent_of s c ≡ host_lent h c
    unfolding lent_of host_lent
    same-lent = rw (room, sure, from.view)

    -- a refusal is replied where the call is refused, and only there
    refusal-said : (host_refusal h c ≡ 0 → ⊥) → (said_of (host_reply h c)).kind ≡ 0
    unfolding host_refusal host_reply
    refusal-said f =
        let e : (step (model_of h) c).reply ≡ Reply.refused (refusal (model_of h) c) = ap (λ (o : Outcome). o.reply) (step-refused (model_of h) c (λ z. f (cond-true _ _ _ sure ∙ z))) in
        ap (λ (r : Reply). (said_of r).kind) (cond-true _ _ _ sure ∙ e)

    refusal-only : host_refusal h c ≡ 0 → (said_of (host_reply h c)).kind ≡ 0 → ⊥
    unfolding host_refusal host_reply
    refusal-only z k =
        only-refused (host_reply h c) k (λ n q. (refused-by (model_of h) c n (sym (cond-true _ _ _ sure) ∙ q)).1 (sym (cond-true _ _ _ sure) ∙ z))

    pub hosted : (said : Reply) (u : Instrument) (r : HostReply) (t : HostState) → StepAs s c said u → Hosts h said u r t → HostedAs h c r t
    hosted said u r t a w =
        let q : said ≡ host_reply h c = a.reply ∙ same-reply in
        let k : (said_of said).kind ≡ (said_of (host_reply h c)).kind = ap (λ (x : Reply). (said_of x).kind) q in
        record {
          reply = w.reply ∙ ap said_of q;
          refused = λ f. w.refused (k ∙ refusal-said f);
          numbered = λ z. (w.written (λ e. refusal-only z (sym k ∙ e))).numbered ∙ a.in_room (same-refusal ∙ z);
          next = λ z. (w.written (λ e. refusal-only z (sym k ∙ e))).model ∙ a.next (same-refusal ∙ z) ∙ ap (λ (m : Model). (step m c).model) from.view;
        }

  -- the report of a Mix is that of its reply
  pub hosted-report : (samples old : List Float) (o : gave.Outcome Instrument Report) (new : List Float) → MixAs s samples old new o
      → report_of (mix_reply_of o.reply) ≡ report_of (host_reply h (Call.mix samples old))
  hosted-report samples old o new m = ap report_of (m.call.reply ∙ same-reply (Call.mix samples old))

-- ---- the start

-- no voices are a design number outside its limits
unfit : (d : InstrumentDesign) → d.max_voices ≡ 0 → numbers_fit d ≡ false
unfolding numbers_fit
unfit d e = by (rate_fits d.sample_rate) refl
  where
    by : (b : Bool) → rate_fits d.sample_rate ≡ b → numbers_fit d ≡ false
    by true q = rw (q, e)
    by false q = rw q

pub unfit_reply : (d : InstrumentDesign) → d.max_voices ≡ 0 → design_reply d ≡ Err OutsideLimits
unfolding design_reply
unfit_reply d e = rw (unfit d e)

pub unfit_design : (d : InstrumentDesign) → d.max_voices ≡ 0 → is_accepted d ≡ false
unfolding is_accepted
unfit_design d e = rw (unfit d e)
