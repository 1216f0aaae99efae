-- A call's contract is a step of its view, and a run of such calls is the model's run.
use mathlib.Core.Path.{◌≡◌, refl, ap, sym, ◌∙◌}
use mathlib.Core.Bool.{Bool, true, false}
use mathlib.Core.List.{List, [], ◌∷◌, ◌++◌, Nodup, Perm}
use borrow.Author.Tests.{eqb-true, eqb-false}
use lib.Dec.{eqb}
use Rattle.lists.specs.Choose.{cond-true}
use Rattle.design.specs.Accepted.{is_accepted}
use Rattle.model.specs.Types.{Model, Call, Reply}
use Rattle.model.specs.Step.{refusal, step}
use Rattle.model.specs.Start.{fresh, zero_state, start_of}
use Rattle.model.specs.Runs.{after, replies, table}
use Rattle.model.specs.Account.{Account, HandleAccount}
use Rattle.model.proofs.Runs.{handle-account}
use Rattle.instrument.specs.declared.Instrument.{Instrument}
use Rattle.instrument.specs.View.{view, counted}
use Rattle.instrument.specs.Calls.{refusal_of, reply_to, StepAs}
use Rattle.account.specs.Code.{Ran, RunFrom, RunFrom.none, RunFrom.then, calls_of, replies_of, last_of, issued_in, silent_in, taken_in, ended_in, CallsAreSteps}

-- a refused step leaves the model
refused-stays : (m : Model) (c : Call) → eqb (refusal m c) 0 ≡ false → (step m c).model ≡ m
unfolding step
refused-stays m c e = rw e

-- one call on a state whose counts are in room
module _ (s : Instrument) (room : counted s ≡ true) (c : Call) (said : Reply) (t : Instrument) (a : StepAs s c said t) where
  pub same-refusal : refusal_of s c ≡ refusal (view s) c
  unfolding refusal_of
  same-refusal = rw room

  pub said-is : said ≡ (step (view s) c).reply
  unfolding reply_to
  said-is = a.reply ∙ cond-true (counted s) _ _ room

  record Next : Type 0 where
    inside : counted t ≡ true
    model : view t ≡ (step (view s) c).model

  next : Next
  next = by (eqb (refusal (view s) c) 0) refl
    where
      by : (b : Bool) → eqb (refusal (view s) c) 0 ≡ b → Next
      by true e =
          let z : refusal_of s c ≡ 0 = same-refusal ∙ eqb-true _ 0 e in
          record { inside = a.in_room z; model = a.next z }
      by false e =
          let k : t ≡ s = a.refused (λ z. eqb-false _ 0 e (sym same-refusal ∙ z)) in
          record { inside = ap counted k ∙ room; model = ap view k ∙ sym (refused-stays (view s) c e) }

-- a run from a state that stands for m
pub record Follows (m : Model) (s : Instrument) (xs : List Ran) : Type 0 where
  pub replied : replies_of xs ≡ replies m (calls_of xs)
  pub in_room : counted (last_of s xs) ≡ true
  pub last : view (last_of s xs) ≡ after m (calls_of xs)

pub follows : (s : Instrument) → counted s ≡ true → (xs : List Ran) → RunFrom s xs → Follows (view s) s xs
follows s room [] (none _) = record { replied = refl; in_room = room; last = refl }
follows s room (x ∷ xs) (then _ _ _ a rest) =
    let n = next s room x.call x.reply x.state a in
    let f = follows x.state n.inside xs rest in
    record {
      replied = rw (said-is s room x.call x.reply x.state a, f.replied, n.model);
      in_room = f.in_room;
      last = f.last ∙ ap (λ (m : Model). after m (calls_of xs)) n.model;
    }

-- the handle account, read off a run's own replies and last state
module _ (m : Model) (k : Account m) (s : Instrument) (xs : List Ran) (f : Follows m s xs) where
  pub once : Nodup (issued_in xs)
  once = rw f.replied (k.once (calls_of xs))

  pub joined : Perm (table (view (last_of s xs)) ++ (silent_in xs ++ (taken_in xs ++ ended_in xs))) (issued_in xs)
  joined = rw (f.replied, f.last) (k.accounted (calls_of xs))

pub calls_are_steps : CallsAreSteps
unfolding CallsAreSteps HandleAccount start_of
calls_are_steps d e r a xs g =
    let v : view r.state ≡ fresh d = a.state ∙ cond-true (is_accepted d) (fresh d) zero_state e in
    let f : Follows (fresh d) r.state xs = rw v at (follows r.state a.in_room xs g) in
    let k = handle-account d e in
    record {
      replied = f.replied;
      in_room = f.in_room;
      last = f.last;
      once = once (fresh d) k r.state xs f;
      accounted = joined (fresh d) k r.state xs f;
    }
