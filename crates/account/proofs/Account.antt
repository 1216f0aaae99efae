-- A program whose calls are the model's steps has the model's handle account.
use mathlib.Core.Path.{◌≡◌, refl, ap, sym, ◌∙◌}
use mathlib.Core.Bool.{Bool, true, false}
use mathlib.Core.List.{List, [], ◌∷◌, ◌++◌, map-append, append_assoc, Nodup, Perm, Mem}
use mathlib.Core.Logic.{◌⊎◌}
use Prim.Native.Nat.{ℕ}
use borrow.Author.Tests.{eqb-true, eqb-false}
use lib.Dec.{eqb}
use Rattle.design.specs.declared.InstrumentDesign.{InstrumentDesign}
use Rattle.design.specs.Accepted.{is_accepted}
use Rattle.model.specs.Types.{Model, Call}
use Rattle.model.specs.Step.{refusal, step}
use Rattle.model.specs.Start.{fresh}
use Rattle.model.specs.Runs.{after, replies, table, releasing}
use Rattle.model.specs.Account.{Account, HandleAccount, KilledVoice}
use Rattle.model.proofs.Runs.{handle-account, killed-voice}
use Rattle.account.specs.Runs.{
  Program,
  Ran,
  RunFrom,
  RunFrom.none,
  RunFrom.then,
  calls_of,
  replies_of,
  last_of,
  model_after,
  issued_in,
  silent_in,
  taken_in,
  ended_in,
  OnTheWay,
  Accounted,
}

-- one call: its reply and the state that it gave back are those of the model's step
pub record Steps (P : Program) (s : P.State) (c : Call) (said : P.Said) (t : P.State) : Type 0 where
  pub reply : P.reply said ≡ (step (P.model s) c).reply
  pub readable : P.readable t ≡ true
  pub model : P.model t ≡ (step (P.model s) c).model

-- every call on a state that can be read is such a step
abbrev pub Lawful : Program → Type 0
Lawful P = (s : P.State) → P.readable s ≡ true → (c : Call) (said : P.Said) (t : P.State) → P.Promises s c said t → Steps P s c said t

-- a refused step leaves the model
refused-stays : (m : Model) (c : Call) → eqb (refusal m c) 0 ≡ false → (step m c).model ≡ m
unfolding step
refused-stays m c e = rw e

-- a call that replies as the model, gives back the very state on a refusal and else a state that stands for the model's
pub steps : (P : Program) (s : P.State) (c : Call) (said : P.Said) (t : P.State) (number : ℕ) → P.readable s ≡ true → number ≡ refusal (P.model s) c
    → P.reply said ≡ (step (P.model s) c).reply → ((number ≡ 0 → ⊥) → t ≡ s) → (number ≡ 0 → P.readable t ≡ true)
    → (number ≡ 0 → P.model t ≡ (step (P.model s) c).model) → Steps P s c said t
steps P s c said t number sure same replied refused readable next = by (eqb (refusal (P.model s) c) 0) refl
  where
    by : (b : Bool) → eqb (refusal (P.model s) c) 0 ≡ b → Steps P s c said t
    by true e =
        let z : number ≡ 0 = same ∙ eqb-true _ 0 e in
        record { reply = replied; readable = readable z; model = next z }
    by false e =
        let k : t ≡ s = refused (λ z. eqb-false _ 0 e (sym same ∙ z)) in
        record { reply = replied; readable = ap P.readable k ∙ sure; model = ap P.model k ∙ sym (refused-stays (P.model s) c e) }

-- a run from a state that stands for m
record Follows (P : Program) (m : Model) (s : P.State) (xs : List (Ran P)) : Type 0 where
  replied : replies_of xs ≡ replies m (calls_of xs)
  readable : P.readable (last_of s xs) ≡ true
  model : model_after s xs ≡ after m (calls_of xs)

-- the first calls of a run, and the call behind them
first : {P : Program} (s : P.State) (xs ys : List (Ran P)) → RunFrom P s (xs ++ ys) → RunFrom P s xs
first s [] ys g = none s
first s (x ∷ xs) ys (then _ _ _ a rest) = then s x xs a (first x.state xs ys rest)

behind : {P : Program} (s : P.State) (xs : List (Ran P)) (y : Ran P) (ys : List (Ran P)) → RunFrom P s (xs ++ (y ∷ ys))
    → P.Promises (last_of s xs) y.call y.said y.state
behind s [] y ys (then _ _ _ a rest) = a
behind s (x ∷ xs) y ys (then _ _ _ a rest) = behind x.state xs y ys rest

module _ (P : Program) (law : Lawful P) where
  follows : (s : P.State) → P.readable s ≡ true → (xs : List (Ran P)) → RunFrom P s xs → Follows P (P.model s) s xs
  follows s sure [] (none _) = record { replied = refl; readable = sure; model = refl }
  follows s sure (x ∷ xs) (then _ _ _ a rest) =
      let n = law s sure x.call x.said x.state a in
      let f = follows x.state n.readable xs rest in
      record {
        replied = rw (n.reply, f.replied, n.model);
        readable = f.readable;
        model = f.model ∙ ap (λ (m : Model). after m (calls_of xs)) n.model;
      }

-- the model's account where a run's own replies and states stand for the model's
module _ (P : Program) (m : Model) (k : Account m) (s : P.State) (xs : List (Ran P)) (f : Follows P m s xs) where
  once-in : Nodup (issued_in xs)
  once-in = rw f.replied (k.once (calls_of xs))

  zero-not-in : Mem 0 (issued_in xs) → ⊥
  zero-not-in i = k.not_zero (calls_of xs) (rw f.replied at i)

  joined : Perm (table (model_after s xs) ++ (silent_in xs ++ (taken_in xs ++ ended_in xs))) (issued_in xs)
  joined = rw (f.replied, f.model) (k.accounted (calls_of xs))

stays-in : (P : Program) (m : Model) → Account m → (s : P.State) (xs ys : List (Ran P)) → Follows P m s xs → Follows P m s (xs ++ ys) → (h : ℕ)
    → Mem h (releasing (model_after s xs)) → Mem h (releasing (model_after s (xs ++ ys))) ⊎ (Mem h (table (model_after s (xs ++ ys))) → ⊥)
stays-in P m k s xs ys f g h i =
    let q : model_after s (xs ++ ys) ≡ after m (calls_of xs ++ calls_of ys) =
    g.model ∙ ap (after m) (map-append (λ (x : Ran P). x.call) xs ys) in
    rw q (k.stays (calls_of xs) (calls_of ys) h (rw f.model at i))

module _ (P : Program) (law : Lawful P) (d : InstrumentDesign) (e : is_accepted d ≡ true) (s : P.State) (sure : P.readable s ≡ true) (begun : P.model s ≡ fresh d)
    (xs : List (Ran P)) (g : RunFrom P s xs) where
  the-model : Account (fresh d)
  unfolding HandleAccount
  the-model = handle-account d e

  whole : Follows P (fresh d) s xs
  whole = rw begun at (follows P law s sure xs g)

  part : (before : List (Ran P)) → OnTheWay xs before → Follows P (fresh d) s before
  part before w = rw begun at (follows P law s sure before (first s before w.later (rw w.split at g)))

  -- the calls before others on the way
  sooner : (before between : List (Ran P)) → OnTheWay xs (before ++ between) → OnTheWay xs before
  sooner before between w = record { later = between ++ w.later; split = w.split ∙ append_assoc before between w.later }

  -- a call on the way replies what the model does
  said-as : (before : List (Ran P)) (x : Ran P) → OnTheWay xs (before ++ (x ∷ []))
      → P.reply x.said ≡ (step (after (fresh d) (calls_of before)) x.call).reply
  unfolding sooner
  said-as before x w =
      let u = sooner before (x ∷ []) w in
      let f = part before u in
      (law (last_of s before) f.readable x.call x.said x.state (behind s before x w.later (rw u.split at g))).reply
      ∙ ap (λ (m : Model). (step m x.call).reply) f.model

  pub account-of : Accounted P d s xs
  unfolding KilledVoice fresh
  account-of = record {
    replied = whole.replied;
    readable = λ before w. (part before w).readable;
    given = λ before w. (part before w).model;
    once = once-in P (fresh d) the-model s xs whole;
    not_zero = zero-not-in P (fresh d) the-model s xs whole;
    accounted = λ before w. joined P (fresh d) the-model s before (part before w);
    not_releasing = λ before w. rw (part before w).model (the-model.not_releasing (calls_of before));
    size = λ before w. rw (part before w).model (the-model.size (calls_of before));
    stays = λ before between w.
        stays-in P (fresh d) the-model s before between (part before (sooner before between w)) (part (before ++ between) w);
    taken = λ before x w.
        rw (said-as before x w, (part before (sooner before (x ∷ []) w)).model) (the-model.taken (calls_of before) x.call);
    killed = λ before x w.
        rw (said-as before x w, (part before (sooner before (x ∷ []) w)).model) (killed-voice d e (calls_of before) x.call);
    formed = λ before w. rw (part before w).model (the-model.formed (calls_of before));
  }
