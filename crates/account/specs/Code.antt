-- A run of the code: a start, then calls, each given the state that the one before returned (document 01, "The handle account").
-- `StepAs` is what each of the nine methods promises of its reply and its state.
use Rattle.std.specs.Prelude.{◌≡◌, true, ℕ}
use mathlib.Core.List.{List, [], ◌∷◌, ◌++◌, map, flat_map, Nodup, Perm}
use Rattle.outcome.specs.declared.Outcome.{Outcome}
use Rattle.design.specs.declared.InstrumentDesign.{InstrumentDesign}
use Rattle.design.specs.Accepted.{is_accepted}
use Rattle.model.specs.Types.{Call, Reply}
use Rattle.model.specs.Start.{fresh}
use Rattle.model.specs.Runs.{after, replies, issued_by, silent_by, taken_by, ended_by, table}
use Rattle.instrument.specs.declared.Instrument.{Instrument}
use Rattle.instrument.specs.View.{view, counted}
use Rattle.instrument.specs.Calls.{StartAs, StepAs}

-- a call that ran: what was called, what it replied, and the state that it gave back
pub record Ran : Type 0 where
  pub call : Call
  pub reply : Reply
  pub state : Instrument

-- "The first call gets it, each later one the state that the call before returned"
pub data RunFrom : Instrument → List Ran → Type 0 where
  none : (s : Instrument) → RunFrom s []
  then : (s : Instrument) (x : Ran) (xs : List Ran) → StepAs s x.call x.reply x.state → RunFrom x.state xs → RunFrom s (x ∷ xs)

abbrev pub calls_of : List Ran → List Call
calls_of xs = map (λ (x : Ran). x.call) xs

abbrev pub replies_of : List Ran → List Reply
replies_of xs = map (λ (x : Ran). x.reply) xs

abbrev pub last_of : Instrument → List Ran → Instrument
last_of s [] = s
last_of s (x ∷ xs) = last_of x.state xs

-- what was read off the replies
module _ (xs : List Ran) where
  abbrev pub issued_in : List ℕ
  issued_in = flat_map issued_by (replies_of xs)

  abbrev pub silent_in : List ℕ
  silent_in = flat_map silent_by (replies_of xs)

  abbrev pub taken_in : List ℕ
  taken_in = flat_map taken_by (replies_of xs)

  abbrev pub ended_in : List ℕ
  ended_in = flat_map ended_by (replies_of xs)

-- of a run from an accepted start: its replies and its last state are those of the definitions, and every handle that it issued is accounted for
pub record Accounted (d : InstrumentDesign) (s : Instrument) (xs : List Ran) : Type 0 where
  pub replied : replies_of xs ≡ replies (fresh d) (calls_of xs)
  pub in_room : counted (last_of s xs) ≡ true
  pub last : view (last_of s xs) ≡ after (fresh d) (calls_of xs)
  pub once : Nodup (issued_in xs)
  pub accounted : Perm (table (view (last_of s xs)) ++ (silent_in xs ++ (taken_in xs ++ ended_in xs))) (issued_in xs)

unfoldable pub CallsAreSteps : Type 0
CallsAreSteps = (d : InstrumentDesign) → is_accepted d ≡ true → (r : Outcome Instrument (Unit {0})) → StartAs d r → (xs : List Ran) → RunFrom r.state xs
    → Accounted d r.state xs
