-- What a method promises of its reply and its state is a step of the view.
use mathlib.Core.Path.{◌≡◌, sym, ◌∙◌}
use mathlib.Core.Bool.{true}
use Rattle.lists.specs.Choose.{cond-true}
use Rattle.design.specs.Accepted.{is_accepted}
use Rattle.model.specs.Types.{Call, Reply}
use Rattle.model.specs.Start.{fresh, zero_state, start_of}
use Rattle.instrument.specs.declared.Instrument.{Instrument}
use Rattle.instrument.specs.View.{view, counted}
use Rattle.instrument.specs.Calls.{refusal_of, StepAs}
use Rattle.instrument.proofs.Parts.{accepted-yes}
use Rattle.account.specs.Methods.{code, HandleAccount}
use Rattle.account.proofs.Account.{Steps, steps, account-of}
use Rattle.account.proofs.Steps.{same-refusal, said-is}

-- one call on a state whose counts are in room
module _ (s : Instrument) (room : counted s ≡ true) (c : Call) (said : Reply) (t : Instrument) (a : StepAs s c said t) where
  code-steps : Steps code s c said t
  code-steps = steps code s c said t (refusal_of s c) room (same-refusal s room c said t a) (said-is s room c said t a) a.refused a.in_room a.next

pub code_account : HandleAccount
unfolding HandleAccount start_of
code_account d r a y xs g =
    let e : is_accepted d ≡ true = sym (accepted-yes d (sym a.reply ∙ y)) in
    let v : view r.state ≡ fresh d = a.state ∙ cond-true (is_accepted d) (fresh d) zero_state e in
    account-of code code-steps d e r.state a.in_room v xs g
