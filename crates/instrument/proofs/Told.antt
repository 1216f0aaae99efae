-- A reply back from document 01's.
use Rattle.std.specs.Prelude.{Option, Some, None, Result, Ok, Err}
use Rattle.std.proofs.Props.{props}
use Rattle.std.specs.declared.num.NonZeroU64.{NonZeroU64}
use mathlib.Core.Path.{◌≡◌, refl, ap, sym, ◌∙◌}
use mathlib.Core.Bool.{Bool, true, false}
use Prim.Native.Nat.{ℕ, ◌<◌}
use native.Mathlib.Omega.{arith}
use borrow.Author.Tests.{ltb-true, ltb-false}
use lib.Dec.{ltb}
use Rattle.outcome.specs.declared.Refusal.{Refusal}
use Rattle.model.specs.Types as M
use Rattle.instrument.specs.Calls.{handle_or_none, reply_of, RepliesTold}
use Rattle.instrument.specs.declared.Reply.{Reply}
use Rattle.instrument.specs.declared.Reply.TheVariants.{Started, Silent, Kept, Off, Done, Released, Planned}
use Rattle.instrument.proofs.Calls.{refusal_from, refusal-back}

abbrev handle_by : (n : ℕ) (b : Bool) → ltb 0 n ≡ b → Option NonZeroU64
handle_by n true e = Some (record { value = n; ok = ltb-true 0 n e })
handle_by n false e = None

-- the handle of a number
abbrev handle_from : ℕ → Option NonZeroU64
handle_from n = handle_by n (ltb 0 n) refl

handle-back : (h : Option NonZeroU64) → handle_from (handle_or_none h) ≡ h
handle-back None = refl
handle-back (Some x) = by (ltb 0 x.value) refl
  where
    by : (b : Bool) (e : ltb 0 x.value ≡ b) → handle_by x.value b e ≡ Some x
    by true e = let once : IsProp (0 < x.value) = hlevel props in ap (λ (p : 0 < x.value). Some (record { value = x.value; ok = p })) (once _ _)
    by false e = let f = ltb-false 0 x.value e in let o = x.ok in let z : ⊥ = omega arith in absurd z

-- Mix has a report of its own
abbrev reply_from : M.Reply → Result Reply Refusal
reply_from (M.Reply.started handle killed taken) = Ok (Started handle (handle_from killed) (handle_from taken))
reply_from (M.Reply.silent handle) = Ok (Silent handle)
reply_from (M.Reply.kept handle) = Ok (Kept handle)
reply_from (M.Reply.off found) = Ok (Off found)
reply_from M.Reply.done = Ok Done
reply_from (M.Reply.released found) = Ok (Released found)
reply_from M.Reply.planned = Ok Planned
reply_from (M.Reply.mixed count ended) = Ok Done
reply_from (M.Reply.refused n) = Err (refusal_from n)

reply-back : (r : Result Reply Refusal) → reply_from (reply_of r) ≡ r
reply-back (Ok (Started handle killed taken)) = rw (handle-back killed, handle-back taken) refl
reply-back (Ok (Silent handle)) = refl
reply-back (Ok (Kept handle)) = refl
reply-back (Ok (Off found)) = refl
reply-back (Ok Done) = refl
reply-back (Ok (Released found)) = refl
reply-back (Ok Planned) = refl
reply-back (Err refusal) = ap Err (refusal-back refusal)

pub replies_told : RepliesTold
replies_told r q e = sym (reply-back r) ∙ ap reply_from e ∙ reply-back q
