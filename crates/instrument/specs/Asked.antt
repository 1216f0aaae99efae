-- The queries on a state (document 01, "What a call replies"): refusal 1 where the state is not well formed.
use Rattle.std.specs.Prelude.{◌≡◌, Bool, true, cond, ℕ, Option, None, Some, Result, Ok, Err}
use Rattle.outcome.specs.declared.Refusal.{Refusal}
use Rattle.outcome.specs.Numbers.{number_of}
use Rattle.model.specs.Queries as model
use Rattle.model.specs.Queries.{VoiceOf}
use Rattle.instrument.specs.View.{view, counted}
use Rattle.instrument.specs.declared.Instrument.{Instrument}

-- document 01's answer, with its number and values, for each query
abbrev pub active_of : Result Bool Refusal → model.Answer
active_of (Ok found) = model.Answer.active found
active_of (Err refusal) = model.Answer.refused (number_of refusal)

abbrev pub voices_of : Result ℕ Refusal → model.Answer
voices_of (Ok n) = model.Answer.voices n
voices_of (Err refusal) = model.Answer.refused (number_of refusal)

abbrev pub handle_of : Result (Option ℕ) Refusal → model.Answer
handle_of (Ok (Some handle)) = model.Answer.handle handle
handle_of (Ok None) = model.Answer.no_handle
handle_of (Err refusal) = model.Answer.refused (number_of refusal)

-- a count beyond its array is refusal 1 before anything else is read
unfoldable pub asked_of : Instrument → model.Answer → model.Answer
asked_of s a = cond (counted s) a (model.Answer.refused 1)

-- some voice of the note: which of several is free
pub record VoiceAs (s : Instrument) (note : ℕ) (a : Result (Option ℕ) Refusal) : Type 0 where
  pub in_room : counted s ≡ true → VoiceOf (view s) note (handle_of a)
  pub beyond : (counted s ≡ true → ⊥) → handle_of a ≡ model.Answer.refused 1
