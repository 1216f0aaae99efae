-- What Mix promises (document 01, "Copies, Plan and Mix").
use Rattle.std.specs.Prelude.{◌≡◌, ◌&&◌, cond, List, ℕ, ◌*◌, eqb, Float, Result, Ok, Err}
use Rattle.outcome.specs.declared.Outcome.{Outcome}
use Rattle.outcome.specs.declared.Refusal.{Refusal}
use Rattle.outcome.specs.declared.Refusal.TheVariants.{NoBlock, LentLength}
use Rattle.outcome.specs.Numbers.{number_of}
use Rattle.design.specs.Accepted.{copies_of}
use Rattle.model.specs.Types as model
use Rattle.instrument.specs.Calls.{lent_of, StepAs}
use Rattle.instrument.specs.declared.Instrument.{Instrument}
use Rattle.instrument.specs.declared.Report.{Report}

-- document 01's reply, with its number and values, for each case: how many ended, and the 64 places of the report
abbrev pub mix_reply_of : Result Report Refusal → model.Reply
mix_reply_of (Ok report) = model.Reply.mixed report.count report.ended
mix_reply_of (Err refusal) = model.Reply.refused (number_of refusal)

-- Mix: reply with its report, next state, and the lent output; a refusal has no report
pub record MixAs (s : Instrument) (samples old new : List Float) (r : Outcome Instrument Report) : Type 0 where
  pub call : StepAs s (model.Call.mix samples old) (mix_reply_of r.reply) r.state
  pub lent : new ≡ lent_of s (model.Call.mix samples old)

-- ---- the parts

-- whether a well formed state mixes so many samples into so many places: refusal 6, then 7
unfoldable pub mix_fits : Instrument → ℕ → ℕ → Result (Unit {0}) Refusal
mix_fits s samples places =
    cond (eqb s.frames 0) (Err NoBlock)
    (cond (eqb (s.frames * (s.table.count * copies_of s.design)) samples && eqb (2 * s.frames) places) (Ok tt) (Err LentLength))
