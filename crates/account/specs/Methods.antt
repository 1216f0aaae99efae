-- The handle account of the code (document 01, "The handle account"): a call of a run is what each of the nine methods
-- of an instrument promises of its reply and its state (`StepAs`).
use Rattle.std.specs.Prelude.{◌≡◌, List, ℕ, Float, Ok}
use Rattle.outcome.specs.declared.Outcome.{Outcome}
use Rattle.design.specs.declared.InstrumentDesign.{InstrumentDesign}
use Rattle.model.specs.Types.{Call, Call.plan, Call.mix, Reply}
use Rattle.instrument.specs.declared.Instrument.{Instrument}
use Rattle.instrument.specs.declared.Report.{Report}
use Rattle.instrument.specs.View.{view, counted}
use Rattle.instrument.specs.Calls.{Called, reply_of, lent_of, StartAs, StepAs}
use Rattle.instrument.specs.Mixes.{mix_reply_of}
use Rattle.account.specs.Runs.{Program, Ran, RunFrom, Accounted}

-- an instrument's state can be read where its counts are within their arrays
abbrev pub code : Program
code = record { State = Instrument; Said = Reply; readable = counted; model = view; reply = λ (r : Reply). r; Promises = StepAs }

-- a call on s that gave r is one of a run
abbrev pub Runs : Instrument → Call → Called → Type 0
Runs s c r = code.Promises s c (reply_of r.reply) r.state

-- Plan is one, and the lent curve is at exit what the definitions give
abbrev pub PlanRuns : Instrument → ℕ → Float → Float → Float → List Float → List Float → Called → Type 0
PlanRuns s frames vibrato filter sine old new r =
    Runs s (plan frames vibrato filter sine old) r × (new ≡ lent_of s (plan frames vibrato filter sine old))

-- Mix, read with its report, is one, and the lent output is at exit what the definitions give
abbrev pub MixRuns : Instrument → List Float → List Float → List Float → Outcome Instrument Report → Type 0
MixRuns s samples old new r =
    code.Promises s (mix samples old) (mix_reply_of r.reply) r.state × (new ≡ lent_of s (mix samples old))

-- of every run of the code from "the state an accepted start gives"
unfoldable pub HandleAccount : Type 0
HandleAccount = (d : InstrumentDesign) (r : Outcome Instrument (Unit {0})) → StartAs d r → r.reply ≡ Ok tt
    → (xs : List (Ran code)) → RunFrom code r.state xs → Accounted code d r.state xs
