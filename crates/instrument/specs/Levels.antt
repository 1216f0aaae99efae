-- The levels that calls from a start reach (document 01, "mod.rs: the voice table").
use Rattle.std.specs.Prelude.{◌≡◌, List, ℕ, ◌<◌, length, get_or, Ok}
use Rattle.outcome.specs.declared.Outcome.{Outcome}
use Rattle.design.specs.declared.InstrumentDesign.{InstrumentDesign}
use Rattle.model.specs.Types.{Call, no_voice}
use Rattle.model.specs.Runs.{after}
use Rattle.model.specs.Laws.{LevelWithin}
use Rattle.instrument.specs.View.{view}
use Rattle.instrument.specs.Calls.{StartAs}
use Rattle.instrument.specs.declared.Instrument.{Instrument}

-- a NaN is a level "which no list from a fresh instrument reaches": of what a start with the design d gives where d is accepted
unfoldable pub StartLevels : InstrumentDesign → Type 0
StartLevels d = (r : Outcome Instrument (Unit {0})) → StartAs d r → r.reply ≡ Ok tt
    → (cs : List Call) (k : ℕ) → k < length (after (view r.state) cs).voices
    → LevelWithin (get_or (after (view r.state) cs).voices k no_voice).env.level
