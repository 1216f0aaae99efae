-- The levels from a start: an accepted design starts fresh, and its times fit.
use mathlib.Core.Path.{sym, ◌∙◌}
use Rattle.lists.specs.Choose.{cond-true}
use Rattle.design.specs.declared.InstrumentDesign.{InstrumentDesign}
use Rattle.model.specs.Start.{start_of}
use Rattle.model.specs.Laws.{TimesFit, LevelsWithin}
use Rattle.model.proofs.Runs.{levels-within}
use Rattle.instrument.specs.Levels.{StartLevels}
use Rattle.instrument.proofs.Parts.{accepted-yes}

pub start_levels : (d : InstrumentDesign) → TimesFit d → StartLevels d
unfolding StartLevels LevelsWithin start_of
start_levels d t r s e cs k =
    let a = sym (accepted-yes d (sym s.reply ∙ e)) in
    rw (s.state ∙ cond-true _ _ _ a) (levels-within d a t cs k)
