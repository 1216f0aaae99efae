use Rattle.levels.proofs.Frames.{filled}
use Rattle.levels.proofs.fill.Goals as goal

pub returns : goal.returns
returns c = filled _ _ c.min.ensures c.fill_all-env.auto.levels c.fill_all-env.ensures
