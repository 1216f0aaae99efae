use Rattle.equal_states.proofs.Rooms.{sized, whole}
use Rattle.equal_states.proofs.equal.Goals as goal

pub returns : goal.returns
returns c = whole _ _ (sized _ c.well_formed.0) (sized _ c.well_formed.1.0) c.same.ensures
