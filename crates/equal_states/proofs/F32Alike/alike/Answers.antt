use Rattle.equal_states.proofs.Joined.{by_bits}
use Rattle.equal_states.proofs.F32Alike.alike.Goals as goal

pub returns : goal.returns
returns c = by_bits _ _ _ _ c.well_formed.0.1 c.well_formed.1.0.1 c.to_bits.ensures c.to_bits-2.ensures
