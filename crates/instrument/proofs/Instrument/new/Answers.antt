use Rattle.instrument.proofs.Starts.{start-accepted, start-refused}
use Rattle.instrument.proofs.Instrument.new.Goals as goal

pub returns-in-Ok : goal.returns-in-Ok
returns-in-Ok c = rw c.answered.ensures (start-accepted _ _ _ c.accepted.ensures c.in-Ok.is c.empty.ensures.0 c.empty.ensures.1)

pub returns-in-Err : goal.returns-in-Err
returns-in-Err c = rw c.refused.ensures
    (start-refused _ _ _ _ _ c.accepted.ensures c.in-Err.is c.default.ensures
    c.empty-zeros.ensures.0 c.empty-zeros.ensures.1)
