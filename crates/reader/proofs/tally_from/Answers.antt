use Rattle.std.proofs.Common.{rules}
use Rattle.reader.proofs.Turns.{goes_on, gets_less}
use Rattle.reader.proofs.tally_from.Goals as goal

-- `reader::tally_from` meets its contract: what was counted, with what is left, is the whole tally.

pub loop-last-smaller : goal.loop-last-smaller
loop-last-smaller c = gets_less _ _ _ _ c.loop-last.invariant c.in-Ok-Some.event (search rules) _ c.step-last-in-Ok-Some.ensures

pub loop-last-preserved : goal.loop-last-preserved
loop-last-preserved c =
    goes_on _ _ _ _ c.loop-last.invariant c.in-Ok-Some.event (search rules) _ c.step-last-in-Ok-Some.ensures _ c.counted-counts.ensures
