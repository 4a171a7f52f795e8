-- `put_zeros` meets its contract. Invariant: what is left to store makes of the octets now what was to be stored in all
-- (`Zeroed`).
-- Assumes nothing.
use Rattle.octets.proofs.Weights.{zeroed_more}
use Rattle.octets.proofs.presence.put_zeros.Goals as goal

pub loop-i-preserved : goal.loop-i-preserved
loop-i-preserved c = zeroed_more _ _ _ c.loop-i.invariant c.loop-i-test.true c.put.ensures
