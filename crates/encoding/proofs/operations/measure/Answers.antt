-- The refusal, or the octets that the list comes to.
-- Assumes nothing.
use Rattle.encoding.proofs.Replying.{measure_stop, measure_done}
use Rattle.encoding.proofs.operations.measure.Goals as goal

pub returns-in-Err : goal.returns-in-Err
returns-in-Err c = measure_stop _ _ _ _ _ (c.octets_for.ensures.stopped _ c.in-Err.is) c.from.ensures

pub returns-in-Ok : goal.returns-in-Ok
returns-in-Ok c = measure_done _ _ _ _ _ (c.octets_for.ensures.went _ c.in-Ok.is) c.done.ensures
