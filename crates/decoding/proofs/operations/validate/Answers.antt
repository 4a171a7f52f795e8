-- The survey's refusal, or its counts.
-- Assumes nothing.
use Rattle.decoding.proofs.Replying.{valid_stop, valid_done}
use Rattle.decoding.proofs.operations.validate.Goals as goal

pub returns-in-Err : goal.returns-in-Err
returns-in-Err c = valid_stop _ _ _ _ (c.survey.ensures.stopped _ c.in-Err.is) c.from.ensures

pub returns-in-Ok : goal.returns-in-Ok
returns-in-Ok c = valid_done _ _ _ _ (c.survey.ensures.went _ c.in-Ok.is) c.done.ensures
