-- The message is measured, read with nothing lent, and its end compared.
-- Assumes nothing.
use native.Mathlib.Omega.{arith}
use Rattle.octets.proofs.Refusing.{refuses}
use Rattle.decoding.proofs.Replying.{value_stop, value_got, message_long_lem, message_fault, message_left}
use Rattle.decoding.proofs.Replying.{message_done}
use Rattle.decoding.proofs.operations.survey_message.Goals as goal

pub returns-then-long : goal.returns-then-long
returns-then-long c = value_stop (message_long_lem _ _ c.if-long.true) (refuses c.at.ensures c.in_part.ensures)

pub returns-then-left_over : goal.returns-then-left_over
returns-then-left_over c =
    value_stop
    (message_left _ _ (omega arith) (c.read_value.ensures.went _ c.in-Ok.is) c.if-left_over.true)
    (refuses c.at-then-left_over.ensures c.in_part-then-left_over.ensures)

pub returns-in-Err : goal.returns-in-Err
returns-in-Err c =
    value_stop
    (message_fault _ _ (omega arith) (c.read_value.ensures.stopped _ c.in-Err.is))
    c.in_part-in-Err.ensures

pub returns-else-left_over : goal.returns-else-left_over
returns-else-left_over c =
    value_got
    (message_done _ _ (omega arith) (c.read_value.ensures.went _ c.in-Ok.is) (omega arith))
