-- Surveyed, the room compared, then read again with the buffers lent.
-- Assumes nothing.
use native.Mathlib.Omega.{arith}
use Rattle.std.proofs.lemmas.Result.{err_from_is_err_and}
use Rattle.octets.proofs.Refusing.{refuses}
use Rattle.decoding.proofs.Replying.{valued_stop, valued_by, value_known, decode_stop, decode_nodes, decode_contents}
use Rattle.decoding.proofs.Replying.{decode_done}
use mathlib.Core.Path.{refl}
use Rattle.decoding.proofs.operations.put_value.Goals as goal

pub returns-in_err-table : goal.returns-in_err-table
returns-in_err-table c =
    let p = err_from_is_err_and c.from_residual.result c.from_residual.ensures.1 in
    let v = valued_stop _ _ _ c.args.msg.now (c.asked_table.ensures.stopped _ c.in_err-table.was) in
    rw (p.1, p.2) (decode_stop _ _ _ _ _ _ (v.stopped _ refl))

pub survey_message-requires : goal.survey_message-requires
survey_message-requires c =
    let ready = c.asked_table.ensures.ready _ c.in_ok-table.was in
    rw ready.0 ready.3

pub returns-in_err-value : goal.returns-in_err-value
returns-in_err-value c =
    let v = valued_by _ _ _ _ c.asked_table.ensures c.in_ok-table.was c.survey_message.ensures in
    let p = err_from_is_err_and c.from_residual-in_err-value.result c.from_residual-in_err-value.ensures.1 in
    rw (p.1, p.2) (decode_stop _ _ _ _ _ _ (v.stopped _ c.in_err-value.was))

pub returns-then-nodes-value : goal.returns-then-nodes-value
returns-then-nodes-value c =
    let v = valued_by _ _ _ _ c.asked_table.ensures c.in_ok-table.was c.survey_message.ensures in
    decode_nodes _ _ _ _ _ _ (v.went _ c.in_ok-value.was) c.if-nodes-value.true
    (refuses c.at.ensures c.in_part.ensures)

pub returns-then-lacks : goal.returns-then-lacks
returns-then-lacks c =
    let v = valued_by _ _ _ _ c.asked_table.ensures c.in_ok-table.was c.survey_message.ensures in
    decode_contents _ _ _ _ _ _ (v.went _ c.in_ok-value.was) (omega arith) c.if-lacks.true
    (refuses c.at-then-lacks.ensures c.in_part-then-lacks.ensures)

pub read_value-again-requires : goal.read_value-again-requires
read_value-again-requires c =
    let v = valued_by _ _ _ _ c.asked_table.ensures c.in_ok-table.was c.survey_message.ensures in
    let ready = c.asked_table.ensures.ready _ c.in_ok-table.was in
    let k = value_known _ _ _ _ (v.went _ c.in_ok-value.was).is in
    (rw ready.0 ready.3, omega arith, omega arith, k.short)

pub returns : goal.returns
returns c =
    let v = valued_by _ _ _ _ c.asked_table.ensures c.in_ok-table.was c.survey_message.ensures in
    let ready = c.asked_table.ensures.ready _ c.in_ok-table.was in
    decode_done _ _ _ _ _ _ (v.went _ c.in_ok-value.was) (omega arith) (omega arith) _
    (rw (ready.0, ready.1) at c.read_value-again.ensures)
