-- The refusal of the table or the row, or the message's own answer.
-- Assumes nothing.
use Rattle.std.proofs.lemmas.Result.{err_from_is_err_and}
use Rattle.decoding.proofs.Replying.{valued_stop, valued_by}
use Rattle.decoding.proofs.operations.survey.Goals as goal

pub returns-in_err-table : goal.returns-in_err-table
returns-in_err-table c =
    let p = err_from_is_err_and c.from_residual.result c.from_residual.ensures.1 in
    rw (p.1, p.2) (valued_stop _ _ _ _ (c.asked_table.ensures.stopped _ c.in_err-table.was))

pub survey_message-requires : goal.survey_message-requires
survey_message-requires c =
    let ready = c.asked_table.ensures.ready _ c.in_ok-table.was in
    rw ready.0 ready.3

pub returns : goal.returns
returns c = valued_by _ _ _ _ c.asked_table.ensures c.in_ok-table.was c.survey_message.ensures
