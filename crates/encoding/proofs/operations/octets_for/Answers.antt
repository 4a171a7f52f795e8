-- The refusal of the table or the row, or what the list comes to.
-- Assumes nothing.
use Rattle.std.proofs.lemmas.Result.{err_from_is_err_and}
use Rattle.encoding.proofs.Replying.{octets_table, octets_by}
use Rattle.encoding.proofs.operations.octets_for.Goals as goal

pub returns-in_err-table : goal.returns-in_err-table
returns-in_err-table c =
    let p = err_from_is_err_and c.from_residual.result c.from_residual.ensures.1 in
    rw (p.1, p.2) (octets_table _ _ _ _ _ (c.asked_table.ensures.stopped _ c.in_err-table.was))

pub octets_in-requires : goal.octets_in-requires
octets_in-requires c =
    let ready = c.asked_table.ensures.ready _ c.in_ok-table.was in
    rw ready.0 ready.3

pub returns : goal.returns
returns c = octets_by _ _ _ _ _ c.asked_table.ensures c.in_ok-table.was c.octets_in.ensures
