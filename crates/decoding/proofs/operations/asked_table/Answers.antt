-- The table is checked, then the row is compared with the count.
-- Assumes nothing.
use native.Mathlib.Omega.{arith}
use Rattle.std.proofs.lemmas.Result.{err_from_is_err_and}
use Rattle.octets.proofs.Refusing.{refuses}
use Rattle.decoding.proofs.Replying.{asked_fault, asked_none, asked_there}
use Rattle.decoding.proofs.operations.asked_table.Goals as goal

pub returns-in_err-table : goal.returns-in_err-table
returns-in_err-table c =
    let p = err_from_is_err_and c.from_residual.result c.from_residual.ensures.1 in
    rw p.1 (asked_fault _ _ _ c.checked.ensures _ c.in_err-table.was p.2)

pub returns-then-past : goal.returns-then-past
returns-then-past c =
    asked_none _ _ _ c.checked.ensures c.in_ok-table.was c.rows_in.ensures c.if-past.true
    (refuses c.at.ensures c.in_part.ensures)

pub returns : goal.returns
returns c = asked_there _ _ _ c.checked.ensures c.in_ok-table.was c.rows_in.ensures (omega arith)
