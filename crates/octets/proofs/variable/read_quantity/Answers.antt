-- The answer of `read_quantity` is the outcome of `read_unsigned`, as a quantity.
-- Assumes nothing.
use Rattle.std.proofs.lemmas.Result.{err_from_is_err_and}
use Rattle.octets.proofs.Answered.{quantity_fault, quantity_found}
use Rattle.octets.proofs.variable.read_quantity.Goals as goal

pub returns-in_err-n : goal.returns-in_err-n
returns-in_err-n c =
    let p = err_from_is_err_and c.from_residual.result c.from_residual.ensures.1 in
    rw (p.1, p.2) (quantity_fault c.read_unsigned.ensures _ c.in_err-n.was)

pub returns : goal.returns
returns c = quantity_found c.read_unsigned.ensures _ c.in_ok-n.was
