-- The answer of `read_unsigned` is the outcome of `read_unsigned`.
-- Assumes nothing.
use Rattle.std.proofs.lemmas.Result.{err_from_is_err_and}
use Rattle.octets.proofs.Determined.{unsigned_goes, unsigned_stop}
use Rattle.octets.proofs.variable.read_unsigned.Goals as goal

pub unsigned_in-requires : goal.unsigned_in-requires
unsigned_in-requires c = (c.read_run.ensures.went _ c.in_ok-run.was).inside

pub returns-in_err-run : goal.returns-in_err-run
returns-in_err-run c =
    let p = err_from_is_err_and c.from_residual.result c.from_residual.ensures.1 in
    rw (p.1, p.2) (unsigned_stop _ _ _ c.read_run.ensures _ c.in_err-run.was)

pub returns : goal.returns
returns c = unsigned_goes _ _ _ c.read_run.ensures _ c.in_ok-run.was c.unsigned_in.ensures
