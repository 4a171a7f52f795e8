-- The answer of `read_signed` is the outcome of `read_signed`.
-- Assumes nothing.
use Rattle.std.proofs.lemmas.Result.{err_from_is_err_and}
use Rattle.octets.proofs.Determined.{signed_goes, signed_stop}
use Rattle.octets.proofs.variable.read_signed.Goals as goal

pub signed_in-requires : goal.signed_in-requires
signed_in-requires c = (c.read_run.ensures.went _ c.in_ok-run.was).inside

pub returns-in_err-run : goal.returns-in_err-run
returns-in_err-run c =
    let p = err_from_is_err_and c.from_residual.result c.from_residual.ensures.1 in
    rw (p.1, p.2) (signed_stop _ _ _ c.read_run.ensures _ c.in_err-run.was)

pub returns : goal.returns
returns c = signed_goes _ _ _ c.read_run.ensures _ c.in_ok-run.was c.signed_in.ensures
