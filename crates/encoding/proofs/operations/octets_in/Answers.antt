-- The list's own refusal; else the result's length is compared.
-- Assumes nothing.
use native.Mathlib.Omega.{arith}
use Rattle.std.proofs.lemmas.Result.{err_from_is_err_and}
use Rattle.octets.proofs.Refusing.{refuses}
use Rattle.encoding.proofs.Replying.{in_list, in_long, in_got}
use Rattle.encoding.proofs.operations.octets_in.Goals as goal

pub survey_list-requires : goal.survey_list-requires
survey_list-requires c = (c.requires, λ h. absurd (omega arith))

pub returns-in_err-n : goal.returns-in_err-n
returns-in_err-n c =
    let p = err_from_is_err_and c.from_residual.result c.from_residual.ensures.1 in
    rw (p.1, p.2) (in_list _ _ _ (c.survey_list.ensures.stopped _ c.in_err-n.was))

pub returns-then-n-gt65535 : goal.returns-then-n-gt65535
returns-then-n-gt65535 c =
    in_long _ _ _ (c.survey_list.ensures.went _ c.in_ok-n.was) c.if-n-gt65535.true
    (refuses c.at.ensures c.in_part.ensures)

pub returns : goal.returns
returns c = in_got _ _ _ (c.survey_list.ensures.went _ c.in_ok-n.was) c.if-n-gt65535.false
