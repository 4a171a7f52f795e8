-- The check of crate `table`, its equation by cases.
-- Assumes nothing.
use Rattle.oer.proofs.ContractLaws.{check_iff}
use Rattle.oer.proofs.operations.check.Goals as goal

pub returns : goal.returns
returns c = (check_iff _ _ _).1 c.check.ensures
