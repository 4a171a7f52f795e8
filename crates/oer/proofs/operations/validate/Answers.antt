-- The validation of crate `reading`, its equation by cases.
-- Assumes nothing.
use Rattle.oer.proofs.ContractLaws.{validate_iff}
use Rattle.oer.proofs.operations.validate.Goals as goal

pub returns : goal.returns
returns c = (validate_iff _ _ _ _ _).1 c.validate.ensures
