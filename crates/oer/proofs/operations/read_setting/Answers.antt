-- The reading of crate `finding`, its equation by cases.
-- Assumes nothing.
use Rattle.oer.proofs.ContractLaws.{setting_iff}
use Rattle.oer.proofs.operations.read_setting.Goals as goal

pub returns : goal.returns
returns c = (setting_iff _ _ _ _ _ _).1 c.read_setting.ensures
