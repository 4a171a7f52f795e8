-- The measuring of crate `writing`, its equation by cases.
-- Assumes nothing.
use Rattle.oer.proofs.ContractLaws.{measure_iff}
use Rattle.oer.proofs.operations.measure.Goals as goal

pub returns : goal.returns
returns c = (measure_iff _ _ _ _ _ _).1 c.measure.ensures
