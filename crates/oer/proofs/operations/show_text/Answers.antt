-- The showing of crate `finding`, its equation by cases.
-- Assumes nothing.
use Rattle.oer.proofs.ContractLaws.{text_iff}
use Rattle.oer.proofs.operations.show_text.Goals as goal

pub returns : goal.returns
returns c = (text_iff _ _ _ _ _ _ _).1 c.show_text.ensures
