-- The edit of crate `editing`, its equations by cases.
-- Assumes nothing.
use Rattle.oer.proofs.ContractLaws.{edit_iff}
use Rattle.oer.proofs.operations.edit.Goals as goal

pub returns : goal.returns
returns c =
    let d = c.edit.ensures in
    (edit_iff _ _ _ _ _ _ _ _ _ _).1 (d.reply, d.stored)
