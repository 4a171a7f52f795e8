-- The encoding of crate `writing`, its equations by cases.
-- Assumes nothing.
use Rattle.oer.proofs.ContractLaws.{encode_iff}
use Rattle.oer.proofs.operations.encode.Goals as goal

pub returns : goal.returns
returns c =
    let d = c.encode.ensures in
    (encode_iff _ _ _ _ _ _ _ _).1 (d.reply, d.stored)
