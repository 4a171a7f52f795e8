-- The decoding of crate `reading`, its equations by cases.
-- Assumes nothing.
use Rattle.oer.proofs.ContractLaws.{decode_iff}
use Rattle.oer.proofs.operations.decode.Goals as goal

pub returns : goal.returns
returns c =
    let d = c.decode.ensures in
    (decode_iff _ _ _ _ _ _ _ _ _).1 (d.reply, d.listed, d.copied)
