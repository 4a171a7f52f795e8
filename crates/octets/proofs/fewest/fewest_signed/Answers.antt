-- The fewest octets of a word in two's complement are those of twice its magnitude.
-- Assumes nothing.
use Rattle.octets.proofs.Few.{signed_from}
use Rattle.octets.proofs.fewest.fewest_signed.Goals as goal

pub returns : goal.returns
returns c =
    let e = c.fewest_unsigned.ensures in
    (signed_from _ _ _ c.magnitude_of.ensures.0 e.0, e.1, e.2)
