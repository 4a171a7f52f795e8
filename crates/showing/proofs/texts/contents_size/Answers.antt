-- A BIT STRING's number counts bits.
-- Assumes nothing.
use Rattle.showing.proofs.TextLaws.{bits_size, other_size}
use Rattle.showing.proofs.texts.contents_size.Goals as goal

pub returns-in-BitString : goal.returns-in-BitString
returns-in-BitString c = bits_size _ _ c.in-BitString.is c.octets.ensures

pub returns-in_default : goal.returns-in_default
returns-in_default c = other_size _ _ c.in_default.not-BitString
