-- `is_present` meets its contract: the bit by its weight.
-- Assumes nothing.
use Rattle.octets.specs.Presence.{bit_at}
use Rattle.octets.proofs.presence.is_present.Goals as goal

pub returns : goal.returns
returns c = unfold bit_at in rw (c.octet.ensures.0, c.weight.ensures.0)
