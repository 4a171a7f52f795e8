-- `low_bits_clear` meets its contract: up to seven bits stand in the last octet.
-- Assumes nothing.
use Rattle.octets.proofs.Weights.{clear_none, clear_last}
use Rattle.octets.proofs.presence.low_bits_clear.Goals as goal

pub returns-then-u-eq0 : goal.returns-then-u-eq0
returns-then-u-eq0 c = clear_none _ c.if-u-eq0.true

pub returns : goal.returns
returns c =
    clear_last _ _ _ _ _ _ c.requires.0 c.requires.1 c.requires.2 c.if-u-eq0.false
    c.octet.ensures.0 c.weight.ensures.0
