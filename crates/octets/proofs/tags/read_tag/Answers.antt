-- `read_tag` meets its contract: no octet, a number below 63 in it, or the groups after it.
-- Assumes nothing.
use mathlib.Core.Path.{refl}
use Rattle.octets.proofs.Tagging.{tag_past, tag_short, tag_long}
use Rattle.octets.proofs.tags.read_tag.Goals as goal

pub returns-then-msg-at : goal.returns-then-msg-at
returns-then-msg-at c = tag_past _ _ _ c.if-msg-at.true c.at.ensures

pub returns-then-x-lt63 : goal.returns-then-x-lt63
returns-then-x-lt63 c = tag_short _ _ _ _ c.if-msg-at.false c.octet-x.ensures.0 c.if-x-lt63.true refl

pub returns : goal.returns
returns c = tag_long _ _ _ _ c.if-msg-at.false c.octet-x.ensures.0 c.if-x-lt63.false c.long_tag.ensures
