-- No mark, or the presence bit. Assumes nothing.
use Rattle.reading.proofs.OneMember.{bit_plain, bit_marked}
use Rattle.reading.proofs.parts.is_missing.Goals as goal

pub returns-then-mark-eq0 : goal.returns-then-mark-eq0
returns-then-mark-eq0 c = bit_plain _ _ c.if-mark-eq0.true

pub is_present-requires : goal.is_present-requires
is_present-requires c = c.requires c.if-mark-eq0.false

pub returns : goal.returns
returns c = bit_marked _ c.if-mark-eq0.false c.is_present.ensures
