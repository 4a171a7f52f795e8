-- The octets are there, or are not. Assumes nothing.
use mathlib.Core.Path.{refl}
use Rattle.kinds.proofs.Fixed.{unsigned_lacks, unsigned_there}
use Rattle.kinds.proofs.integer.fixed_unsigned.Goals as goal

pub returns-then-msg-at : goal.returns-then-msg-at
returns-then-msg-at c = unsigned_lacks _ _ _ c.requires.0 c.if-msg-at.true c.at.ensures

pub returns : goal.returns
returns c =
    unsigned_there _ _ _ c.requires.0 c.if-msg-at.false
    c.number_at.ensures.0 refl
