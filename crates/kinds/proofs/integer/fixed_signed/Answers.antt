-- The octets are there, and are extended, or are not. Assumes nothing.
use mathlib.Core.Path.{refl}
use Rattle.kinds.proofs.Fixed.{signed_lacks, signed_there}
use Rattle.kinds.proofs.integer.fixed_signed.Goals as goal

pub returns-then-msg-at : goal.returns-then-msg-at
returns-then-msg-at c = signed_lacks _ _ _ c.requires.0 c.if-msg-at.true c.at.ensures

pub returns : goal.returns
returns c =
    signed_there _ _ _ c.requires.0 c.if-msg-at.false
    c.number_at.ensures.0 c.sign_extend.ensures refl
