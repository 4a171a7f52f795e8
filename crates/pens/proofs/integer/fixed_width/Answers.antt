-- The width of the form that the bounds give. Assumes nothing.
use Rattle.pens.proofs.Forms.{width_open, width_unsigned, width_signed, width_below}
use Rattle.pens.proofs.integer.fixed_width.Goals as goal

pub returns-then-not-has_upper : goal.returns-then-not-has_upper
returns-then-not-has_upper c = width_open _ _ _ c.has_upper.ensures c.if-not-has_upper.true

pub returns-then-is_unsigned : goal.returns-then-is_unsigned
returns-then-is_unsigned c =
    width_unsigned _ _ _ c.has_upper.ensures c.if-not-has_upper.false c.is_unsigned.ensures c.if-is_unsigned.true
    c.unsigned_width.ensures

pub returns-then-has_lower : goal.returns-then-has_lower
returns-then-has_lower c =
    width_signed _ _ _ c.has_upper.ensures c.if-not-has_upper.false c.is_unsigned.ensures
    c.if-is_unsigned.false
    c.has_lower.ensures c.if-has_lower.true c.signed_width.ensures

pub returns-else-has_lower : goal.returns-else-has_lower
returns-else-has_lower c =
    width_below _ _ _ c.has_upper.ensures c.if-not-has_upper.false c.is_unsigned.ensures
    c.if-is_unsigned.false
    c.has_lower.ensures c.if-has_lower.false
