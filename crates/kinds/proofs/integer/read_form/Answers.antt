-- The answer is that of the form which the bounds give. Assumes nothing.
use Rattle.kinds.proofs.Chosen.{form_unsigned, form_open, form_below, form_above, form_signed}
use Rattle.kinds.proofs.Chosen.{chosen, chosen_unsigned, chosen_signed}
use Rattle.kinds.proofs.integer.read_form.Goals as goal

pub returns-then-has_upper : goal.returns-then-has_upper
returns-then-has_upper c =
    chosen _ _
    (form_unsigned _ _ _ c.is_unsigned.ensures
    c.if-is_unsigned.true c.has_upper.ensures
    c.if-has_upper.true c.unsigned_width.ensures.0) c.fixed_unsigned.ensures

pub returns-then-is_unsigned : goal.returns-then-is_unsigned
returns-then-is_unsigned c =
    chosen_unsigned _ _
    (form_open _ _ _ c.is_unsigned.ensures c.if-is_unsigned.true
    c.has_upper.ensures c.if-has_upper.false) c.read_unsigned.ensures

pub returns-then-not-has_lower : goal.returns-then-not-has_lower
returns-then-not-has_lower c =
    chosen_signed _ _
    (form_below _ _ _ c.is_unsigned.ensures c.if-is_unsigned.false
    c.has_lower.ensures c.if-not-has_lower.true) c.read_signed.ensures

pub returns-then-not-has_upper : goal.returns-then-not-has_upper
returns-then-not-has_upper c =
    chosen_signed _ _
    (form_above _ _ _ c.is_unsigned.ensures
    c.if-is_unsigned.false c.has_lower.ensures
    c.if-not-has_lower.false c.has_upper-2.ensures
    c.if-not-has_upper.true) c.read_signed-then-not-has_upper.ensures

pub returns : goal.returns
returns c =
    chosen _ _
    (form_signed _ _ _ c.is_unsigned.ensures
    c.if-is_unsigned.false
    c.has_lower.ensures
    c.if-not-has_lower.false c.has_upper-2.ensures
    c.if-not-has_upper.false c.signed_width.ensures.0) c.fixed_signed.ensures
