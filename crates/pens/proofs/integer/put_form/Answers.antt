-- The octets of the form that the bounds give. Assumes nothing.
use Rattle.pens.proofs.Forms.{puts_fixed, puts_unsigned, puts_signed}
use Rattle.pens.proofs.integer.put_form.Goals as goal

pub returns-then-k-ne0 : goal.returns-then-k-ne0
returns-then-k-ne0 c =
    puts_fixed _ _ _ _ c.fixed_width-k.ensures
    c.if-k-ne0.true c.put_number.ensures

pub returns-then-is_unsigned : goal.returns-then-is_unsigned
returns-then-is_unsigned c =
    puts_unsigned _ _ _ _ c.fixed_width-k.ensures
    c.if-k-ne0.false
    c.is_unsigned.ensures c.if-is_unsigned.true
    c.put_unsigned.ensures

pub returns-else-is_unsigned : goal.returns-else-is_unsigned
returns-else-is_unsigned c =
    puts_signed _ _ _ _ c.fixed_width-k.ensures
    c.if-k-ne0.false
    c.is_unsigned.ensures c.if-is_unsigned.false
    c.put_signed.ensures
