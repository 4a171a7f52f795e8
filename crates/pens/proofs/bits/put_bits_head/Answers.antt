-- Nothing, or the determinant and the unused-bits octet. Assumes nothing.
use Rattle.pens.proofs.Strings.{bits_fixed, bits_counted}
use Rattle.pens.proofs.bits.put_bits_head.Goals as goal

pub returns-then-is_fixed : goal.returns-then-is_fixed
returns-then-is_fixed c = bits_fixed _ _ _ _ c.is_fixed.ensures c.if-is_fixed.true

pub returns : goal.returns
returns c =
    bits_counted _ _ _ _ c.is_fixed.ensures c.if-is_fixed.false
    c.octets-filled.ensures c.unused.ensures
    c.put_length-next.ensures
    c.put.ensures
