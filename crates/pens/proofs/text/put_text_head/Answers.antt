-- Nothing, or the determinant. Assumes nothing.
use Rattle.pens.proofs.Strings.{text_fixed, text_counted}
use Rattle.pens.proofs.text.put_text_head.Goals as goal

pub returns-then-is_fixed : goal.returns-then-is_fixed
returns-then-is_fixed c = text_fixed _ _ _ _ c.is_fixed.ensures c.if-is_fixed.true

pub returns : goal.returns
returns c =
    text_counted _ _ _ _ c.is_fixed.ensures
    c.if-is_fixed.false c.put_length.ensures
