-- The octet of a truth value, or 11. Assumes nothing.
use mathlib.Core.Path.{refl}
use Rattle.pens.proofs.Numbers.{boolean_checked, formed, unformed, misformed, goes, stored_octet}
use Rattle.pens.proofs.plain.write_boolean.Goals as goal

pub returns-then-n-gt1 : goal.returns-then-n-gt1
returns-then-n-gt1 c = misformed (boolean_checked _) (unformed c.if-n-gt1.true)

pub returns : goal.returns
returns c =
    goes (boolean_checked _) (formed c.if-n-gt1.false) refl refl (stored_octet
    c.put.ensures)
