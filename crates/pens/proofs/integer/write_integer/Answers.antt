-- The number where the bounds allow it, else 7. Assumes nothing.
use mathlib.Core.Path.{refl}
use Rattle.pens.proofs.Numbers.{integer_checked, unallowed, goes}
use Rattle.pens.proofs.integer.write_integer.Goals as goal

pub returns-then-not-allows : goal.returns-then-not-allows
returns-then-not-allows c = unallowed (integer_checked _ _ _ _) refl c.allows.ensures c.if-not-allows.true

pub returns : goal.returns
returns c =
    goes (integer_checked _ _ _ _) refl c.allows.ensures
    c.if-not-allows.false c.put_form.ensures
