-- No octets, or 11. Assumes nothing.
use mathlib.Core.Path.{refl}
use borrow.Author.Tests.{eq-eqb, ne_eqb}
use Rattle.pens.proofs.Numbers.{null_checked, misformed, goes, stored_none}
use Rattle.pens.proofs.plain.write_null.Goals as goal

pub returns-then-n-ne0 : goal.returns-then-n-ne0
returns-then-n-ne0 c = λ l. misformed (null_checked _) (ne_eqb _ 0 c.if-n-ne0.true)

pub returns : goal.returns
returns c = λ l. goes (null_checked _) (eq-eqb _ 0 c.if-n-ne0.false) refl refl stored_none
