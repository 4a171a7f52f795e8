-- ABSENT's, or the row's. Assumes nothing.
use mathlib.Core.Path.{refl}
use borrow.Author.Tests.{eq-eqb, ne_eqb}
use Rattle.reading.proofs.parts.missing_kind.Goals as goal

pub returns-then-mark-eq1 : goal.returns-then-mark-eq1
returns-then-mark-eq1 c = rw (eq-eqb _ 1 c.if-mark-eq1.true) refl

pub returns-else-mark-eq1 : goal.returns-else-mark-eq1
returns-else-mark-eq1 c = rw (ne_eqb _ 1 c.if-mark-eq1.false) c.row_kind.ensures
