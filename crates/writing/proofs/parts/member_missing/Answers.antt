-- A plain member is always carried; another by its node.
-- Assumes nothing.
use borrow.Author.Tests.{eq-eqb, ne_eqb}
use Rattle.writing.proofs.parts.member_missing.Goals as goal

pub returns-then-mark-eq0 : goal.returns-then-mark-eq0
returns-then-mark-eq0 c = rw (eq-eqb _ 0 c.if-mark-eq0.true)

pub component_default-requires : goal.component_default-requires
component_default-requires c = c.requires.1 c.if-mark-eq0.false

pub returns : goal.returns
returns c =
    rw (ne_eqb _ 0 c.if-mark-eq0.false, ← c.row_kind.ensures, ← c.component_default.ensures)
    c.is_missing.ensures
