-- The item's, or that of all members. Assumes nothing.
use mathlib.Core.Path.{refl}
use Rattle.reading.specs.Members.{member_row}
use Rattle.reading.proofs.parts.member_row.Goals as goal

pub component_row-requires : goal.component_row-requires
component_row-requires c = c.requires c.if-listed.true

pub returns-then-listed : goal.returns-then-listed
unfolding member_row
returns-then-listed c = rw c.if-listed.true c.component_row.ensures

pub returns-else-listed : goal.returns-else-listed
unfolding member_row
returns-else-listed c = rw c.if-listed.false refl
