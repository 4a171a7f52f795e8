-- The item's, or that of all members. Assumes nothing.
use mathlib.Core.Path.{refl}
use Rattle.reading.specs.Members.{member_mark}
use Rattle.reading.proofs.parts.member_mark.Goals as goal

pub component_mark-requires : goal.component_mark-requires
component_mark-requires c = c.requires c.if-listed.true

pub returns-then-listed : goal.returns-then-listed
unfolding member_mark
returns-then-listed c = rw c.if-listed.true c.component_mark.ensures

pub returns-else-listed : goal.returns-else-listed
unfolding member_mark
returns-else-listed c = rw c.if-listed.false refl
