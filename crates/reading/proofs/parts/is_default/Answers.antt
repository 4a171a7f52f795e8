-- Another mark than DEFAULT, or the number. Assumes nothing.
use Rattle.reading.proofs.OneMember.{default_other, default_two}
use Rattle.reading.proofs.parts.is_default.Goals as goal

pub returns-then-mark-ne2 : goal.returns-then-mark-ne2
returns-then-mark-ne2 c = default_other _ _ c.if-mark-ne2.true

pub component_default-requires : goal.component_default-requires
component_default-requires c = c.requires c.if-mark-ne2.false

pub returns : goal.returns
returns c = default_two _ _ c.if-mark-ne2.false c.component_default.ensures
