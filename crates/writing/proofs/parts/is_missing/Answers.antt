-- The node of a component that is not carried, told by the component's mark.
-- Assumes nothing.
use Rattle.writing.proofs.Missing
use Rattle.writing.proofs.parts.is_missing.Goals as goal

pub returns-then-nodes-at : goal.returns-then-nodes-at
returns-then-nodes-at c = Missing.test_lacks _ _ _ _ _ c.if-nodes-at.true

pub returns-then-mark-eq1 : goal.returns-then-mark-eq1
returns-then-mark-eq1 c = Missing.test_absent _ _ _ _ _ c.if-nodes-at.false c.if-mark-eq1.true c.is_node.ensures

pub returns : goal.returns
returns c = Missing.test_default _ _ _ _ _ c.if-nodes-at.false c.if-mark-eq1.false c.is_node-2.ensures
