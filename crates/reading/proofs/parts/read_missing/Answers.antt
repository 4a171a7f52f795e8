-- A component that is not carried is one node, if there may be one more.
-- Assumes nothing.
use mathlib.Core.Path.{refl}
use Rattle.reading.proofs.Marks.{ran_over, ran_missing}
use Rattle.reading.proofs.parts.read_missing.Goals as goal

pub returns-then-count-ge4096 : goal.returns-then-count-ge4096
returns-then-count-ge4096 c b = ran_over _ _ _ _ c.if-count-ge4096.true c.requires c.at.ensures

pub returns : goal.returns
returns c b = ran_missing _ _ _ _ _ c.if-count-ge4096.false c.requires c.put_node.ensures refl
