-- A component that is carried is compared with its DEFAULT, unless it is OPTIONAL.
-- Assumes nothing.
use Rattle.reading.proofs.Marks.{checked_optional, checked_equal, checked_other}
use Rattle.reading.proofs.parts.check_default.Goals as goal

pub returns-then-mark-eq1 : goal.returns-then-mark-eq1
returns-then-mark-eq1 c = checked_optional _ _ _ _ c.if-mark-eq1.true

pub returns-then-c-default : goal.returns-then-c-default
returns-then-c-default c = checked_equal _ _ _ _ c.if-mark-eq1.false c.if-c-default.true c.at.ensures

pub returns : goal.returns
returns c = checked_other _ _ _ _ c.if-mark-eq1.false c.if-c-default.false
