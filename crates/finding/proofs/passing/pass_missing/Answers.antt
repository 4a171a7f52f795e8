-- A component that is not carried is one node more, or one too many.
-- Assumes nothing.
use mathlib.Core.Path.{refl}
use native.Mathlib.Numerals.{add-one}
use Rattle.finding.proofs.Parts.{left_over_lem, left_counted}
use Rattle.finding.proofs.passing.pass_missing.Goals as goal

pub returns-then-count-ge4096 : goal.returns-then-count-ge4096
returns-then-count-ge4096 c = left_over_lem _ _ _ c.if-count-ge4096.true c.at.ensures

pub returns : goal.returns
returns c =
    left_counted _ _ _ c.if-count-ge4096.false (rw (add-one c.args.count) refl)
