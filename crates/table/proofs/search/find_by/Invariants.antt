-- Invariant: `Between`, places below `low` compare less and those from `high` on greater. Measure: how far `high` lies from `low`.
use Rattle.std.proofs.Common.{◌-◌}
use Rattle.table.proofs.Halving.{Between}
use Rattle.table.proofs.search.find_by.Given as goal

abbrev pub invariant-loop-low : goal.invariant-loop-low
invariant-loop-low g l = Between (λ i o. goal.F-post g l.fn.compare i o) l.n l.low l.high

abbrev pub decreases-loop-low : goal.decreases-loop-low
decreases-loop-low g l = l.high - l.low
