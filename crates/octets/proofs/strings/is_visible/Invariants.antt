-- Whether n octets are characters 32 to 126.
-- The loop's invariant: all are visible exactly if the least and the greatest so far are, and the octets that are left.
-- Assumes nothing.
use Rattle.octets.proofs.Visible.{VisibleFrom}
use Rattle.octets.proofs.strings.is_visible.Given as goal

abbrev pub invariant-loop-x : goal.invariant-loop-x
invariant-loop-x l = VisibleFrom l.x-items l.x-index l.low l.high
