-- `long_tag` meets its contract: one law for each `return`. Invariant: the octets from `start` to `i` are groups, each
-- with another one after it, and `n` is their number, capped (`Grouped`).
-- Assumes nothing.
use Rattle.octets.proofs.Groups.{Grouped}
use Rattle.octets.proofs.tags.long_tag.Given as goal

abbrev pub invariant-loop-i : goal.invariant-loop-i
invariant-loop-i l = Grouped l.msg l.start l.i l.n
