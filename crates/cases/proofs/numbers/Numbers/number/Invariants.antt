-- Safe, and ends one octet further at least where there is one. Invariant: what is left is an end of the text. Measure: the octets
-- left.
-- Assumes nothing.
use Rattle.std.proofs.Common.{length}
use Rattle.cases.specs.Ends.{IsEndOf}
use Rattle.cases.proofs.numbers.Numbers.number.Given as goal

abbrev pub invariant-loop-octet : goal.invariant-loop-octet
invariant-loop-octet l = IsEndOf l.self.left.now l.initial.self.left.now

abbrev pub decreases-loop-octet : goal.decreases-loop-octet
decreases-loop-octet l = length l.self.left.now
