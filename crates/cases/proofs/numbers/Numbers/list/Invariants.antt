-- What is left is an end of the text. Invariant: it is at each turn.
-- Assumes nothing.
use Rattle.cases.specs.Ends.{IsEndOf}
use Rattle.cases.proofs.numbers.Numbers.list.Given as goal

abbrev pub invariant-loop-place : goal.invariant-loop-place
invariant-loop-place g l = IsEndOf l.self.left.now l.fn.self.left.now
