-- Presence bits counted from the last component on. Invariant: `CountedFrom`, those from i on are counted.
-- Assumes nothing.
use Rattle.reading.proofs.Marks.{CountedFrom}
use Rattle.reading.proofs.parts.count_marked.Given as goal

abbrev pub invariant-loop-i : goal.invariant-loop-i
invariant-loop-i l = CountedFrom l.items l.first l.n l.i l.sum
