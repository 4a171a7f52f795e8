-- Presence bits counted from the last component on. Invariant: `CountedFrom`, those from i on are counted.
-- Assumes nothing.
use native.Mathlib.Omega.{arith}
use Rattle.reading.proofs.Marks.{counted_none, counted_one, counted_all}
use Rattle.reading.proofs.parts.count_marked.Goals as goal

pub loop-i-init : goal.loop-i-init
loop-i-init c = counted_none _ _ _

pub overflow_add-first : goal.overflow_add-first
overflow_add-first c = omega arith

pub is_marked-sum-requires : goal.is_marked-sum-requires
is_marked-sum-requires c = omega arith

pub overflow_add-sum : goal.overflow_add-sum
overflow_add-sum c = omega arith

pub loop-i-preserved : goal.loop-i-preserved
loop-i-preserved c = counted_one _ _ _ c.loop-i.invariant (omega arith) c.is_marked-sum.ensures.0 c.is_marked-sum.ensures.1

pub returns : goal.returns
returns c = counted_all _ _ _ c.loop-i.invariant (omega arith)
