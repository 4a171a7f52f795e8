-- A search by halving: the middle is what is sought, or what is sought lies behind it, or before it. Assumes nothing.
use Rattle.std.proofs.Common.{arith}
use Rattle.table.proofs.Halving.{between_all, between_none, equal_is, greater_left, found_at, between_upper, between_lower}
use Rattle.table.proofs.search.find_by.Goals as goal

pub loop-low-init : goal.loop-low-init
loop-low-init g c = between_all _ _

pub returns-then-is_eq : goal.returns-then-is_eq
returns-then-is_eq g c =
    found_at _ _ c.loop-low.invariant _ (omega arith) (omega arith) c.compare-order.ensures (equal_is _ c.is_eq.ensures c.if-is_eq.true)

pub loop-low-preserved-in-Less : goal.loop-low-preserved-in-Less
loop-low-preserved-in-Less g c =
    between_upper _ _ c.loop-low.invariant _ (omega arith) (omega arith) c.compare-order.ensures c.in-Less.is

pub loop-low-preserved : goal.loop-low-preserved
loop-low-preserved g c =
    between_lower _ _ c.loop-low.invariant _ (omega arith) (omega arith) c.compare-order.ensures
    (greater_left _ c.is_eq.ensures c.if-is_eq.false c.in_default.not-Less)

pub returns : goal.returns
returns g c = between_none _ _ c.loop-low.invariant c.loop-low-test.false
