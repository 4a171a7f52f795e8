-- The number of k octets, read big end first.
-- The loop's invariant: v is the number of the first i octets, below 2 ^ (8 * i).
-- Assumes nothing.
use mathlib.Core.Path.{refl}
use native.Mathlib.Omega.{arith}
use Rattle.x696.specs.Digits.{from_digits}
use Rattle.octets.proofs.BigEnd.{read_more, more_below, below_seven}
use Rattle.octets.proofs.numbers.read_number.Goals as goal

pub loop-i-init : goal.loop-i-init
loop-i-init c = (unfold from_digits in refl, omega arith)

pub overflow_mul-v : goal.overflow_mul-v
overflow_mul-v c = let l = c.loop-i in omega (arith, below_seven l.v l.i (omega arith) l.invariant.1)

pub overflow_add-v : goal.overflow_add-v
overflow_add-v c =
    let l = c.loop-i in
    omega (arith, c.octet.ensures.1, below_seven l.v l.i (omega arith) l.invariant.1)

pub loop-i-preserved : goal.loop-i-preserved
loop-i-preserved c =
    let l = c.loop-i in
    let a = c.args in
    let o = c.octet.ensures in
    (read_more a.msg.now a.start l.i _ _ (omega arith) l.invariant.0 o.0, more_below _ _ l.i l.invariant.1 o.1)
