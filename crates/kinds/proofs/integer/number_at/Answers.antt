-- The number of k octets: one, two, or as many as there are. Assumes nothing.
use Prim.Native.Nat.{◌+◌}
use native.Mathlib.Omega.{arith}
use Rattle.kinds.proofs.Fixed.{number_one, number_two}
use Rattle.kinds.proofs.integer.number_at.Goals as goal

pub overflow_cast-result : goal.overflow_cast-result
overflow_cast-result c = omega (arith, c.type_inv.msg c.args.at)

pub returns-then-k-eq1 : goal.returns-then-k-eq1
returns-then-k-eq1 c = (
  number_one _ _ _ c.requires.1 c.if-k-eq1.true,
  rw c.if-k-eq1.true (omega (
    arith,
    c.type_inv.msg c.args.at,
  )),
)

pub overflow_cast-result-then-k-eq2 : goal.overflow_cast-result-then-k-eq2
overflow_cast-result-then-k-eq2 c = omega (arith, c.type_inv.msg c.args.at)

pub overflow_mul-result : goal.overflow_mul-result
overflow_mul-result c = omega (arith, c.type_inv.msg c.args.at)

pub overflow_cast-result-then-k-eq2-2 : goal.overflow_cast-result-then-k-eq2-2
overflow_cast-result-then-k-eq2-2 c = omega (arith, c.type_inv.msg (c.args.at + 1))

pub overflow_add-result-then-k-eq2 : goal.overflow_add-result-then-k-eq2
overflow_add-result-then-k-eq2 c =
    omega (
      arith,
      c.type_inv.msg (c.args.at + 1),
      c.type_inv.msg
          c.args.at,
    )

pub returns-then-k-eq2 : goal.returns-then-k-eq2
returns-then-k-eq2 c = (
  number_two _ _ _ c.requires.1 c.if-k-eq2.true,
  rw c.if-k-eq2.true (omega (
    arith,
    c.type_inv.msg (c.args.at + 1),
    c.type_inv.msg c.args.at,
  )),
)
