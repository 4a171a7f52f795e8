-- The answer of `bits_in` is the outcome of `bits_in`, in a message.
-- Assumes nothing.
use mathlib.Core.Path.{refl}
use native.Mathlib.Omega.{arith}
use Rattle.kinds.proofs.Ran.{ran_refused}
use Rattle.kinds.proofs.BitRuns.{bits_none, bits_wide, bits_lone, bits_unclear, bits_unsized, bits_go}
use Rattle.kinds.proofs.bits.bits_in.Goals as goal

pub returns-then-n-eq0 : goal.returns-then-n-eq0
returns-then-n-eq0 c = ran_refused (bits_none _ _ _ _ _ _ _ _ c.if-n-eq0.true) c.at.ensures

pub returns-then-unused-gt7 : goal.returns-then-unused-gt7
returns-then-unused-gt7 c =
    ran_refused (bits_wide _ _ _ _ _ _ _ _ c.if-n-eq0.false
    c.requires.2 c.octet-unused.ensures.0
    c.if-unused-gt7.true) c.at-then-unused-gt7.ensures

pub overflow_mul-k : goal.overflow_mul-k
overflow_mul-k c = omega (arith, c.requires)

pub returns-then-k-unused : goal.returns-then-k-unused
returns-then-k-unused c =
    ran_refused (bits_lone _ _ _ _ _ _ _ _ c.if-n-eq0.false
    c.requires.2
    c.octet-unused.ensures.0 c.if-unused-gt7.false c.if-k-unused.true)
    c.at-then-k-unused.ensures

pub returns-then-not-low_bits_clear : goal.returns-then-not-low_bits_clear
returns-then-not-low_bits_clear c =
    ran_refused (bits_unclear _ _ _ _ _ _ _ _ c.if-n-eq0.false
    c.requires.2 c.octet-unused.ensures.0
    c.if-unused-gt7.false c.if-k-unused.false
    c.low_bits_clear.ensures c.if-not-low_bits_clear.true) c.at-then-not-low_bits_clear.ensures

pub overflow_mul-size : goal.overflow_mul-size
overflow_mul-size c = omega (arith, c.requires)

pub returns-then-not-allows_size : goal.returns-then-not-allows_size
returns-then-not-allows_size c =
    ran_refused (bits_unsized _ _ _ _ _ _ _ _ c.if-n-eq0.false c.requires.2
    c.octet-unused.ensures.0
    c.if-unused-gt7.false
    c.if-k-unused.false c.low_bits_clear.ensures
    c.if-not-low_bits_clear.false c.allows_size.ensures
    c.if-not-allows_size.true) c.at-then-not-allows_size.ensures

pub returns : goal.returns
returns c =
    bits_go _ _ _ _ _ _ _ _ c.if-n-eq0.false c.requires.2
    c.octet-unused.ensures.0
    c.if-unused-gt7.false
    c.if-k-unused.false
    c.low_bits_clear.ensures c.if-not-low_bits_clear.false
    c.allows_size.ensures c.requires.1
    c.if-not-allows_size.false (rw c.number.ensures at c.put_node.ensures)
    c.copy.ensures refl
