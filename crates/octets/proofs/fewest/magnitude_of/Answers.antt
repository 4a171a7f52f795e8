-- A word's magnitude: the word, or its complement.
-- Assumes nothing.
use native.Mathlib.Omega.{arith}
use Rattle.octets.proofs.Few.{magnitude_low, magnitude_high}
use Rattle.octets.proofs.fewest.magnitude_of.Goals as goal

pub returns-then-w-lt9223372036854775808 : goal.returns-then-w-lt9223372036854775808
returns-then-w-lt9223372036854775808 c = (magnitude_low _ c.if-w-lt9223372036854775808.true, omega arith)

pub returns-else-w-lt9223372036854775808 : goal.returns-else-w-lt9223372036854775808
returns-else-w-lt9223372036854775808 c = (magnitude_high _ c.if-w-lt9223372036854775808.false, omega arith)
