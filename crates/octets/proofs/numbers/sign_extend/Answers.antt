-- The word that k octets stand for in two's complement: their number, with the sign added from half of 2 ^ (8 * k) on.
-- Assumes nothing.
use Rattle.octets.proofs.BigEnd.{word_plus, word_minus}
use Prim.Native.Nat.{◌*◌}
use lib.Pow.{pow_mono}
use native.Mathlib.Omega.{arith}
use Rattle.octets.proofs.numbers.sign_extend.Goals as goal

pub returns-then-m-half : goal.returns-then-m-half
returns-then-m-half c = word_plus _ _ _ c.half_of-half.ensures c.if-m-half.true

pub returns-else-m-half : goal.returns-else-m-half
returns-else-m-half c = word_minus _ _ _ c.half_of-half.ensures (pow_mono {i = 8 * c.args.k} {j = 64} (omega arith)) c.if-m-half.false
