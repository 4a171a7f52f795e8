-- The unused bits of the last octet are those that n presence bits leave.
-- Assumes nothing.
use native.Mathlib.Nat.{mul_comm}
use Rattle.reading.proofs.parts.is_padded.Goals as goal

pub returns : goal.returns
returns c = rw (mul_comm 8) c.low_bits_clear.ensures
