-- Clauses 12.2 and 12.3, REAL as IEEE 754 binary32 or binary64: the bits, big end first. 0 and -0 differ.
-- House rule, since X.696 gives none: the one NaN is 7FC00000 or 7FF8000000000000.
-- Real by DER contents (12.4) is not built. Assumes nothing.
use Rattle.std.specs.Prelude.{Bool, ◌||◌, ℕ, ◌^◌, ◌%◌, leb, eqb}

pub data Precision : Type 0 where
  binary32 binary64 : Precision

unfoldable pub real_octets : Precision → ℕ
real_octets binary32 = 4
real_octets binary64 = 8

-- no NaN, or the one that is written
unfoldable pub real_allowed : Precision → (bits : ℕ) → Bool
real_allowed binary32 n = leb (n % 2 ^ 31) 0x7F800000 || eqb n 0x7FC00000
real_allowed binary64 n = leb (n % 2 ^ 63) 0x7FF0000000000000 || eqb n 0x7FF8000000000000
