-- Bits in whole octets: they fill octets from the top, and the bits left unused are 0 (13.2.2, 13.3.3, 16.2.3, 16.2.4).
-- The preamble of a SEQUENCE (16.2) is its presence bits so; it is empty where there are none.
-- Assumes nothing.
use Rattle.std.specs.Prelude.{Bool, List, ℕ, ◌+◌, ◌*◌, ◌^◌, ◌/◌, ◌%◌, ◌-◌, eqb}
use Rattle.x696.specs.Outcome.{Outcome, got, next, must}
use Rattle.x696.specs.Digits.{digits, from_digits}
use Rattle.x696.specs.Length.{run}

-- the octets that n bits fill, and the bits of the last one that they leave unused
abbrev pub bit_octets : (bits : ℕ) → ℕ
bit_octets n = (n + 7) / 8

abbrev pub unused_bits : (bits : ℕ) → ℕ
unused_bits n = 8 * bit_octets n - n

-- whether the lowest u bits of these octets are 0
unfoldable pub low_bits_clear : (u : ℕ) → List ℕ → Bool
low_bits_clear u os = eqb (from_digits 8 os % 2 ^ u) 0

-- n presence bits as octets (16.2.3, 16.2.4)
unfoldable pub preamble : (n : ℕ) → (presence : List ℕ) → List ℕ
preamble n bits = digits 8 (bit_octets n) (from_digits 1 bits * 2 ^ unused_bits n)

unfoldable pub read_preamble : (n p : ℕ) → List ℕ → Outcome (List ℕ) (List ℕ)
read_preamble n p s =
    next (run p (bit_octets n) s) λ os r.
    -- the unused bits are 0 (16.2.4)
    must (low_bits_clear (unused_bits n) os) 6 p (got (digits 1 n (from_digits 8 os / 2 ^ unused_bits n)) r)
