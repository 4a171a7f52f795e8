-- Presence bits by position (16.2.3): bit b of a preamble stands in octet b / 8, the top bit first.
-- Assumes nothing.
use Rattle.std.specs.Prelude.{Bool, cond, List, ℕ, ◌+◌, ◌*◌, ◌-◌, ◌/◌, ◌%◌, ◌^◌, get_or, set}

-- bit b of the preamble that begins at pre
unfoldable pub bit_at : (octets : List ℕ) → (pre b : ℕ) → ℕ
bit_at s pre b = get_or s (pre + b / 8) 0 / 2 ^ (7 - b % 8) % 2

-- an octet with its bit j, from the top, set or cleared
unfoldable pub with_bit : (octet j : ℕ) → (set : Bool) → ℕ
with_bit o j x = o - o / 2 ^ (7 - j) % 2 * 2 ^ (7 - j) + cond x (2 ^ (7 - j)) 0

-- octets with bit b of the preamble that begins at pre set or cleared, and nothing else changed
unfoldable pub set_bit : (octets : List ℕ) → (pre b : ℕ) → (set : Bool) → List ℕ
set_bit s pre b x = set s (pre + b / 8) (with_bit (get_or s (pre + b / 8) 0) (b % 8) x)
