-- Numbers as digits of w bits, the top digit first: bits of a bitmap (w = 1), groups of a tag number (w = 7),
-- octets (w = 8). Clause 8.6.5 ("variable-size unsigned number"), 8.7.2.3 b and 16.2.3 all write a number so.
-- Assumes nothing.
use Rattle.std.specs.Prelude.{List, [], ◌∷◌, ℕ, zero, suc, ◌+◌, ◌*◌, ◌^◌, ◌/◌, ◌%◌, ◌<◌, length}

-- the k lowest digits of n
unfoldable pub digits : (w k n : ℕ) → List ℕ
digits w zero n = []
digits w (suc k) n = n / 2 ^ (w * k) % 2 ^ w ∷ digits w k n

-- the number that has these digits
unfoldable pub from_digits : (w : ℕ) → List ℕ → ℕ
from_digits w [] = 0
from_digits w (d ∷ ds) = d * 2 ^ (w * length ds) + from_digits w ds

-- each digit is one of w bits; `Below 8 s` says that s is a list of octets, `Below 64 s` one of words
abbrev pub Below : ℕ → List ℕ → Type 0
Below w [] = Unit {0}
Below w (d ∷ ds) = (d < 2 ^ w) × Below w ds
