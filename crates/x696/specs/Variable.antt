-- Clauses 10.3 e, 10.4 e and 17.2: a length determinant and a number in its fewest octets (31.4, 31.7), at least one.
-- Narrower than X.696: numbers stop at 64 bits (8, WIDE). Order of refusals: the determinant's, 5, 6, 8.
-- The quantity of a SEQUENCE OF (17.2) is written as a variable-size unsigned number. Assumes nothing.
use Rattle.std.specs.Prelude.{List, ◌++◌, ℕ, length, ltb, leb}
use Rattle.x696.specs.Outcome.{Outcome, got, next, must}
use Rattle.x696.specs.Digits.{from_digits}
use Rattle.x696.specs.Fewest.{fewest, unsigned_octets, is_fewest, fewest_signed, signed_octets, is_fewest_signed}
use Rattle.x696.specs.Fewest.{signed_word}
use Rattle.x696.specs.Length.{length_octets, read_run}

unfoldable pub variable_unsigned : ℕ → List ℕ
variable_unsigned n = length_octets (fewest 8 n) ++ unsigned_octets n

unfoldable pub read_unsigned : (p : ℕ) → List ℕ → Outcome (List ℕ) ℕ
read_unsigned p s =
    next (read_run p s) λ os r.
    -- at least one octet
    must (ltb 0 (length os)) 6 p
    -- the smallest number of octets (31.4, 31.7)
    (must (is_fewest 8 os) 6 p
    -- house limit: 64 bits
    (must (leb (length os) 8) 8 p (got (from_digits 8 os) r)))

unfoldable pub variable_signed : (word : ℕ) → List ℕ
variable_signed w = length_octets (fewest_signed w) ++ signed_octets w

unfoldable pub read_signed : (p : ℕ) → List ℕ → Outcome (List ℕ) ℕ
read_signed p s =
    next (read_run p s) λ os r.
    -- at least one octet
    must (ltb 0 (length os)) 6 p
    -- the smallest number of octets (31.4)
    (must (is_fewest_signed os) 6 p
    -- house limit: 64 bits
    (must (leb (length os) 8) 8 p (got (signed_word os) r)))
