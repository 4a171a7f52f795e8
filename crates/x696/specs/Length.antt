-- Clause 8.6, the length determinant, with 31.2: 0 to 127 in one octet, else 128 plus a count and the length in its
-- fewest octets. Canonical only: the two tests of 31.2. A length is believed only when its octets are there.
-- p is the place of a refusal: the first octet of the innermost value being read. Assumes nothing.
use Rattle.std.specs.Prelude.{List, [], ◌∷◌, ℕ, ◌+◌, ◌-◌, length, take, drop, ltb, leb}
use Rattle.x696.specs.Outcome.{Outcome, refused, got, next, must, choose}
use Rattle.x696.specs.Digits.{from_digits}
use Rattle.x696.specs.Fewest.{fewest, unsigned_octets, is_fewest}

-- the next octet; 5 where there is none
unfoldable pub octet : (p : ℕ) → List ℕ → Outcome (List ℕ) ℕ
octet p [] = refused 5 p
octet p (x ∷ s) = got x s

-- the next n octets; 5 where fewer are left
unfoldable pub run : (p n : ℕ) → List ℕ → Outcome (List ℕ) (List ℕ)
run p n s = must (leb n (length s)) 5 p (got (take n s) (drop n s))

-- short form (8.6.4), long form (8.6.5)
unfoldable pub length_octets : ℕ → List ℕ
length_octets n = choose (ltb n 128) (λ _. n ∷ []) (λ _. (128 + fewest 8 n) ∷ unsigned_octets n)

unfoldable pub read_length : (p : ℕ) → List ℕ → Outcome (List ℕ) ℕ
read_length p s =
    next (octet p s) λ x r.
    choose (ltb x 128)
    (λ _. got x r)
    -- at least one subsequent octet (8.6.5)
    (λ _. must (ltb 0 (x - 128)) 6 p
    (next (run p (x - 128) r) λ os r.
    -- below 128 the short form is due (31.2)
    must (leb 128 (from_digits 8 os)) 6 p
    -- the smallest number of octets (31.2)
    (must (is_fewest 8 os) 6 p (got (from_digits 8 os) r))))

-- a length determinant and the octets that it counts (8.6.2)
unfoldable pub read_run : (p : ℕ) → List ℕ → Outcome (List ℕ) (List ℕ)
read_run p s = next (read_length p s) λ n r. run p n r
