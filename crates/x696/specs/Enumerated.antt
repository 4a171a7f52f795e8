-- Clause 11, ENUMERATED, with 31.5: 0 to 127 in one octet (11.3), else 128 plus a count and the signed number (11.4).
-- The NOTE to 31.5 is wrong (document 01): 128 is 82 00 80. Narrower than X.696: numbers stop at 64 bits (8, WIDE).
-- Assumes nothing.
use Rattle.std.specs.Prelude.{Bool, false, ◌||◌, List, [], ◌∷◌, ℕ, ◌+◌, ◌-◌, length, ltb, leb, eqb}
use Rattle.x696.specs.Outcome.{Outcome, got, next, must, choose}
use Rattle.x696.specs.Digits.{from_digits}
use Rattle.x696.specs.Fewest.{fewest_signed, signed_octets, is_fewest_signed, signed_word}
use Rattle.x696.specs.Length.{octet, run}

-- whether a number is one of the type's
unfoldable pub listed : (word : ℕ) → List ℕ → Bool
listed w [] = false
listed w (x ∷ xs) = eqb w x || listed w xs

unfoldable pub enumerated_octets : (word : ℕ) → List ℕ
enumerated_octets w = choose (ltb w 128) (λ _. w ∷ []) (λ _. (128 + fewest_signed w) ∷ signed_octets w)

unfoldable pub read_enumerated : (p : ℕ) → List ℕ → Outcome (List ℕ) ℕ
read_enumerated p s =
    next (octet p s) λ x r.
    choose (ltb x 128)
    (λ _. got x r)
    -- at least one subsequent octet (11.4)
    (λ _. must (ltb 0 (x - 128)) 6 p
    (next (run p (x - 128) r) λ os r.
    -- 0 to 127 take the short form (31.5)
    must (leb 128 (from_digits 8 os)) 6 p
    -- the smallest number of octets (31.5)
    (must (is_fewest_signed os) 6 p
    -- house limit: 64 bits
    (must (leb (length os) 8) 8 p (got (signed_word os) r)))))
