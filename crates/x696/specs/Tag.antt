-- Clause 8.7, the tag of a CHOICE's alternative: the class in the top two bits; a number below 63 in the low six
-- (8.7.2.2), else six ones and groups of seven bits, the top bit set on all but the last (8.7.2.3).
-- A tag is read to its last octet (5), then its form is judged (6); its number has no limit here. Assumes nothing.
use Rattle.std.specs.Prelude.{List, [], ◌∷◌, ℕ, ◌+◌, ◌*◌, ◌/◌, ◌%◌, ◌-◌, ltb, leb}
use Rattle.x696.specs.Outcome.{Outcome, refused, got, next, must, choose}
use Rattle.x696.specs.Digits.{digits, from_digits}
use Rattle.x696.specs.Fewest.{fewest, is_fewest}
use Rattle.x696.specs.Length.{octet}

pub data Tag : Type 0 where
  tag : (class number : ℕ) → Tag

-- groups of seven bits as octets: bit 8 is 1 on all but the last (8.7.2.3 d, e)
unfoldable pub group_octets : List ℕ → List ℕ
group_octets [] = []
group_octets (d ∷ []) = d ∷ []
group_octets (d ∷ e ∷ ds) = (128 + d) ∷ group_octets (e ∷ ds)

unfoldable pub tag_octets : Tag → List ℕ
tag_octets (tag class n) =
    choose (ltb n 63) (λ _. (64 * class + n) ∷ []) (λ _. (64 * class + 63) ∷ group_octets (digits 7 (fewest 7 n) n))

unfoldable pub read_groups : (p : ℕ) → List ℕ → Outcome (List ℕ) (List ℕ)
read_groups p [] = refused 5 p
read_groups p (x ∷ s) =
    choose (ltb x 128) (λ _. got (x ∷ []) s) (λ _. next (read_groups p s) λ ds r. got ((x - 128) ∷ ds) r)

unfoldable pub read_tag : (p : ℕ) → List ℕ → Outcome (List ℕ) Tag
read_tag p s =
    next (octet p s) λ x r.
    choose (ltb (x % 64) 63)
    (λ _. got (tag (x / 64) (x % 64)) r)
    (λ _. next (read_groups p r) λ ds r.
    -- below 63 the one octet is due (8.7.2.2)
    must (leb 63 (from_digits 7 ds)) 6 p
    -- the first group is not 0 (8.7.2.3 c)
    (must (is_fewest 7 ds) 6 p (got (tag (x / 64) (from_digits 7 ds)) r)))
