-- Clauses 31.2, 31.4, 31.5, 31.7 ("the smallest number of octets that can carry the value") and 8.7.2.3 c (first group
-- not 0). `FewestLaws` and `SignedLaws` prove that the number found holds the value and that no smaller one does.
-- Signed numbers are 64-bit words in two's complement. Assumes nothing.
use Rattle.std.specs.Prelude.{Bool, cond, List, ℕ, zero, suc, ◌+◌, ◌*◌, ◌^◌, ◌/◌, ◌-◌, length, ltb, eqb}
use Rattle.x696.specs.Outcome.{choose}
use Rattle.x696.specs.Digits.{digits, from_digits}

-- the fewest digits of w bits that hold n, at least one: one, and one more for each time that 2 ^ w goes into it
unfoldable pub fewest_in : (fuel w n : ℕ) → ℕ
fewest_in zero w n = 1
fewest_in (suc fuel) w n = choose (ltb n (2 ^ w)) (λ _. 1) (λ _. suc (fewest_in fuel w (n / 2 ^ w)))

unfoldable pub fewest : (w n : ℕ) → ℕ
fewest w n = fewest_in n w n

-- the number in its fewest octets
unfoldable pub unsigned_octets : ℕ → List ℕ
unsigned_octets n = digits 8 (fewest 8 n) n

-- whether digits that were read are the fewest for their number: never none, and no needless first one
unfoldable pub is_fewest : (w : ℕ) → List ℕ → Bool
is_fewest w ds = eqb (length ds) (fewest w (from_digits w ds))

-- how far a word lies from 0, or from -1 if it is negative: k octets hold it if twice this is below 2 ^ (8 * k)
unfoldable pub magnitude : (word : ℕ) → ℕ
magnitude w = cond (ltb w (2 ^ 63)) w (2 ^ 64 - 1 - w)

-- the fewest octets that hold a word in two's complement, and the word in them
unfoldable pub fewest_signed : (word : ℕ) → ℕ
fewest_signed w = fewest 8 (2 * magnitude w)

unfoldable pub signed_octets : (word : ℕ) → List ℕ
signed_octets w = digits 8 (fewest_signed w) w

-- k octets that hold the unsigned number m, as two's complement: their magnitude, and the word that they stand for
unfoldable pub magnitude_in : (k m : ℕ) → ℕ
magnitude_in k m = cond (ltb (2 * m) (2 ^ (8 * k))) m (2 ^ (8 * k) - 1 - m)

unfoldable pub word_in : (k m : ℕ) → ℕ
word_in k m = cond (ltb (2 * m) (2 ^ (8 * k))) m (2 ^ 64 - 2 ^ (8 * k) + m)

unfoldable pub is_fewest_signed : List ℕ → Bool
is_fewest_signed os = eqb (length os) (fewest 8 (2 * magnitude_in (length os) (from_digits 8 os)))

unfoldable pub signed_word : List ℕ → ℕ
signed_word os = word_in (length os) (from_digits 8 os)
