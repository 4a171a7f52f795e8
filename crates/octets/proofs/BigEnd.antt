-- Numbers big end first: one octet more at the low end, read and stored; words by their sign.
-- Assumes nothing.
use mathlib.Core.Path.{◌≡◌, ◌∙◌}
use mathlib.Core.List.{List, [], ◌∷◌, ◌++◌}
use Prim.Native.Nat.{ℕ, zero, suc, ◌+◌, ◌*◌, ◌-◌, ◌/◌, ◌%◌, ◌^◌, ◌<◌, ◌≤◌}
use native.Mathlib.Nat.{mul_comm, mul-zero, div-one}
use native.Mathlib.Numerals.{add-one}
use native.Mathlib.Omega.{arith}
use lib.ListN.{length, get_or, set, take, drop, length-drop}
use lib.Seq.{sets, take-suc, get_or-drop}
use lib.Arith.{digits_lt}
use lib.Pow.{pow-add, pow_mono, pow_pos, shr-shr}
use borrow.Author.Tests.{lt-ltb, le-ltb}
use Rattle.x696.specs.Digits.{digits, from_digits}
use Rattle.x696.proofs.DigitsLaws.{digits_length, mul_step}
use Rattle.octets.proofs.DigitsAt.{from_digits_snoc}
use Rattle.x696.specs.Fewest.{word_in}
use Rattle.octets.proofs.Stores.{sets_append, sets_comm}

-- ---- one digit more at the low end
pub digits_snoc : (w k n : ℕ) → digits w (suc k) n ≡ digits w k (n / 2 ^ w) ++ (n % 2 ^ w ∷ [])
unfolding digits
digits_snoc w zero n = rw (mul-zero, div-one)
digits_snoc w (suc k) n = rw (mul_step w k, ← shr-shr n w (w * k), digits_snoc w k n)

-- ---- a number that is read octet by octet: one octet more
pub read_more : (msg : List ℕ) (start i v o : ℕ) → start + i < length msg → v ≡ from_digits 8 (take i (drop start msg))
    → o ≡ get_or msg (start + i) 0 → v * 256 + o ≡ from_digits 8 (take (i + 1) (drop start msg))
read_more msg start i v o h e f =
    let j : i < length (drop start msg) = simp length-drop (omega arith) in
    rw (add-one i, take-suc (drop start msg) i 0 j, from_digits_snoc, get_or-drop, ← f, ← e)

pub more_below : (v o i : ℕ) → v < 2 ^ (8 * i) → o < 256 → v * 256 + o < 2 ^ (8 * (i + 1))
more_below v o i h g = rw (add-one i, mul_step 8 i, pow-add, mul_comm 256) (digits_lt h g)

pub below_seven : (v i : ℕ) → i ≤ 7 → v < 2 ^ (8 * i) → v < 2 ^ 56
below_seven v i h g = let p : 2 ^ (8 * i) ≤ 2 ^ 56 = pow_mono {i = 8 * i} {j = 56} (omega arith) in omega arith

-- ---- a number that is stored octet by octet from its low end: what is left to store, before and after a turn
pub stored_low : (out m : List ℕ) (to i v : ℕ) → 0 < i → m ≡ set out (to + (i - 1)) (v % 256)
    → sets m to (digits 8 (i - 1) (v / 256)) ≡ sets out to (digits 8 i v)
stored_low out m to i v h e = go (i - 1) (omega arith) e
  where
    go : (j : ℕ) → i ≡ suc j → m ≡ set out (to + j) (v % 256)
        → sets m to (digits 8 j (v / 256)) ≡ sets out to (digits 8 i v)
    go j f g =
        let k : to + length (digits 8 j (v / 256)) ≡ to + j = rw (digits_length 8 j (v / 256)) in
        let c = sets_comm (digits 8 j (v / 256)) (v % 256 ∷ []) out to (to + j) (omega arith) in
        let a = sets_append (digits 8 j (v / 256)) (v % 256 ∷ []) out to in
        rw (f, g, digits_snoc 8 j v) (c ∙ rw k at a)

pub stored_all : (out m : List ℕ) (to i v : ℕ) → i ≤ 0 → sets out to (digits 8 i v) ≡ m → out ≡ m
unfolding digits
stored_all out m to i v h e = let f : i ≡ 0 = omega arith in rw f at e

-- ---- the word of k octets, by their sign
pub word_plus : (k m half : ℕ) → half + half ≡ 2 ^ (8 * k) → m < half → m ≡ word_in k m
unfolding word_in
word_plus k m half e h = rw (lt-ltb (2 * m) (2 ^ (8 * k)) (omega arith))

pub word_minus : (k m half : ℕ) → half + half ≡ 2 ^ (8 * k) → 2 ^ (8 * k) ≤ 2 ^ 64 → half ≤ m
    → m + (2 ^ 64 - 1 - (half - 1) - half) ≡ word_in k m
unfolding word_in
word_minus k m half e f h = rw (le-ltb (2 * m) (2 ^ (8 * k)) (omega arith)) (omega (arith, pow_pos (8 * k)))
