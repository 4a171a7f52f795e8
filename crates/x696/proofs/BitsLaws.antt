-- Preambles: presence bits that are written are read back, and what is read was written so.
-- Assumes nothing.
use Rattle.std.specs.Prelude.{◌≡◌, refl, List, [], ◌++◌, ℕ, ◌+◌, ◌*◌, ◌^◌, ◌/◌, ◌%◌, ◌<◌, length}
use Rattle.std.proofs.Common.{ap, sym, ◌∙◌, one-mul, arith, shl_lt, shr_lt, pow_pos, eqb-true}
use Rattle.std.proofs.lemmas.Nat.{shl-shr}
use Rattle.std.proofs.Math.Pow.{split, low}
use Rattle.x696.specs.Outcome.{got, next, must}
use Rattle.x696.proofs.OutcomeLaws.{next_inv, must_inv}
use Rattle.x696.specs.Digits.{digits, from_digits, Below}
use Rattle.x696.proofs.DigitsLaws.{digits_length, digits_below, from_digits_lt, digits_from_digits}
use Rattle.x696.proofs.DigitsLaws.{from_digits_digits, below_split}
use Rattle.x696.proofs.LengthLaws.{run_complete, run_sound}
use Rattle.x696.specs.Bits.{bit_octets, unused_bits, low_bits_clear, preamble, read_preamble}

-- bits and unused bits fill whole octets
pub bits_fill : (n : ℕ) → n + unused_bits n ≡ 8 * bit_octets n
bits_fill n = omega arith

pub preamble_length : (n : ℕ) (bs : List ℕ) → length (preamble n bs) ≡ bit_octets n
unfolding preamble
preamble_length n bs = digits_length 8 (bit_octets n) _

-- no presence bits, no octets (the NOTE to 16.2.4)
pub preamble_none : (bs : List ℕ) → preamble 0 bs ≡ []
unfolding preamble digits
preamble_none bs = refl

preamble_number : (n : ℕ) (bs : List ℕ) → length bs ≡ n → Below 1 bs
    → from_digits 8 (preamble n bs) ≡ from_digits 1 bs * 2 ^ unused_bits n
unfolding preamble
preamble_number n bs e b =
    let small : from_digits 1 bs < 2 ^ n = rw (one-mul, e) at (from_digits_lt 1 bs b) in
    from_digits_digits 8 (bit_octets n) (from_digits 1 bs * 2 ^ unused_bits n)
    (rw (bits_fill n) at (shl_lt n (unused_bits n) small))

shifted_clear : (a k : ℕ) → (a * 2 ^ k) % 2 ^ k ≡ 0
shifted_clear a k = let e : a * 2 ^ k ≡ a * 2 ^ k + 0 = omega arith in ap (λ x. x % 2 ^ k) e ∙ low a k (pow_pos k)

pub preamble_complete : (n p : ℕ) (bs r : List ℕ) → length bs ≡ n → Below 1 bs
    → read_preamble n p (preamble n bs ++ r) ≡ got bs r
unfolding read_preamble next must low_bits_clear
preamble_complete n p bs r e b =
    let d : digits 1 n (from_digits 1 bs) ≡ bs = rw (← e) (digits_from_digits 1 bs b) in
    rw (
      run_complete p (preamble n bs) r (bit_octets n) (sym (preamble_length n bs)),
      preamble_number n bs e b,
      shifted_clear (from_digits 1 bs) (unused_bits n),
      shl-shr (from_digits 1 bs) (unused_bits n),
      d,
    )

pub preamble_sound : (n p : ℕ) (s : List ℕ) {bs r : List ℕ} → Below 8 s → read_preamble n p s ≡ got bs r
    → (s ≡ preamble n bs ++ r) × (length bs ≡ n) × Below 1 bs
unfolding read_preamble preamble low_bits_clear
preamble_sound n p s {bs} {r} b e =
    next_inv _ _ e λ os r₁ was then.
    must_inv _ _ _ _ then λ t q.
    let a = run_sound p (bit_octets n) s was in
    let bo = (below_split 8 os r₁ b a.0).0 in
    let w : digits 1 n (from_digits 8 os / 2 ^ unused_bits n) ≡ bs = cc in
    let lt : from_digits 8 os < 2 ^ (n + unused_bits n) = rw (a.1, ← (bits_fill n)) at (from_digits_lt 8 os bo) in
    let small : from_digits 8 os / 2 ^ unused_bits n < 2 ^ (1 * n) = rw (one-mul n) (shr_lt n (unused_bits n) lt) in
    let z = eqb-true (from_digits 8 os % 2 ^ unused_bits n) 0 t in
    let up : from_digits 8 os / 2 ^ unused_bits n * 2 ^ unused_bits n ≡ from_digits 8 os =
    omega (arith, split (from_digits 8 os) (unused_bits n)) in
    let back : digits 8 (bit_octets n) (from_digits 8 os) ≡ os = rw (← a.1) (digits_from_digits 8 os bo) in
    let from : s ≡ preamble n bs ++ r = rw (← w, from_digits_digits 1 n _ small, up, back) (cc a.0) in
    (from, rw (← w) (digits_length 1 n _), rw (← w) (digits_below 1 n _))
