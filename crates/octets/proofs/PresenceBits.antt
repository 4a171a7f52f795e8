-- Presence bits by position: the bits that the reader of a preamble gives, a preamble of zeros, and one bit changed.
-- Assumes nothing.
use mathlib.Core.Path.{◌≡◌, refl, sym, ap, ◌∙◌}
use mathlib.Core.Bool.{Bool}
use mathlib.Core.List.{List, ◌∷◌, ◌++◌}
use Prim.Native.Nat.{ℕ, zero, suc, ◌+◌, ◌*◌, ◌-◌, ◌/◌, ◌%◌, ◌^◌, ◌<◌, ◌≤◌}
use native.Mathlib.Nat.{zero-mul, zero-div, zero-mod, one-mul}
use native.Mathlib.Omega.{arith}
use lib.ListN.{length, get_or, set, drop, replicate, get_or-append}
use lib.Seq.{get_or-drop, set_at, get_or_at}
use lib.Pow.{pow-add, high, low, field, mod-pow-add, mod-mod-pow, shr-shr, shl_lt, shr_lt}
use Rattle.x696.specs.Outcome.{got}
use Rattle.x696.proofs.OutcomeLaws.{next_inv, must_inv}
use Rattle.x696.specs.Digits.{digits, from_digits, Below}
use Rattle.x696.proofs.DigitsLaws.{digits_length, digits_low, digits_from_digits, from_digits_lt, below_split}
use Rattle.x696.proofs.LengthLaws.{run_sound}
use Rattle.x696.specs.Bits.{bit_octets, unused_bits, preamble, read_preamble}
use Rattle.x696.specs.Encode.{bit}
use Rattle.octets.specs.Presence.{bit_at, with_bit}
use Rattle.octets.proofs.Octets.{below_drop}
use Rattle.octets.proofs.DigitsAt.{from_digits_append, digits_at, digits_around}
use Rattle.x696.proofs.Complete.{bit_lt}
use Rattle.octets.proofs.Weights.{with_bit_is}

-- ---- the bits that are read
-- an octet's bit is the number's
bit_of : (n m : ℕ) → m ≤ 7 → n % 2 ^ 8 / 2 ^ m % 2 ≡ n / 2 ^ m % 2
bit_of n m h =
    let a : 8 - m + m ≡ 8 = omega arith in
    let b : 7 - m + 1 ≡ 8 - m = omega arith in
    let f : n % 2 ^ 8 / 2 ^ m ≡ n / 2 ^ m % 2 ^ (8 - m) = rw a at (field n (8 - m) m) in
    rw f (rw b at (mod-mod-pow (n / 2 ^ m) (7 - m) 1))

bit_in : (os : List ℕ) (n b : ℕ) → Below 8 os → length os ≡ bit_octets n → b < n
    → get_or (digits 1 n (from_digits 8 os / 2 ^ unused_bits n)) b 0 ≡ get_or os (b / 8) 0 / 2 ^ (7 - b % 8) % 2
bit_in os n b below len h =
    let back : digits 8 (bit_octets n) (from_digits 8 os) ≡ os = rw len at (digits_from_digits 8 os below) in
    let o : get_or os (b / 8) 0 ≡ from_digits 8 os / 2 ^ (8 * (bit_octets n - 1 - b / 8)) % 2 ^ 8 =
    sym (ap (λ z. get_or z (b / 8) 0) back) ∙ digits_at 8 (bit_octets n) (from_digits 8 os) (b / 8) (omega arith) in
    let sum : unused_bits n + 1 * (n - 1 - b) ≡ 8 * (bit_octets n - 1 - b / 8) + (7 - b % 8) = omega arith in
    digits_at 1 n (from_digits 8 os / 2 ^ unused_bits n) b h ∙
    rw (
      shr-shr (from_digits 8 os) (unused_bits n) (1 * (n - 1 - b)),
      sum,
      ← shr-shr (from_digits 8 os) (8 * (bit_octets n - 1 - b / 8)) (7 - b % 8),
      o,
    ) (sym (bit_of (from_digits 8 os / 2 ^ (8 * (bit_octets n - 1 - b / 8))) (7 - b % 8) (omega arith)))

pub bits_read : (n p at : ℕ) (msg : List ℕ) {bits r : List ℕ} → Below 8 msg
    → read_preamble n p (drop at msg) ≡ got bits r → (b : ℕ) → b < n → get_or bits b 0 ≡ bit_at msg at b
unfolding read_preamble bit_at
bits_read n p at msg {bits} below e b h =
    next_inv _ _ e λ os r₁ was then.
    must_inv _ _ _ _ then λ t q.
    let a = run_sound p (bit_octets n) (drop at msg) was in
    let w : digits 1 n (from_digits 8 os / 2 ^ unused_bits n) ≡ bits = cc in
    let o : get_or os (b / 8) 0 ≡ get_or msg (at + b / 8) 0 =
    sym (get_or-append os r₁ 0 (b / 8) (omega (arith, a.1))) ∙ ap (λ z. get_or z (b / 8) 0) (sym a.0) ∙
    get_or-drop at msg (b / 8) 0 in
    rw (← w, ← o) (bit_in os n b (below_split 8 os r₁ (below_drop 8 msg at below) a.0).0 a.1 h)

-- ---- no component is present
from_digits_zeros : (w n : ℕ) → from_digits w (replicate n 0) ≡ 0
unfolding from_digits
from_digits_zeros w zero = refl
from_digits_zeros w (suc n) = rw (from_digits_zeros w n, zero-mul)

digits_zeros : (w k : ℕ) → digits w k 0 ≡ replicate k 0
unfolding digits
digits_zeros w zero = refl
digits_zeros w (suc k) = rw (digits_zeros w k, zero-div (2 ^ (w * k)), zero-mod (2 ^ w))

pub preamble_zeros : (n : ℕ) → preamble n (replicate n 0) ≡ replicate (bit_octets n) 0
unfolding preamble
preamble_zeros n = rw (from_digits_zeros 1 n, zero-mul (2 ^ unused_bits n), digits_zeros 8 (bit_octets n))

-- ---- one bit changed
-- a number with a bit y in the middle, hi above and lo below it; it is bit j, from the top, of octet k from the bottom
module _ (k j hi lo y : ℕ) (hj : j < 8) (hy : y < 2) (hl : lo < 2 ^ (7 - j + 8 * k)) where
  abbrev N : ℕ
  N = (hi * 2 + y) * 2 ^ (7 - j + 8 * k) + lo

  above : N / 2 ^ (8 * suc k) ≡ hi / 2 ^ j
  above =
      let s : 8 * suc k ≡ 7 - j + 8 * k + (1 + j) = omega arith in
      let t : (hi * 2 + y) / 2 ^ 1 ≡ hi = omega arith in
      rw (s, ← shr-shr N (7 - j + 8 * k) (1 + j), high (hi * 2 + y) (7 - j + 8 * k) hl, ← shr-shr (hi * 2 + y) 1 j, t)

  beneath : N % 2 ^ (8 * k) ≡ lo % 2 ^ (8 * k)
  beneath = rw (← mod-mod-pow N (7 - j) (8 * k), low (hi * 2 + y) (7 - j + 8 * k) hl)

  within : N / 2 ^ (8 * k) % 2 ^ 8 ≡ (hi % 2 ^ j * 2 + y) * 2 ^ (7 - j) + lo / 2 ^ (8 * k)
  within =
      let e : 8 ≡ j + 1 + (7 - j) = omega arith in
      let c : 8 * k + (7 - j) ≡ 7 - j + 8 * k = omega arith in
      let t : (hi * 2 + y) / 2 ^ 1 ≡ hi = omega arith in
      let m : (hi * 2 + y) % 2 ^ 1 ≡ y = omega arith in
      ap (λ z. N / 2 ^ (8 * k) % 2 ^ z) e ∙
      rw (
        mod-pow-add (N / 2 ^ (8 * k)) (j + 1) (7 - j),
        shr-shr N (8 * k) (7 - j),
        c,
        high (hi * 2 + y) (7 - j + 8 * k) hl,
        mod-pow-add (hi * 2 + y) j 1,
        t,
        m,
        ← field N (7 - j) (8 * k),
        low (hi * 2 + y) (7 - j + 8 * k) hl,
      )

  -- its octets around that one
  around : (i : ℕ)
      → digits 8 (i + suc k) N
      ≡ digits 8 i (hi / 2 ^ j) ++ (((hi % 2 ^ j * 2 + y) * 2 ^ (7 - j) + lo / 2 ^ (8 * k)) ∷ digits 8 k lo)
  around i = digits_around 8 i k N ∙ rw (above, within, digits_low 8 k N lo beneath)

module _ (n b : ℕ) (l r : List ℕ) (below : Below 1 r) (en : n ≡ length l + suc (length r)) (eb : b ≡ length l) where
  -- the octet of bit b, counted from the bottom, and what stands below the bit
  abbrev K : ℕ
  K = bit_octets n - 1 - b / 8

  abbrev L : ℕ
  L = from_digits 1 r * 2 ^ unused_bits n

  place : length r + unused_bits n ≡ 7 - b % 8 + 8 * K
  place = omega arith

  small : L < 2 ^ (7 - b % 8 + 8 * K)
  small = rw (← place) (shl_lt (length r) (unused_bits n) (rw (one-mul (length r)) at (from_digits_lt 1 r below)))

  number : (y : ℕ)
      → from_digits 1 (l ++ (y ∷ r)) * 2 ^ unused_bits n ≡ (from_digits 1 l * 2 + y) * 2 ^ (7 - b % 8 + 8 * K) + L
  unfolding from_digits
  number y =
      let two : 2 ^ suc (length r) ≡ 2 ^ length r * 2 = omega arith in
      rw (
        ← place,
        from_digits_append 1 l (y ∷ r),
        one-mul (suc (length r)),
        one-mul (length r),
        pow-add 2 (length r) (unused_bits n),
        two,
      ) (omega arith)

  framed : (y : ℕ) → y < 2
      → preamble n (l ++ (y ∷ r))
      ≡ digits 8 (b / 8) (from_digits 1 l / 2 ^ (b % 8))
      ++ (((from_digits 1 l % 2 ^ (b % 8) * 2 + y) * 2 ^ (7 - b % 8) + L / 2 ^ (8 * K)) ∷ digits 8 K L)
  unfolding preamble
  framed y hy =
      let e : bit_octets n ≡ b / 8 + suc K = omega arith in
      ap (λ z. digits 8 z (from_digits 1 (l ++ (y ∷ r)) * 2 ^ unused_bits n)) e ∙
      rw (number y) (around K (b % 8) (from_digits 1 l) L y (omega arith) hy small (b / 8))

  -- the octet of bit b is the one that changes
  pub preamble_set : (x y : ℕ) (t : Bool) → x < 2 → y ≡ bit t
      → preamble n (l ++ (y ∷ r))
      ≡ set (preamble n (l ++ (x ∷ r))) (b / 8) (with_bit (get_or (preamble n (l ++ (x ∷ r))) (b / 8) 0) (b % 8) t)
  preamble_set x y t hx ey =
      let P = digits 8 (b / 8) (from_digits 1 l / 2 ^ (b % 8)) in
      let len : length P ≡ b / 8 = digits_length 8 (b / 8) _ in
      rw (
        framed y (rw ey (bit_lt t)),
        framed x hx,
        get_or_at P _ (digits 8 K L) 0 (b / 8) len,
        set_at P _ (digits 8 K L) _ (b / 8) len,
        with_bit_is (from_digits 1 l % 2 ^ (b % 8)) x (L / 2 ^ (8 * K)) (b % 8) t hx (shr_lt (7 - b % 8) (8 * K) small),
        ey,
      )
