-- A bit set or cleared in place: every other bit of the octets stays.
-- Assumes nothing.
use mathlib.Core.Path.{◌≡◌, sym, ap, ◌∙◌}
use mathlib.Core.Logic.{◌≢◌}
use mathlib.Core.Bool.{Bool}
use mathlib.Core.List.{List}
use Prim.Native.Nat.{ℕ, suc, ◌+◌, ◌*◌, ◌-◌, ◌/◌, ◌%◌, ◌^◌, ◌<◌}
use native.Mathlib.Nat.{mod-lt}
use native.Mathlib.Omega.{arith}
use lib.ListN.{length, get_or, length-set}
use lib.Seq.{set_out, get_or-set_same, get_or-set_other}
use lib.Dec.{eqb}
use lib.Pow.{high, low, field, split, shr-shr, mod-mod-pow, pow_pos}
use borrow.Author.Tests.{eqb-true, eqb-false}
use Rattle.x696.proofs.OutcomeLaws.{cases, cases_lt}
use Rattle.x696.specs.Encode.{bit}
use Rattle.x696.proofs.Complete.{bit_lt}
use Rattle.octets.specs.Presence.{bit_at, with_bit, set_bit}
use Rattle.octets.proofs.Weights.{with_bit_is}

-- ---- one octet
-- a bit depends on the bits below and with it alone
same_low : (n m a k : ℕ) → n % 2 ^ (suc a + k) ≡ m % 2 ^ (suc a + k) → n / 2 ^ k % 2 ≡ m / 2 ^ k % 2
same_low n m a k e =
    let s : suc a ≡ a + 1 = omega arith in
    let f : n / 2 ^ k % 2 ^ suc a ≡ m / 2 ^ k % 2 ^ suc a =
    sym (field n (suc a) k) ∙ (ap (λ z. z / 2 ^ k) e ∙ field m (suc a) k) in
    let g = rw s at f in
    sym (mod-mod-pow (n / 2 ^ k) a 1) ∙ (ap (λ z. z % 2 ^ 1) g ∙ mod-mod-pow (m / 2 ^ k) a 1)

module _ (o j : ℕ) (t : Bool) where
  abbrev q : ℕ
  q = o / 2 ^ (7 - j)

  -- the octet is what stands above its bit j, the bit, and what stands below it
  with_bit_split : with_bit o j t ≡ (q / 2 * 2 + bit t) * 2 ^ (7 - j) + o % 2 ^ (7 - j)
  with_bit_split =
      let a : q / 2 * 2 + q % 2 ≡ q = omega arith in
      let whole : o ≡ (q / 2 * 2 + q % 2) * 2 ^ (7 - j) + o % 2 ^ (7 - j) = rw a (sym (split o (7 - j))) in
      ap (λ z. with_bit z j t) whole ∙
      with_bit_is (q / 2) (q % 2) (o % 2 ^ (7 - j)) j t (omega arith) (mod-lt o (pow_pos (7 - j)))

  with_bit_above : with_bit o j t / 2 ^ (7 - j) ≡ q / 2 * 2 + bit t
  with_bit_above = rw with_bit_split (high (q / 2 * 2 + bit t) (7 - j) (mod-lt o (pow_pos (7 - j))))

  with_bit_below : with_bit o j t % 2 ^ (7 - j) ≡ o % 2 ^ (7 - j)
  with_bit_below = rw with_bit_split (low (q / 2 * 2 + bit t) (7 - j) (mod-lt o (pow_pos (7 - j))))

  with_bit_others : (i : ℕ) → i < 8 → j < 8 → i ≢ j → with_bit o j t / 2 ^ (7 - i) % 2 ≡ o / 2 ^ (7 - i) % 2
  with_bit_others i hi hj d =
      cases_lt i j
      (λ e l.
      let k : 7 - i ≡ 7 - j + (1 + (j - i - 1)) = omega arith in
      let above : (q / 2 * 2 + bit t) / 2 ^ 1 ≡ q / 2 ^ 1 = omega (arith, bit_lt t) in
      rw (
        k,
        ← shr-shr (with_bit o j t) (7 - j) (1 + (j - i - 1)),
        ← shr-shr o (7 - j) (1 + (j - i - 1)),
        with_bit_above,
        ← shr-shr (q / 2 * 2 + bit t) 1 (j - i - 1),
        ← shr-shr q 1 (j - i - 1),
        above,
      ))
      (λ e l.
      let k : suc (i - j - 1) + (7 - i) ≡ 7 - j = omega arith in
      same_low (with_bit o j t) o (i - j - 1) (7 - i) (rw k with_bit_below))

  with_bit_own : with_bit o j t / 2 ^ (7 - j) % 2 ≡ bit t
  with_bit_own = rw with_bit_above (omega (arith, bit_lt t))

-- ---- a list of octets, its bits numbered through
module _ (s : List ℕ) (pre b : ℕ) (x : Bool) where
  abbrev k : ℕ
  k = pre + b / 8

  pub set_bit_length : length (set_bit s pre b x) ≡ length s
  unfolding set_bit
  set_bit_length = length-set s k _

  pub set_bit_own : k < length s → bit_at (set_bit s pre b x) pre b ≡ bit x
  unfolding set_bit bit_at
  set_bit_own h = rw (get_or-set_same s k (with_bit (get_or s k 0) (b % 8) x) 0 h) (with_bit_own (get_or s k 0) (b % 8) x)

  -- the octet of the bit
  same_octet : (i c : ℕ) → i ≡ k → c < 8 → c ≢ b % 8
      → get_or (set_bit s pre b x) i 0 / 2 ^ (7 - c) % 2 ≡ get_or s i 0 / 2 ^ (7 - c) % 2
  unfolding set_bit
  same_octet i c e hc d =
      cases_lt k (length s)
      (λ t h.
      rw (e, get_or-set_same s k (with_bit (get_or s k 0) (b % 8) x) 0 h)
      (with_bit_others (get_or s k 0) (b % 8) x c hc (omega arith) d))
      (λ t h. rw (e, set_out s k (with_bit (get_or s k 0) (b % 8) x) h))

  -- the other octets
  other_octet : (i : ℕ) → i ≢ k → get_or (set_bit s pre b x) i 0 ≡ get_or s i 0
  unfolding set_bit
  other_octet i n = get_or-set_other s k i _ 0 n

  pub set_bit_others : (c : ℕ) → c ≢ 8 * pre + b → bit_at (set_bit s pre b x) 0 c ≡ bit_at s 0 c
  unfolding bit_at
  set_bit_others c d =
      cases (eqb (0 + c / 8) k)
      (λ e. let z = eqb-true (0 + c / 8) k e in same_octet (0 + c / 8) (c % 8) z (omega arith) (λ f. d (omega arith)))
      (λ e. rw (other_octet (0 + c / 8) (eqb-false (0 + c / 8) k e)))
