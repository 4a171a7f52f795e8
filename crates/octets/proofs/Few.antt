-- The fewest octets of a number between two powers of 256, and of a word by its magnitude; octets in two's complement
-- are the fewest exactly if there is one, or the first nine bits are not all alike.
-- Assumes nothing.
use mathlib.Core.Path.{◌≡◌, sym}
use mathlib.Core.Bool.{true, false, not}
use mathlib.Core.List.{List, [], ◌∷◌}
use Prim.Native.Nat.{ℕ, zero, suc, ◌+◌, ◌*◌, ◌^◌, ◌-◌, ◌/◌, ◌<◌, ◌≤◌, max}
use native.Mathlib.Nat.{mul_comm, mul_left_comm, mul-le-mul_right}
use native.Mathlib.Numerals.{add-one}
use native.Mathlib.Omega.{arith}
use lib.ListN.{length}
use lib.Dec.{eqb}
use lib.Pow.{pow-add, pow_mono}
use borrow.Author.Tests.{lt-ltb, le-ltb, eq-eqb, ne_eqb, eqb-true, eqb-false}
use Rattle.x696.proofs.OutcomeLaws.{cases, cases_lt}
use Rattle.x696.specs.Digits.{from_digits, Below}
use Rattle.x696.proofs.DigitsLaws.{mul_step, from_digits_lt}
use Rattle.x696.specs.Fewest.{fewest, magnitude, fewest_signed, magnitude_in, is_fewest_signed}
use Rattle.x696.proofs.FewestLaws.{fewest_is, fewest_pos, fewest_least}

-- from 2 ^ (8 * j) on, and from 0 on for j = 0, up to 2 ^ (8 * (j + 1)) there are j + 1
pub fewest_between : (j n : ℕ) → (1 ≤ j → 2 ^ (8 * j) ≤ n) → n < 2 ^ (8 * suc j) → suc j ≡ fewest 8 n
fewest_between zero n g h = omega (arith, fewest_pos 8 n, fewest_least 8 n 0 h)
fewest_between (suc j) n g h = sym (fewest_is 8 n (suc j) (omega arith) h (g (omega arith)))

-- bit t is the highest that is 1; for 0, which is held as 1 is, it is bit 0
pub fewest_top : (n t : ℕ) → 2 ^ t ≤ max n 1 → max n 1 < 2 * 2 ^ t → t / 8 + 1 ≡ fewest 8 n
fewest_top n t g h =
    let a : 2 ^ (8 * (t / 8)) ≤ 2 ^ t = pow_mono {i = 8 * (t / 8)} {j = t} (omega arith) in
    let b : 2 ^ (1 + t) ≤ 2 ^ (8 * suc (t / 8)) = pow_mono {i = 1 + t} {j = 8 * suc (t / 8)} (omega arith) in
    let e : 2 ^ (1 + t) ≡ 2 * 2 ^ t = pow-add 2 1 t in
    rw add-one
    (fewest_between (t / 8) n
    (λ s. let d : 2 ^ 8 ≤ 2 ^ (8 * (t / 8)) = pow_mono {i = 8} {j = 8 * (t / 8)} (omega arith) in omega arith)
    (omega arith))

pub magnitude_low : (w : ℕ) → w < 2 ^ 63 → w ≡ magnitude w
unfolding magnitude
magnitude_low w h = rw (lt-ltb w (2 ^ 63) h)

pub magnitude_high : (w : ℕ) → 2 ^ 63 ≤ w → 2 ^ 64 - 1 - w ≡ magnitude w
unfolding magnitude
magnitude_high w h = rw (le-ltb w (2 ^ 63) h)

-- the fewest octets of a word, from its magnitude
pub signed_from : (w m r : ℕ) → m ≡ magnitude w → r ≡ fewest 8 (m * 2) → r ≡ fewest_signed w
unfolding fewest_signed
signed_from w m r e f = rw (← e, mul_comm 2 m) f

-- ---- octets in two's complement: n + 2 of them, of the number m
octet_more : (n : ℕ) → 2 ^ (8 * suc n) ≡ 256 * 2 ^ (8 * n)
octet_more n = rw (mul_step 8 n, pow-add)

module _ (n m : ℕ) where
  fewest_yes : 2 ^ (8 * suc n) ≤ m → m < 2 ^ (8 * suc (suc n)) → eqb (suc (suc n)) (fewest 8 m) ≡ true
  fewest_yes g h = eq-eqb (suc (suc n)) (fewest 8 m) (sym (fewest_is 8 m (suc n) (omega arith) h g))

  fewest_no : m < 2 ^ (8 * suc n) → eqb (suc (suc n)) (fewest 8 m) ≡ false
  fewest_no h = ne_eqb (suc (suc n)) (fewest 8 m) (λ e. omega (arith, e, fewest_least 8 m n h))

-- the number x of n + 2 octets, by its first nine bits: all 0, all 1, or neither
module _ (n x : ℕ) where
  all_zeros : x < 128 * 2 ^ (8 * n) → eqb (suc (suc n)) (fewest 8 (2 * magnitude_in (suc (suc n)) x)) ≡ false
  unfolding magnitude_in
  all_zeros h =
      let a = octet_more n in
      let b = octet_more (suc n) in
      rw (lt-ltb (2 * x) (2 ^ (8 * suc (suc n))) (omega arith)) (fewest_no n (2 * x) (omega arith))

  all_ones : 65408 * 2 ^ (8 * n) ≤ x → x < 65536 * 2 ^ (8 * n)
      → eqb (suc (suc n)) (fewest 8 (2 * magnitude_in (suc (suc n)) x)) ≡ false
  unfolding magnitude_in
  all_ones g h =
      let a = octet_more n in
      let b = octet_more (suc n) in
      rw (le-ltb (2 * x) (2 ^ (8 * suc (suc n))) (omega arith))
      (fewest_no n (2 * (2 ^ (8 * suc (suc n)) - 1 - x)) (omega arith))

  unlike : 128 * 2 ^ (8 * n) ≤ x → x < 65408 * 2 ^ (8 * n)
      → eqb (suc (suc n)) (fewest 8 (2 * magnitude_in (suc (suc n)) x)) ≡ true
  unfolding magnitude_in
  unlike g h =
      let a = octet_more n in
      let b = octet_more (suc n) in
      cases_lt (2 * x) (2 ^ (8 * suc (suc n)))
      (λ e l. rw e (fewest_yes n (2 * x) (omega arith) (omega arith)))
      (λ e l. rw e (fewest_yes n (2 * (2 ^ (8 * suc (suc n)) - 1 - x)) (omega arith) (omega arith)))

-- the number of the octets d, e and ds, in powers
two_and_more : (d e : ℕ) (ds : List ℕ)
    → from_digits 8 (d ∷ e ∷ ds) ≡ 256 * (d * 2 ^ (8 * length ds)) + (e * 2 ^ (8 * length ds) + from_digits 8 ds)
unfolding from_digits
two_and_more d e ds = rw (octet_more (length ds), mul_left_comm d 256 (2 ^ (8 * length ds)))

-- ---- a list of octets: none is not the fewest, one is; of more, exactly those whose first nine bits are not all alike
pub is_fewest_signed_none : is_fewest_signed [] ≡ false
unfolding is_fewest_signed
is_fewest_signed_none =
    ne_eqb 0 (fewest 8 (2 * magnitude_in 0 (from_digits 8 [])))
    (λ e. omega (arith, e, fewest_pos 8 (2 * magnitude_in 0 (from_digits 8 []))))

magnitude_one : (d : ℕ) → d < 256 → 2 * magnitude_in 1 d < 2 ^ (8 * 1)
unfolding magnitude_in
magnitude_one d h = cases_lt (2 * d) 256 (λ e l. rw e l) (λ e l. rw e (omega arith))

pub is_fewest_signed_one : (d : ℕ) → d < 256 → is_fewest_signed (d ∷ []) ≡ true
unfolding is_fewest_signed from_digits
is_fewest_signed_one d h =
    let one : d * 2 ^ (8 * 0) + 0 ≡ d = omega arith in
    let m = 2 * magnitude_in 1 d in
    rw one (eq-eqb 1 (fewest 8 m) (omega (arith, fewest_pos 8 m, fewest_least 8 m 0 (magnitude_one d h))))

module _ (d e : ℕ) (ds : List ℕ) (b : Below 8 (d ∷ e ∷ ds)) where
  -- the second octet begins with a bit 0: the first is not 0
  pub is_fewest_signed_plus : e < 128 → is_fewest_signed (d ∷ e ∷ ds) ≡ not (eqb d 0)
  unfolding is_fewest_signed
  is_fewest_signed_plus h =
      let p = 2 ^ (8 * length ds) in
      let x = two_and_more d e ds in
      let r = from_digits_lt 8 ds b.1.1 in
      let y : e * p ≤ 127 * p = mul-le-mul_right p (omega arith) in
      let z : d * p ≤ 255 * p = mul-le-mul_right p (omega arith) in
      cases (eqb d 0)
      (λ t.
      let o : d * p ≤ 0 * p = mul-le-mul_right p (omega (arith, eqb-true d 0 t)) in
      rw t (all_zeros (length ds) (from_digits 8 (d ∷ e ∷ ds)) (omega arith)))
      (λ t.
      let q = eqb-false d 0 t in
      let o : 1 * p ≤ d * p = mul-le-mul_right p (omega arith) in
      rw t (unlike (length ds) (from_digits 8 (d ∷ e ∷ ds)) (omega arith) (omega arith)))

  -- the second octet begins with a bit 1: the first is not 255
  pub is_fewest_signed_minus : 128 ≤ e → is_fewest_signed (d ∷ e ∷ ds) ≡ not (eqb d 255)
  unfolding is_fewest_signed
  is_fewest_signed_minus h =
      let p = 2 ^ (8 * length ds) in
      let x = two_and_more d e ds in
      let r = from_digits_lt 8 ds b.1.1 in
      let y : 128 * p ≤ e * p = mul-le-mul_right p h in
      let z : e * p ≤ 255 * p = mul-le-mul_right p (omega arith) in
      cases (eqb d 255)
      (λ t.
      let o : 255 * p ≤ d * p = mul-le-mul_right p (omega (arith, eqb-true d 255 t)) in
      let u : d * p ≤ 255 * p = mul-le-mul_right p (omega arith) in
      rw t (all_ones (length ds) (from_digits 8 (d ∷ e ∷ ds)) (omega arith) (omega arith)))
      (λ t.
      let q = eqb-false d 255 t in
      let o : d * p ≤ 254 * p = mul-le-mul_right p (omega arith) in
      rw t (unlike (length ds) (from_digits 8 (d ∷ e ∷ ds)) (omega arith) (omega arith)))
