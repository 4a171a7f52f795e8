-- Fewest octets: that many hold the number, and no fewer do; digits are the fewest exactly if there is one, or the
-- first is not 0.
-- Assumes nothing.
use Rattle.std.specs.Prelude.{◌≡◌, true, false, List, [], ◌∷◌, ℕ, zero, suc, ◌+◌, ◌*◌, ◌^◌, ◌/◌, ◌<◌, ◌≤◌, length, ltb}
use Rattle.std.proofs.Common.{sym, ◌∙◌, mul-one, div-lt_iff_lt-mul, le_trans, mul-le-mul_left, mul-zero, zero-mul, zero-add, pow_pos, pow_mono, pow-add}
use Rattle.std.proofs.Math.Nat.{div-lt_self}
use native.Mathlib.Omega.{arith}
use borrow.Author.Tests.{lt-ltb, eqb-true, eq-eqb, ne_eqb}
use Rattle.x696.specs.Outcome.{choose}
use Rattle.x696.proofs.OutcomeLaws.{cases, cases_lt}
use Rattle.x696.specs.Digits.{from_digits, Below}
use Rattle.x696.proofs.DigitsLaws.{digits_length, digits_from_digits, from_digits_digits, from_digits_lt, mul_step}
use Rattle.x696.specs.Fewest.{fewest_in, fewest, unsigned_octets, is_fewest}

two_le : (w : ℕ) → 1 ≤ w → 2 ≤ 2 ^ w
two_le w h = pow_mono h

smaller : (w n : ℕ) → 1 ≤ w → 2 ^ w ≤ n → n / 2 ^ w < n
smaller w n h g = div-lt_self (omega (arith, pow_pos w)) (two_le w h)

fewest_in_holds : (f w n : ℕ) → 1 ≤ w → n ≤ f → n < 2 ^ (w * fewest_in f w n)
unfolding fewest_in choose
fewest_in_holds zero w n h g = le_trans (omega arith) (pow_pos (w * 1))
fewest_in_holds (suc f) w n h g =
    cases_lt n (2 ^ w)
    (λ e k. rw (e, mul-one) k)
    (λ e k.
    let q = (div-lt_iff_lt-mul (pow_pos w)).0 (fewest_in_holds f w (n / 2 ^ w) h (omega (arith, smaller w n h k))) in
    rw (e, mul_step, pow-add) (omega arith))

-- that many digits hold the number
pub fewest_holds : (w n : ℕ) → 1 ≤ w → n < 2 ^ (w * fewest w n)
unfolding fewest
fewest_holds w n h = fewest_in_holds n w n h (omega arith)

fewest_in_pos : (f w n : ℕ) → 1 ≤ fewest_in f w n
unfolding fewest_in choose
fewest_in_pos zero w n = omega arith
fewest_in_pos (suc f) w n = cases (ltb n (2 ^ w)) (λ e. rw e (omega arith)) (λ e. rw e (omega arith))

-- it is at least one
pub fewest_pos : (w n : ℕ) → 1 ≤ fewest w n
unfolding fewest
fewest_pos w n = fewest_in_pos n w n

fewest_in_least : (f w n j : ℕ) → n < 2 ^ (w * suc j) → fewest_in f w n ≤ suc j
unfolding fewest_in choose
fewest_in_least zero w n j h = omega arith
fewest_in_least (suc f) w n zero h = rw (lt-ltb n (2 ^ w) (rw mul-one at h)) (omega arith)
fewest_in_least (suc f) w n (suc j) h =
    cases (ltb n (2 ^ w))
    (λ e. rw e (omega arith))
    (λ e.
    let q : n < 2 ^ w * 2 ^ (w * suc j) = rw (mul_step w (suc j), pow-add) at h in
    let m = fewest_in_least f w (n / 2 ^ w) j ((div-lt_iff_lt-mul (pow_pos w)).1 (omega arith)) in
    rw e (omega arith))

-- no fewer hold it
pub fewest_least : (w n j : ℕ) → n < 2 ^ (w * suc j) → fewest w n ≤ suc j
unfolding fewest
fewest_least w n j h = fewest_in_least n w n j h

-- between 2 ^ (w * j) and 2 ^ (w * (j + 1)) the fewest are j + 1
pub fewest_is : (w n j : ℕ) → 1 ≤ w → n < 2 ^ (w * suc j) → 2 ^ (w * j) ≤ n → fewest w n ≡ suc j
fewest_is w n j h l g =
    cases_lt (fewest w n) (suc j)
    (λ _ k.
    let a = fewest_holds w n h in
    let b : 2 ^ (w * fewest w n) ≤ 2 ^ (w * j) = pow_mono (mul-le-mul_left w (omega arith)) in
    absurd (omega arith))
    (λ _ k. omega (arith, fewest_least w n j l))

-- ---- a list of digits: none is not the fewest, one is; of more, exactly those whose first is not 0
pub is_fewest_none : (w : ℕ) → is_fewest w [] ≡ false
unfolding is_fewest
is_fewest_none w = ne_eqb 0 (fewest w (from_digits w [])) (λ e. omega (arith, e, fewest_pos w (from_digits w [])))

pub is_fewest_one : (w d : ℕ) → d < 2 ^ w → is_fewest w (d ∷ []) ≡ true
unfolding is_fewest from_digits
is_fewest_one w d h =
    let one : d * 2 ^ (w * 0) + 0 ≡ d = rw (mul-zero) (omega arith) in
    let least = fewest_least w d 0 (rw (mul-one w) h) in
    rw one (eq-eqb 1 (fewest w d) (omega (arith, fewest_pos w d)))

padded : (w : ℕ) (ds : List ℕ) → Below w ds → 1 ≤ length ds → is_fewest w (0 ∷ ds) ≡ false
unfolding is_fewest from_digits
padded w [] b h = absurd (omega arith)
padded w (e ∷ ds) b h =
    let least = fewest_least w (from_digits w (e ∷ ds)) (length ds) (from_digits_lt w (e ∷ ds) b) in
    rw (zero-mul, zero-add) (ne_eqb (suc (suc (length ds))) (fewest w (from_digits w (e ∷ ds))) (λ q. omega (arith, q)))

unpadded : (w d : ℕ) (ds : List ℕ) → 1 ≤ w → Below w (suc d ∷ ds) → is_fewest w (suc d ∷ ds) ≡ true
unfolding is_fewest
unpadded w d ds h b =
    let top : 2 ^ (w * length ds) ≤ from_digits w (suc d ∷ ds) = unfold from_digits in omega arith in
    eq-eqb (suc (length ds)) (fewest w (from_digits w (suc d ∷ ds)))
    (sym (fewest_is w _ (length ds) h (from_digits_lt w (suc d ∷ ds) b) top))

pub is_fewest_more : (w d e : ℕ) (ds : List ℕ) → 1 ≤ w → Below w (d ∷ e ∷ ds) → is_fewest w (d ∷ e ∷ ds) ≡ ltb 0 d
is_fewest_more w zero e ds h b = padded w (e ∷ ds) b.1 (omega arith)
is_fewest_more w (suc d) e ds h b = unpadded w d (e ∷ ds) h b ∙ sym (lt-ltb 0 (suc d) (omega arith))

-- ---- a number in its fewest octets, and back
pub unsigned_back : (n : ℕ) → from_digits 8 (unsigned_octets n) ≡ n
unfolding unsigned_octets
unsigned_back n = from_digits_digits 8 (fewest 8 n) n (fewest_holds 8 n (omega arith))

pub unsigned_length : (n : ℕ) → length (unsigned_octets n) ≡ fewest 8 n
unfolding unsigned_octets
unsigned_length n = digits_length 8 (fewest 8 n) n

pub is_fewest_length : (w : ℕ) (ds : List ℕ) → is_fewest w ds ≡ true → length ds ≡ fewest w (from_digits w ds)
unfolding is_fewest
is_fewest_length w ds e = eqb-true _ _ e

pub unsigned_fewest : (n : ℕ) → is_fewest 8 (unsigned_octets n) ≡ true
unfolding is_fewest
unsigned_fewest n =
    eq-eqb (length (unsigned_octets n)) (fewest 8 (from_digits 8 (unsigned_octets n)))
    (rw (unsigned_back n) (unsigned_length n))

-- octets that are the fewest are their number's
pub unsigned_only : (os : List ℕ) → Below 8 os → is_fewest 8 os ≡ true → unsigned_octets (from_digits 8 os) ≡ os
unfolding unsigned_octets
unsigned_only os b e = rw (← (is_fewest_length 8 os e)) (digits_from_digits 8 os b)
