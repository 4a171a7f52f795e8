-- Digits by position: the number of two lists of digits in a row, the digits around one place, and the one there.
-- Assumes nothing.
use mathlib.Core.Path.{◌≡◌, ◌∙◌}
use mathlib.Core.List.{List, [], ◌∷◌, ◌++◌}
use Prim.Native.Nat.{ℕ, zero, suc, ◌+◌, ◌*◌, ◌-◌, ◌/◌, ◌%◌, ◌^◌, ◌<◌}
use native.Mathlib.Nat.{mul-zero, mul-one, mul-add}
use native.Mathlib.Omega.{arith}
use lib.ListN.{length, get_or, length-append}
use lib.Pow.{pow-add, shr-shr}
use Rattle.x696.specs.Digits.{digits, from_digits}

pub from_digits_append : (w : ℕ) (a b : List ℕ)
    → from_digits w (a ++ b) ≡ from_digits w a * 2 ^ (w * length b) + from_digits w b
unfolding from_digits
from_digits_append w [] b = omega arith
from_digits_append w (x ∷ a) b =
    let e : 2 ^ (w * length (a ++ b)) ≡ 2 ^ (w * length a) * 2 ^ (w * length b) =
    rw (length-append a b, mul-add w (length a) (length b)) (pow-add 2 (w * length a) (w * length b)) in
    rw (e, from_digits_append w a b) (omega arith)

pub from_digits_snoc : (w : ℕ) (a : List ℕ) (d : ℕ) → from_digits w (a ++ (d ∷ [])) ≡ from_digits w a * 2 ^ w + d
from_digits_snoc w a d =
    let e : from_digits w (d ∷ []) ≡ d = unfold from_digits in rw (mul-zero w) (omega arith) in
    from_digits_append w a (d ∷ []) ∙ rw (mul-one w, e)

-- the digits of a number around its digit k from the bottom
pub digits_around : (w i k n : ℕ)
    → digits w (i + suc k) n ≡ digits w i (n / 2 ^ (w * suc k)) ++ (n / 2 ^ (w * k) % 2 ^ w ∷ digits w k n)
unfolding digits
digits_around w zero k n = let e : zero + suc k ≡ suc k = omega arith in rw e
digits_around w (suc i) k n =
    let e : suc i + suc k ≡ suc (i + suc k) = omega arith in
    let s : w * suc k + w * i ≡ w * (i + suc k) = omega (arith, mul-add w i (suc k)) in
    rw (e, shr-shr n (w * suc k) (w * i), s, digits_around w i k n)

-- the digit at a place
pub digits_at : (w k n b : ℕ) → b < k → get_or (digits w k n) b 0 ≡ n / 2 ^ (w * (k - 1 - b)) % 2 ^ w
unfolding digits
digits_at w zero n b h = absurd (omega arith)
digits_at w (suc k) n zero h = let e : suc k - 1 - 0 ≡ k = omega arith in rw e
digits_at w (suc k) n (suc b) h =
    let e : suc k - 1 - suc b ≡ k - 1 - b = omega arith in rw e (digits_at w k n b (omega arith))
