-- Digits and numbers, both ways: k digits hold each number below 2 ^ (w * k), and each list of k digits is one number.
-- Assumes nothing.
use Rattle.std.specs.Prelude.{◌≡◌, refl, List, [], ◌∷◌, ◌++◌, ℕ, zero, suc, ◌+◌, ◌*◌, ◌^◌, ◌/◌, ◌%◌, ◌<◌, length}
use Rattle.std.proofs.Common.{ap, sym, ◌∙◌, mul-suc, mul-zero, add_comm, mod-lt, mod-eq_of_lt, pow_pos, pow-add}
use Rattle.std.proofs.Math.Nat.{mod-one}
use Rattle.std.proofs.Math.Pow.{high, low, field, mod-mod-pow}
use Rattle.std.proofs.lemmas.Nat.{mod-pow-add}
use Rattle.std.proofs.Math.Arith.{digits_lt}
use Rattle.x696.specs.Digits.{digits, from_digits, Below}

pub digits_length : (w k n : ℕ) → length (digits w k n) ≡ k
unfolding digits
digits_length w zero n = refl
digits_length w (suc k) n = ap suc (digits_length w k n)

pub digits_below : (w k n : ℕ) → Below w (digits w k n)
unfolding digits
digits_below w zero n = tt
digits_below w (suc k) n = (mod-lt (n / 2 ^ (w * k)) (pow_pos w), digits_below w k n)

pub mul_step : (w k : ℕ) → w * suc k ≡ w + w * k
mul_step w k = mul-suc w k ∙ add_comm (w * k) w

-- only the low digits count
pub digits_low : (w k n m : ℕ) → n % 2 ^ (w * k) ≡ m % 2 ^ (w * k) → digits w k n ≡ digits w k m
unfolding digits
digits_low w zero n m e = refl
digits_low w (suc k) n m e =
    let e' : n % 2 ^ (w + w * k) ≡ m % 2 ^ (w + w * k) = rw (mul_step w k) at e in
    let top : n / 2 ^ (w * k) % 2 ^ w ≡ m / 2 ^ (w * k) % 2 ^ w = rw (← field n w (w * k), ← field m w (w * k), e') in
    let low : n % 2 ^ (w * k) ≡ m % 2 ^ (w * k) = rw (← mod-mod-pow n w (w * k), ← mod-mod-pow m w (w * k), e') in
    rw (top, digits_low w k n m low)

pub from_digits_lt : (w : ℕ) (ds : List ℕ) → Below w ds → from_digits w ds < 2 ^ (w * length ds)
unfolding from_digits
from_digits_lt w [] b = pow_pos (w * 0)
from_digits_lt w (d ∷ ds) b = rw (mul_step w (length ds), pow-add) (digits_lt b.0 (from_digits_lt w ds b.1))

pub digits_from_digits : (w : ℕ) (ds : List ℕ) → Below w ds → digits w (length ds) (from_digits w ds) ≡ ds
unfolding digits from_digits
digits_from_digits w [] b = refl
digits_from_digits w (d ∷ ds) b =
    let h = from_digits_lt w ds b.1 in
    let e = low d (w * length ds) h ∙ sym (mod-eq_of_lt h) in
    rw (high d (w * length ds) h, mod-eq_of_lt b.0, digits_low w (length ds) _ _ e, digits_from_digits w ds b.1)

pub from_digits_digits_mod : (w k n : ℕ) → from_digits w (digits w k n) ≡ n % 2 ^ (w * k)
unfolding digits from_digits
from_digits_digits_mod w zero n = rw (mul-zero, mod-one)
from_digits_digits_mod w (suc k) n =
    rw (digits_length w k n, from_digits_digits_mod w k n, mul_step w k, mod-pow-add n w (w * k))

pub from_digits_digits : (w k n : ℕ) → n < 2 ^ (w * k) → from_digits w (digits w k n) ≡ n
from_digits_digits w k n h = from_digits_digits_mod w k n ∙ mod-eq_of_lt h

-- a list of digits in two parts
pub below_parts : (w : ℕ) (a b : List ℕ) → Below w (a ++ b) → Below w a × Below w b
below_parts w [] b h = (tt, h)
below_parts w (x ∷ a) b h = let g = below_parts w a b h.1 in ((h.0, g.0), g.1)

pub below_split : (w : ℕ) (a b : List ℕ) {s : List ℕ} → Below w s → s ≡ a ++ b → Below w a × Below w b
below_split w a b h e = below_parts w a b (rw e at h)

pub below_append : (w : ℕ) (a b : List ℕ) → Below w a → Below w b → Below w (a ++ b)
below_append w [] b h g = g
below_append w (x ∷ a) b h g = (h.0, below_append w a b h.1 g)
