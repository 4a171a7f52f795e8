-- Reals from their bits: which bits are a NaN, and the one NaN; words and bits that come back as they were.
-- Assumes nothing.
use mathlib.Core.Path.{◌≡◌, refl, sym, ◌∙◌}
use mathlib.Core.Bool.{true, not}
use mathlib.Core.Logic.{⊎_elim}
use Prim.Native.Nat.{ℕ, ◌≤◌, ◌<◌, ◌*◌, ◌%◌, ◌^◌}
use lib.Dec.{T, leb, eqb}
use lib.Ieee.{Float, nan, inf, fin, Format, binary32, binary64, of_bits, to_bits, nan_bits, is_nan, div, ones, hid, top}
use lib.Ieee.Bits.{to_bits-of_bits, nan_bits_above, nan_bits_is}
use mir.Syntax.{w64}
use mir.Val.{to_z, of_z}
use mir.ValLaws.{of_z-to_z}
use borrow.Author.Tests.{le-ltb, lt-ltb, leb-true, eqb-true}
use Rattle.x696.proofs.OutcomeLaws.{or_either}
use Rattle.x696.specs.Real.{real_allowed, binary32 as singleReal, binary64 as doubleReal}

pub not_nan : (f : Format) (b : ℕ) → b % top f ≤ ones f * hid f → T (not (nan_bits f b))
not_nan f b h = rw (nan_bits_above f b, le-ltb _ _ h) tt

nan_of : (x : Float) → is_nan x ≡ true → x ≡ nan
unfolding is_nan
nan_of nan e = refl
nan_of (inf s) e = cc
nan_of (fin s m e') e = cc

pub is_nan_lem : (f : Format) (b : ℕ) → ones f * hid f < b % top f → of_bits f b ≡ nan
is_nan_lem f b h = nan_of (of_bits f b) (sym (nan_bits_is f b) ∙ nan_bits_above f b ∙ lt-ltb _ _ h)

pub zero_by_zero : (f : Format) → div f (of_bits f 0) (of_bits f 0) ≡ nan
unfolding div of_bits
zero_by_zero binary32 = refl
zero_by_zero binary64 = refl

-- ---- numbers that come back
pub word_back : (n : ℕ) → n < 2 ^ 64 → of_z w64 (to_z w64 n) ≡ n
word_back n h = of_z-to_z w64 n (record { fits = h })

-- bits that are no NaN's
bits_back : (f : Format) (n : ℕ) → n < 2 * top f → n % top f ≤ ones f * hid f → to_bits f (of_bits f n) ≡ n
bits_back f n h g = to_bits-of_bits f n h (rw (nan_bits_is f n) at (not_nan f n g))

pub single_back : (n : ℕ) → n < 2 ^ 32 → real_allowed singleReal n ≡ true → to_bits binary32 (of_bits binary32 n) ≡ n
unfolding real_allowed to_bits of_bits
single_back n h a =
    ⊎_elim
    (λ e. bits_back binary32 n h (leb-true (n % 2 ^ 31) 0x7F800000 e))
    (λ e. let one : n ≡ 0x7FC00000 = eqb-true n 0x7FC00000 e in rw one refl)
    (or_either (leb (n % 2 ^ 31) 0x7F800000) (eqb n 0x7FC00000) a)

pub double_back : (n : ℕ) → n < 2 ^ 64 → real_allowed doubleReal n ≡ true → to_bits binary64 (of_bits binary64 n) ≡ n
unfolding real_allowed to_bits of_bits
double_back n h a =
    ⊎_elim
    (λ e. bits_back binary64 n h (leb-true (n % 2 ^ 63) 0x7FF0000000000000 e))
    (λ e. let one : n ≡ 0x7FF8000000000000 = eqb-true n 0x7FF8000000000000 e in rw one refl)
    (or_either (leb (n % 2 ^ 63) 0x7FF0000000000000) (eqb n 0x7FF8000000000000) a)
