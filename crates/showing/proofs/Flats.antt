-- The words of reals. Premises are the tests as they went.
-- Assumes nothing.
use mathlib.Core.Path.{◌≡◌, refl, sym, subst, ◌∙◌}
use mathlib.Core.Bool.{true, false, not}
use Prim.Native.Nat.{◌<◌, ◌^◌}
use native.Mathlib.Omega.{arith}
use lib.Dec.{T}
use lib.Ieee.{Float, nan, inf, fin, is_nan, fits, ne, to_bits, binary32}
use lib.Ieee.Bits.{to_bits-lt}
use lib.Ieee.Compare.{differs_from_itself, nan_differs}

-- ---- reals: only a NaN differs from itself
pub only_nan : (x : Float) → ne x x ≡ true → x ≡ nan
only_nan x e = differs_from_itself x (subst T (sym e) tt)

is_number : (x : Float) → ne x x ≡ false → is_nan x ≡ false
unfolding is_nan
is_number nan e = let z : true ≡ false = sym nan_differs ∙ e in cc
is_number (inf s) e = refl
is_number (fin s m d) e = refl

pub no_nan : (x : Float) → ne x x ≡ false → T (not (is_nan x))
no_nan x e = rw (is_number x e) tt

pub single_small : (x : Float) → fits binary32 x ≡ true → to_bits binary32 x < 2 ^ 64
single_small x e = omega (arith, to_bits-lt binary32 x (subst T (sym e) tt))
