-- 1 where there is a mark. Assumes nothing.
use mathlib.Core.Path.{◌≡◌, refl}
use mathlib.Core.Bool.{Bool, true, false, not}
use Prim.Native.Nat.{ℕ, zero, suc, ◌≤◌}
use native.Mathlib.Omega.{arith}
use borrow.Author.Tests.{ne_eqb}
use lib.Dec.{eqb}
use mir.Val.{bool_byte}
use Rattle.x696.specs.Types.{presence_count}
use Rattle.reading.proofs.parts.bit_of.Goals as goal

flag_count : (m : ℕ) → bool_byte (not (eqb m 0)) ≡ presence_count m
unfolding bool_byte presence_count
flag_count zero = refl
flag_count (suc m) = rw (ne_eqb (suc m) 0 (λ e. omega (arith, e))) refl

flag_small : (b : Bool) → bool_byte b ≤ 1
unfolding bool_byte
flag_small true = omega arith
flag_small false = omega arith

pub returns : goal.returns
returns c = rw c.from.ensures (flag_count _, flag_small _)
