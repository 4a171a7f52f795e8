-- The constants of a REAL's format: that they are those of its precision. Assumes nothing.
use Rattle.std.specs.Prelude.{◌≡◌, refl, ◌||◌, ℕ, ◌+◌, ◌*◌, ◌^◌, ◌%◌, leb, eqb}
use Rattle.x696.specs.Real.{Precision, binary32, binary64, real_octets, real_allowed}

pub record Format (p : Precision) (octets sign infinity nan : ℕ) : Type 0 where
  pub has_octets : octets ≡ real_octets p
  pub has_sign : sign + sign ≡ 2 ^ (8 * real_octets p)
  pub has_nan : (bits : ℕ) → real_allowed p bits ≡ leb (bits % sign) infinity || eqb bits nan

pub single_format : Format binary32 4 (2 ^ 31) 0x7F800000 0x7FC00000
unfolding real_octets real_allowed
single_format = record { has_octets = refl; has_sign = refl; has_nan = λ n. refl }

pub double_format : Format binary64 8 (2 ^ 63) 0x7FF0000000000000 0x7FF8000000000000
unfolding real_octets real_allowed
double_format = record { has_octets = refl; has_sign = refl; has_nan = λ n. refl }
