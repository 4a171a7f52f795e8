-- A setting as the code's enum has it: document 01's number and value for each of its cases. A real is the one with
-- those bits; a NaN is the one NaN. And the setting of a value by its row's kind.
-- Assumes nothing.
use Rattle.std.specs.Prelude.{cond, ℕ, eqb}
use Rattle.std.specs.Float.{binary32, binary64}
use Rattle.std.specs.Float.Ieee.{of_bits, to_bits}
use Rattle.std.specs.Int.{w64}
use Rattle.std.proofs.Common.{to_z, of_z}
use Rattle.x696.specs.Outcome.{choose}
use Rattle.x696.specs.Encode.{bit}
use Rattle.x696.specs.Integer.{is_unsigned}
use Rattle.x696.specs.Setting.{Setting as Meant, absent_setting, truth, unsigned_number, signed_number, single, double}
use Rattle.x696.specs.Setting.{string_size, group}
use Rattle.x696.specs.Reply.{Answer, refusal, done}
use Rattle.showing.specs.declared.settings.Setting.{Setting}
use Rattle.showing.specs.declared.settings.Setting.TheVariants.{Absent, Truth, Unsigned, Signed, Single}
use Rattle.std.specs.Prelude.{Result, Ok, Err}
use Rattle.octets.specs.declared.faults.Refusal.{Refusal}
use Rattle.table.specs.Replies.{as_answer}
use Rattle.showing.specs.declared.settings.Setting.TheVariants.{Double, Size, Group}

unfoldable pub setting_as : Meant → Setting
setting_as absent_setting = Absent
setting_as (truth n) = Truth (eqb n 1)
setting_as (unsigned_number n) = Unsigned n
setting_as (signed_number n) = Signed (to_z w64 n)
setting_as (single n) = Single (of_bits binary32 n)
setting_as (double n) = Double (of_bits binary64 n)
setting_as (string_size n) = Size n
setting_as (group n) = Group n

unfoldable pub answer_as : Answer Meant → Answer Setting
answer_as (refusal n q p) = refusal n q p
answer_as (done s) = done (setting_as s)

-- what the code answers, in the same terms: a refusal by its three numbers
unfoldable pub told : Result Setting Refusal → Answer Setting
told (Ok s) = done s
told (Err x) = as_answer x

-- and back: what each case tells, the bits of a real and the word of a number
unfoldable pub setting_back : Setting → Answer Meant
setting_back Absent = done absent_setting
setting_back (Truth x) = done (truth (bit x))
setting_back (Unsigned n) = done (unsigned_number n)
setting_back (Signed z) = done (signed_number (of_z w64 z))
setting_back (Single x) = done (single (to_bits binary32 x))
setting_back (Double x) = done (double (to_bits binary64 x))
setting_back (Size n) = done (string_size n)
setting_back (Group n) = done (group n)

unfoldable pub integer_setting : (flags a number : ℕ) → Meant
integer_setting f a n = cond (is_unsigned f a) (unsigned_number n) (signed_number n)

unfoldable pub kind_setting : (kind flags a number : ℕ) → Meant
kind_setting k f a n =
    choose (eqb k 1) (λ _. truth n) λ _.
    choose (eqb k 2) (λ _. integer_setting f a n) λ _.
    choose (eqb k 3) (λ _. signed_number n) λ _.
    choose (eqb k 4) (λ _. single n) λ _.
    choose (eqb k 5) (λ _. double n) λ _.
    choose (eqb k 7) (λ _. string_size n) λ _.
    choose (eqb k 8) (λ _. string_size n) λ _.
    choose (eqb k 9) (λ _. string_size n) λ _.
    choose (eqb k 10) (λ _. group n) λ _.
    choose (eqb k 11) (λ _. group n) λ _.
    choose (eqb k 12) (λ _. group 1) λ _.
    group 0
