-- A setting as five numbers (document 01, "Editing and reading by path"): the refusal's three, what it is, and its
-- word. What it is: 0 refused, then 1 to 8 in document 01's order. A signed number's word is its two's complement, a
-- real's are its IEEE 754 bits; a NaN has those of the one NaN.
-- Assumes nothing.
use Rattle.std.specs.Prelude.{cond, ℕ}
use Rattle.std.specs.Float.{binary32, binary64}
use Rattle.std.specs.Float.Ieee.{to_bits}
use Rattle.std.specs.Int.{w64}
use Rattle.std.proofs.Common.{of_z}
use Rattle.showing.specs.declared.flat.FlatSetting.{FlatSetting}
use Rattle.showing.specs.declared.settings.Setting.{Setting}
use Rattle.showing.specs.declared.settings.Setting.TheVariants.{Absent, Truth, Unsigned, Signed, Single}
use Rattle.x696.specs.Reply.{Answer, refusal, done}
use Rattle.showing.specs.declared.settings.Setting.TheVariants.{Double, Size, Group}

unfoldable pub there_flat : (what word : ℕ) → FlatSetting
there_flat k w = record { number = 0; part = 0; place = 0; what = k; word = w }

unfoldable pub flat_of : Setting → FlatSetting
flat_of Absent = there_flat 1 0
flat_of (Truth b) = there_flat 2 (cond b 1 0)
flat_of (Unsigned n) = there_flat 3 n
flat_of (Signed z) = there_flat 4 (of_z w64 z)
flat_of (Single x) = there_flat 5 (to_bits binary32 x)
flat_of (Double x) = there_flat 6 (to_bits binary64 x)
flat_of (Size n) = there_flat 7 n
flat_of (Group n) = there_flat 8 n

-- of an answer: a refusal's three numbers, or the setting
unfoldable pub flat_answer : Answer Setting → FlatSetting
flat_answer (refusal n q p) = record { number = n; part = q; place = p; what = 0; word = 0 }
flat_answer (done s) = flat_of s
