-- A single setting, and a shown text (document 01, "Editing and reading by path"): what a component of a value is read
-- as. ENUMERATED is signed; INTEGER is unsigned or signed by its type; NULL is a group of none, a CHOICE of one;
-- a BIT STRING's size is in bits. Reals are their IEEE 754 bits. Assumes nothing.
use Rattle.std.specs.Prelude.{cond, ℕ, ◌+◌, ◌-◌, length, eqb}
use Rattle.x696.specs.Integer.{is_unsigned}
use Rattle.x696.specs.Real.{binary32, binary64}
use Rattle.x696.specs.Value.{Val, node}
use Rattle.x696.specs.Leaf.{Leaf, boolean, null, integer, enumerated, real, octet_string, bit_string, visible_string}
use Rattle.x696.specs.Types.{Ty, leaf, sequence, sequence_of, choice}
use Rattle.x696.specs.Encode.{encode}

pub data Setting : Type 0 where
  absent_setting : Setting
  truth unsigned_number signed_number single double string_size group : (word : ℕ) → Setting

unfoldable pub leaf_setting : Leaf → (number : ℕ) → Setting
leaf_setting boolean n = truth n
leaf_setting null n = group 0
leaf_setting (integer f a b) n = cond (is_unsigned f a) (unsigned_number n) (signed_number n)
leaf_setting (enumerated ns) n = signed_number n
leaf_setting (real binary32) n = single n
leaf_setting (real binary64) n = double n
leaf_setting (octet_string f a b) n = string_size n
leaf_setting (bit_string f a b) n = string_size n
leaf_setting (visible_string f a b) n = string_size n

unfoldable pub type_setting : Ty → (number : ℕ) → Setting
type_setting (leaf l) n = leaf_setting l n
type_setting (sequence is) n = group n
type_setting (sequence_of t) n = group n
type_setting (choice is) n = group 1

-- kind 0 is ABSENT
unfoldable pub setting_of : Ty → Val → Setting
setting_of t (node k n os vs) = cond (eqb k 0) absent_setting (type_setting t n)

-- a string's contents are the last octets of its encoding:
-- the part of the message that holds them, given the octets before it
pub data Shown : Type 0 where
  fallback : Shown
  part_of : (start size : ℕ) → Shown

unfoldable pub shown_string : (before : ℕ) → Ty → Val → Shown
shown_string before t (node k n os vs) = part_of (before + (length (encode t (node k n os vs)) - length os)) (length os)

unfoldable pub shown_if : (before : ℕ) → Ty → Val → Setting → Shown
shown_if before t v absent_setting = fallback
shown_if before t v (truth w) = fallback
shown_if before t v (unsigned_number w) = fallback
shown_if before t v (signed_number w) = fallback
shown_if before t v (single w) = fallback
shown_if before t v (double w) = fallback
shown_if before t v (string_size w) = shown_string before t v
shown_if before t v (group w) = fallback
