-- The kinds without components, 1 to 9: which numbers and contents they have, their octets, and how they are
-- read from a message: clauses 9 to 15 and 27, with 31.3. (`Walk` has how a list's node of such a kind is checked.)
-- Assumes nothing.
use Rattle.std.specs.Prelude.{◌≡◌, true, ◌||◌, List, [], ◌∷◌, ℕ, ◌*◌, ◌/◌, ◌^◌, ◌<◌, length, eqb}
use Rattle.x696.specs.Outcome.{Outcome, got, next, must}
use Rattle.x696.specs.Digits.{digits, from_digits, Below}
use Rattle.x696.specs.Length.{octet, run}
use Rattle.x696.specs.Bits.{bit_octets, unused_bits, low_bits_clear}
use Rattle.x696.specs.Integer.{allowed, integer_form, form_octets, read_form}
use Rattle.x696.specs.Enumerated.{listed, enumerated_octets, read_enumerated}
use Rattle.x696.specs.Real.{Precision, binary32, binary64, real_octets, real_allowed}
use Rattle.x696.specs.String.{size_allowed, any_octets, visible, text_octets, read_text, bit_string_octets}
use Rattle.x696.specs.String.{read_bit_string}
use Rattle.x696.specs.Value.{Val, node, no_values}

-- flags, A and B are the row's words
pub data Leaf : Type 0 where
  boolean null : Leaf
  integer : (flags a b : ℕ) → Leaf
  enumerated : (numbers : List ℕ) → Leaf
  real : Precision → Leaf
  octet_string bit_string visible_string : (flags a b : ℕ) → Leaf

unfoldable pub real_kind : Precision → ℕ
real_kind binary32 = 4
real_kind binary64 = 5

unfoldable pub leaf_kind : Leaf → ℕ
leaf_kind boolean = 1
leaf_kind (integer f a b) = 2
leaf_kind (enumerated ns) = 3
leaf_kind (real w) = real_kind w
leaf_kind null = 6
leaf_kind (octet_string f a b) = 7
leaf_kind (bit_string f a b) = 8
leaf_kind (visible_string f a b) = 9

-- the numbers and contents octets of a kind's values
pub data LeafFits : Leaf → (number : ℕ) → (octets : List ℕ) → Type 0 where
  boolean_fits : {n : ℕ} → n < 2 → LeafFits boolean n []
  null_fits : LeafFits null 0 []
  integer_fits : {f a b n : ℕ} → n < 2 ^ 64 → allowed f a b n ≡ true → LeafFits (integer f a b) n []
  enumerated_fits : {ns : List ℕ} {n : ℕ} → n < 2 ^ 64 → listed n ns ≡ true → LeafFits (enumerated ns) n []
  real_fits : {w : Precision} {n : ℕ} → n < 2 ^ (8 * real_octets w) → real_allowed w n ≡ true → LeafFits (real w) n []
  octets_fit : {f a b n : ℕ} {os : List ℕ} → Below 8 os → length os ≡ n → size_allowed f a b n ≡ true
      → LeafFits (octet_string f a b) n os
  visible_fits : {f a b n : ℕ} {os : List ℕ} → Below 8 os → length os ≡ n → size_allowed f a b n ≡ true
      → visible os ≡ true
      → LeafFits (visible_string f a b) n os
  bits_fit : {f a b n : ℕ} {os : List ℕ} → Below 8 os → length os ≡ bit_octets n → low_bits_clear (unused_bits n) os ≡ true
      → size_allowed f a b n ≡ true → LeafFits (bit_string f a b) n os

unfoldable pub encode_leaf : Leaf → (number : ℕ) → (octets : List ℕ) → List ℕ
encode_leaf boolean n os = (255 * n) ∷ []
encode_leaf null n os = []
encode_leaf (integer f a b) n os = form_octets (integer_form f a b) n
encode_leaf (enumerated ns) n os = enumerated_octets n
encode_leaf (real w) n os = digits 8 (real_octets w) n
encode_leaf (octet_string f a b) n os = text_octets f a b os
encode_leaf (bit_string f a b) n os = bit_string_octets f a b n os
encode_leaf (visible_string f a b) n os = text_octets f a b os

unfoldable pub read_leaf : Leaf → (p : ℕ) → List ℕ → Outcome (List ℕ) Val
-- 00 or FF (9, 31.3)
read_leaf boolean p s = next (octet p s) λ x r. must (eqb x 0 || eqb x 255) 6 p (got (node 1 (x / 255) [] no_values) r)
-- no octets (15)
read_leaf null p s = got (node 6 0 [] no_values) s
read_leaf (integer f a b) p s =
    next (read_form (integer_form f a b) p s) λ w r.
    must (allowed f a b w) 7 p (got (node 2 w [] no_values) r)
read_leaf (enumerated ns) p s = next (read_enumerated p s) λ w r. must (listed w ns) 7 p (got (node 3 w [] no_values) r)
-- house rule: one NaN
read_leaf (real w) p s =
    next (run p (real_octets w) s) λ os r.
    must (real_allowed w (from_digits 8 os)) 6 p (got (node (real_kind w) (from_digits 8 os) [] no_values) r)
read_leaf (octet_string f a b) p s = read_text any_octets 7 f a b p s
read_leaf (bit_string f a b) p s = read_bit_string f a b p s
read_leaf (visible_string f a b) p s = read_text visible 9 f a b p s
