-- The check of a type table: every rule of document 01's "The type table", in order of rows; the first row that breaks
-- one is named. Each row's nesting is worked out once, from those of the smaller rows. `given` tests in order and stops
-- at the first failure, so a row's items are looked at only after its range.
-- How these rules are read: docs/DECISIONS.md, 1 to 8. Assumes nothing.
use Rattle.std.specs.Prelude.{Bool, true, false, cond, not, ◌&&◌, ◌||◌, List, ℕ, zero, suc, ◌+◌, ◌/◌, max, length, ltb, leb, eqb}
use Rattle.x696.specs.Outcome.{choose}
use Rattle.x696.specs.Integer.{rank, has_lower, has_upper, is_unsigned, allowed}
use Rattle.x696.specs.Enumerated.{listed}
use Rattle.x696.specs.Leaf.{boolean, null, integer, enumerated, real, octet_string, bit_string, visible_string}
use Rattle.x696.specs.Types.{Ty, leaf, sequence, sequence_of, choice}
use Rattle.x696.specs.Table.{row_flags, row_a, row_b, row_first, row_count, item_width, type_of}
use Rattle.x696.specs.Table.{enumerated_number, rest_zero, component_row, component_mark, component_default}
use Rattle.x696.specs.Table.{tag_class, tag_number, alternative_row}

-- a test, and only if it holds the next ones
unfoldable pub given : Bool → (Unit {0} → Bool) → Bool
given t more = choose t more (λ _. false)

-- n items from the first on: each of them, and each with the one after it
unfoldable pub every : (ℕ → Bool) → (first n : ℕ) → Bool
every f first zero = true
every f first (suc n) = given (f first) λ _. every f (suc first) n

unfoldable pub ascending : (ℕ → ℕ → Bool) → (first n : ℕ) → Bool
ascending before first zero = true
ascending before first (suc zero) = true
ascending before first (suc (suc n)) = given (before first (suc first)) λ _. ascending before (suc first) (suc n)

unfoldable pub greatest : (ℕ → ℕ) → (first n : ℕ) → ℕ
greatest f first zero = 0
greatest f first (suc n) = max (f first) (greatest f (suc first) n)

-- a DEFAULT is only for kinds 1, 2, 3 (an allowed value) and 11 (0, the empty list)
unfoldable pub default_sound : Ty → (default : ℕ) → Bool
default_sound (leaf boolean) d = ltb d 2
default_sound (leaf null) d = false
default_sound (leaf (integer f a b)) d = allowed f a b d
default_sound (leaf (enumerated ns)) d = listed d ns
default_sound (leaf (real w)) d = false
default_sound (leaf (octet_string f a b)) d = false
default_sound (leaf (bit_string f a b)) d = false
default_sound (leaf (visible_string f a b)) d = false
default_sound (sequence is) d = false
default_sound (sequence_of t) d = eqb d 0
default_sound (choice is) d = false

-- the order of tags: by class, then number
unfoldable pub tag_before : (items : List ℕ) → (i j : ℕ) → Bool
tag_before items i j =
    ltb (tag_class items i) (tag_class items j)
    || (eqb (tag_class items i) (tag_class items j) && ltb (tag_number items i) (tag_number items j))

module _ (rows items : List ℕ) where
  -- the words that a kind does not name are 0
  unfoldable pub no_bounds : (row : ℕ) → Bool
  no_bounds r = eqb (row_flags rows r) 0 && (eqb (row_a rows r) 0 && eqb (row_b rows r) 0)

  unfoldable pub no_range : (row : ℕ) → Bool
  no_range r = eqb (row_first rows r) 0 && eqb (row_count rows r) 0

  unfoldable pub range_inside : (row : ℕ) → Bool
  range_inside r = leb (row_first rows r + row_count rows r) (length items / item_width)

  -- kind 2: flags 0 to 3; an unset bound is 0; A at most B, as numbers
  unfoldable pub integer_sound : (row : ℕ) → Bool
  integer_sound r =
      let f = row_flags rows r in
      let a = row_a rows r in
      let b = row_b rows r in
      given (ltb f 4) λ _.
      given (has_lower f || eqb a 0) λ _.
      given (has_upper f || eqb b 0) λ _.
      given (not (has_lower f && has_upper f) || cond (is_unsigned f a) (leb a b) (leb (rank a) (rank b))) λ _. no_range r

  -- kind 3: 1 or more items (number, 0, 0), strictly ascending as signed
  unfoldable pub enumerated_sound : (row : ℕ) → Bool
  enumerated_sound r =
      given (no_bounds r) λ _.
      given (ltb 0 (row_count rows r)) λ _.
      given (range_inside r) λ _.
      given (every (λ i. rest_zero items i) (row_first rows r) (row_count rows r)) λ _.
      ascending (λ i j. ltb (rank (enumerated_number items i)) (rank (enumerated_number items j)))
      (row_first rows r) (row_count rows r)

  -- kinds 7 to 9: A least size; flags 2 = B greatest size; each at most 65,535, A at most B
  unfoldable pub string_sound : (row : ℕ) → Bool
  string_sound r =
      let f = row_flags rows r in
      let a = row_a rows r in
      let b = row_b rows r in
      given (eqb f 0 || eqb f 2) λ _.
      given (leb a 65535 && leb b 65535) λ _.
      given (cond (has_upper f) (leb a b) (eqb b 0)) λ _. no_range r

  -- kind 10: an item (row, mark, default) names a smaller row; mark 0, 1 or 2;
  -- a default only under mark 2, and one of its type
  unfoldable pub component_sound : (row i : ℕ) → Bool
  component_sound r i =
      given (ltb (component_row items i) r) λ _.
      given (ltb (component_mark items i) 3) λ _.
      choose (eqb (component_mark items i) 2)
      (λ _. default_sound (type_of rows items (component_row items i)) (component_default items i))
      (λ _. eqb (component_default items i) 0)

  unfoldable pub sequence_sound : (row : ℕ) → Bool
  sequence_sound r =
      given (no_bounds r) λ _.
      given (range_inside r) λ _. every (λ i. component_sound r i) (row_first rows r) (row_count rows r)

  -- kind 11: one item (row, 0, 0)
  unfoldable pub sequence_of_sound : (row : ℕ) → Bool
  sequence_of_sound r =
      given (no_bounds r) λ _.
      given (eqb (row_count rows r) 1) λ _.
      given (range_inside r) λ _.
      given (rest_zero items (row_first rows r)) λ _. ltb (component_row items (row_first rows r)) r

  -- kind 12: 1 or more items (class 0 to 3, number 0 to 2,097,151, row), strictly ascending by class, then number
  unfoldable pub alternative_sound : (row i : ℕ) → Bool
  alternative_sound r i =
      given (ltb (tag_class items i) 4) λ _. given (leb (tag_number items i) 2097151) λ _. ltb (alternative_row items i) r

  unfoldable pub choice_sound : (row : ℕ) → Bool
  choice_sound r =
      given (no_bounds r) λ _.
      given (ltb 0 (row_count rows r)) λ _.
      given (range_inside r) λ _.
      given (every (λ i. alternative_sound r i) (row_first rows r) (row_count rows r)) λ _.
      ascending (λ i j. tag_before items i j) (row_first rows r) (row_count rows r)
