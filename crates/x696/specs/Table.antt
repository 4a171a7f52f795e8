-- The type table (document 01, "The type table"): its words by name, and the type that a row stands for.
-- Widths and positions of words stand here alone. A word past the end of its list is 0, so every definition is total.
-- An item names only a smaller row; `type_of` follows no other, and gives NULL in its place. Assumes nothing.
use Rattle.std.specs.Prelude.{Bool, ◌&&◌, List, [], ◌∷◌, ℕ, zero, suc, ◌+◌, ◌*◌, get_or, eqb}
use Rattle.x696.specs.Outcome.{choose}
use Rattle.x696.specs.Real.{binary32, binary64}
use Rattle.x696.specs.Leaf.{boolean, null, integer, enumerated, real, octet_string, bit_string, visible_string}
use Rattle.x696.specs.Types.{Ty, leaf, sequence, sequence_of, choice, Items, no_items, item}

-- a row: kind, flags, A, B, first item, item count
abbrev pub row_width : ℕ
row_width = 6

unfoldable pub row_word : (rows : List ℕ) → (row j : ℕ) → ℕ
row_word rows r j = get_or rows (r * row_width + j) 0

abbrev pub row_kind : (rows : List ℕ) → (row : ℕ) → ℕ
row_kind rows r = row_word rows r 0

abbrev pub row_flags : (rows : List ℕ) → (row : ℕ) → ℕ
row_flags rows r = row_word rows r 1

abbrev pub row_a : (rows : List ℕ) → (row : ℕ) → ℕ
row_a rows r = row_word rows r 2

abbrev pub row_b : (rows : List ℕ) → (row : ℕ) → ℕ
row_b rows r = row_word rows r 3

abbrev pub row_first : (rows : List ℕ) → (row : ℕ) → ℕ
row_first rows r = row_word rows r 4

abbrev pub row_count : (rows : List ℕ) → (row : ℕ) → ℕ
row_count rows r = row_word rows r 5

-- an item: three words, read by the kind of the row that uses it
abbrev pub item_width : ℕ
item_width = 3

unfoldable pub item_word : (items : List ℕ) → (i j : ℕ) → ℕ
item_word items i j = get_or items (i * item_width + j) 0

-- ENUMERATED: (number, 0, 0). The last two words, which also a SEQUENCE OF does not use, are 0
abbrev pub enumerated_number : (items : List ℕ) → (i : ℕ) → ℕ
enumerated_number items i = item_word items i 0

unfoldable pub rest_zero : (items : List ℕ) → (i : ℕ) → Bool
rest_zero items i = eqb (item_word items i 1) 0 && eqb (item_word items i 2) 0

-- SEQUENCE: (row, mark, default); SEQUENCE OF: (row, 0, 0)
abbrev pub component_row : (items : List ℕ) → (i : ℕ) → ℕ
component_row items i = item_word items i 0

abbrev pub component_mark : (items : List ℕ) → (i : ℕ) → ℕ
component_mark items i = item_word items i 1

abbrev pub component_default : (items : List ℕ) → (i : ℕ) → ℕ
component_default items i = item_word items i 2

-- CHOICE: (class, number, row)
abbrev pub tag_class : (items : List ℕ) → (i : ℕ) → ℕ
tag_class items i = item_word items i 0

abbrev pub tag_number : (items : List ℕ) → (i : ℕ) → ℕ
tag_number items i = item_word items i 1

abbrev pub alternative_row : (items : List ℕ) → (i : ℕ) → ℕ
alternative_row items i = item_word items i 2

-- the numbers of n items from the first on
unfoldable pub numbers_from : (items : List ℕ) → (first n : ℕ) → List ℕ
numbers_from items first zero = []
numbers_from items first (suc n) = enumerated_number items first ∷ numbers_from items (suc first) n

-- n items from the first on: words a and b of each, and the type that f gives of the row in word k
unfoldable pub items_from : (a b k : ℕ) → (ℕ → Ty) → (items : List ℕ) → (first n : ℕ) → Items
items_from a b k f items first zero = no_items
items_from a b k f items first (suc n) =
    item (item_word items first a) (item_word items first b) (f (item_word items first k))
    (items_from a b k f items (suc first) n)

-- (row, mark, default) and (class, number, row)
abbrev pub components_from : (ℕ → Ty) → (items : List ℕ) → (first n : ℕ) → Items
components_from f items first n = items_from 1 2 0 f items first n

abbrev pub alternatives_from : (ℕ → Ty) → (items : List ℕ) → (first n : ℕ) → Items
alternatives_from f items first n = items_from 0 1 2 f items first n

-- the type of a row by its kind; f gives the types of the rows that its items name
unfoldable pub type_by : (ℕ → Ty) → (rows items : List ℕ) → (row : ℕ) → Ty
type_by f rows items r =
    choose (eqb (row_kind rows r) 1) (λ _. leaf boolean) λ _.
    choose (eqb (row_kind rows r) 2) (λ _. leaf (integer (row_flags rows r) (row_a rows r) (row_b rows r))) λ _.
    choose (eqb (row_kind rows r) 3)
    (λ _. leaf (enumerated (numbers_from items (row_first rows r) (row_count rows r)))) λ _.
    choose (eqb (row_kind rows r) 4) (λ _. leaf (real binary32)) λ _.
    choose (eqb (row_kind rows r) 5) (λ _. leaf (real binary64)) λ _.
    choose (eqb (row_kind rows r) 7) (λ _. leaf (octet_string (row_flags rows r) (row_a rows r) (row_b rows r))) λ _.
    choose (eqb (row_kind rows r) 8) (λ _. leaf (bit_string (row_flags rows r) (row_a rows r) (row_b rows r))) λ _.
    choose (eqb (row_kind rows r) 9) (λ _. leaf (visible_string (row_flags rows r) (row_a rows r) (row_b rows r))) λ _.
    choose (eqb (row_kind rows r) 10) (λ _. sequence (components_from f items (row_first rows r) (row_count rows r))) λ _.
    choose (eqb (row_kind rows r) 11) (λ _. sequence_of (f (component_row items (row_first rows r)))) λ _.
    choose (eqb (row_kind rows r) 12) (λ _. choice (alternatives_from f items (row_first rows r) (row_count rows r))) λ _.
    leaf null

-- the type of a row among the first n
unfoldable pub type_among : (n : ℕ) → (rows items : List ℕ) → (row : ℕ) → Ty
type_among zero rows items r = leaf null
type_among (suc n) rows items r =
    choose (eqb r n) (λ _. type_by (λ k. type_among n rows items k) rows items r) (λ _. type_among n rows items r)

unfoldable pub type_of : (rows items : List ℕ) → (row : ℕ) → Ty
type_of rows items r = type_among (suc r) rows items r
