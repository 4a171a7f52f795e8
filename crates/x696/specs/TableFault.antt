-- TABLE SIZE and TABLE ROW: what a table's check comes to (document 01, numbers 1 and 2).
-- Both lists are measured before any row is looked at; the whole table is judged, also rows that the asked one does
-- not reach. Assumes nothing.
use Rattle.std.specs.Prelude.{Bool, ◌&&◌, ◌||◌, List, [], ◌∷◌, ◌++◌, ℕ, zero, suc, ◌/◌, ◌%◌, length, get_or, ltb, leb, eqb}
use Rattle.x696.specs.Outcome.{choose}
use Rattle.x696.specs.Table.{row_width, row_kind, row_first, row_count, item_width, component_row, alternative_row}
use Rattle.x696.specs.TableCheck.{given, greatest, no_bounds, no_range, integer_sound, enumerated_sound, string_sound}
use Rattle.x696.specs.TableCheck.{sequence_sound, sequence_of_sound, choice_sound}

pub data TableFault : Type 0 where
  sound : TableFault
  bad_size : TableFault
  bad_row : (row : ℕ) → TableFault

module _ (rows items : List ℕ) where
  -- the rules of a row but for its nesting
  unfoldable pub row_sound : (row : ℕ) → Bool
  row_sound r =
      let k = row_kind rows r in
      choose (eqb k 2) (λ _. integer_sound rows items r) λ _.
      choose (eqb k 3) (λ _. enumerated_sound rows items r) λ _.
      choose (leb 7 k && leb k 9) (λ _. string_sound rows items r) λ _.
      choose (eqb k 10) (λ _. sequence_sound rows items r) λ _.
      choose (eqb k 11) (λ _. sequence_of_sound rows items r) λ _.
      choose (eqb k 12) (λ _. choice_sound rows items r) λ _.
      given (ltb 0 k && ltb k 7) λ _. given (no_bounds rows items r) λ _. no_range rows items r

  -- the nesting of a row, from those of the smaller rows: 1 for kinds 1 to 9,
  -- else one more than the greatest among its items' rows
  unfoldable pub row_nesting : (smaller : List ℕ) → (row : ℕ) → ℕ
  row_nesting ns r =
      let k = row_kind rows r in
      choose (eqb k 10 || eqb k 11)
      (λ _. suc (greatest (λ i. get_or ns (component_row items i) 0) (row_first rows r) (row_count rows r))) λ _.
      choose (eqb k 12)
      (λ _. suc (greatest (λ i. get_or ns (alternative_row items i) 0) (row_first rows r) (row_count rows r))) λ _. 1

  -- n rows from r on, with the nestings of the rows before r: a nesting is at most 16
  unfoldable pub rows_fault : (r n : ℕ) → (smaller : List ℕ) → TableFault
  rows_fault r zero ns = sound
  rows_fault r (suc n) ns =
      choose (given (row_sound r) λ _. leb (row_nesting ns r) 16)
      (λ _. rows_fault (suc r) n (ns ++ (row_nesting ns r ∷ [])))
      (λ _. bad_row r)

  -- whole rows, 1 to 256; whole items, 0 to 1,024
  unfoldable pub sizes_sound : Bool
  sizes_sound =
      given (eqb (length rows % row_width) 0) λ _.
      given (ltb 0 (length rows / row_width)) λ _.
      given (leb (length rows / row_width) 256) λ _.
      given (eqb (length items % item_width) 0) λ _. leb (length items / item_width) 1024

  unfoldable pub table_fault : TableFault
  table_fault = choose sizes_sound (λ _. rows_fault 0 (length rows / row_width) []) (λ _. bad_size)
