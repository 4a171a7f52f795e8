-- The rows judged so far, in the terms of `rows_fault`.
-- Assumes nothing.
use Rattle.std.specs.Prelude.{Result, Ok, Err, ⊤, ◌≡◌, Bool, cond, List, [], ℕ, ◌<◌, leb, length, get_or, Option, Some, None}
use Rattle.x696.specs.TableFault.{TableFault as Meant, sound, bad_size, bad_row, row_sound, row_nesting, rows_fault}
use Rattle.x696.specs.SoundTable.{nestings_of}
use Rattle.table.specs.declared.check.TableFault.{TableFault}
use Rattle.table.specs.declared.check.TableFault.TheVariants.{Size, Row}
use Rattle.octets.specs.declared.faults.Cause.TheVariants.{TableSize, TableRow}
use Rattle.octets.specs.declared.faults.Part.TheVariants.{Table}
use Rattle.octets.specs.declared.faults.Refusal.{Refusal}
use Rattle.octets.specs.Part.{refused}
use Rattle.table.specs.Orders.{SoundBelow}
use Rattle.x696.specs.TableCheck.{given}

-- the test of a row in `rows_fault`: its rules, and a nesting, from those of the smaller rows, of at most 16
abbrev pub kept : (rows items nestings : List ℕ) → (row : ℕ) → Bool
kept rows items ns r = given (row_sound rows items r) (λ _. leb (row_nesting rows items ns r) 16)

-- one row judged: its nesting, if it passes
abbrev pub judged_row : (rows items nestings : List ℕ) → (row : ℕ) → Option ℕ
judged_row rows items ns r = cond (kept rows items ns r) (Some (row_nesting rows items ns r)) None

-- the first n rows judged and sound, their nestings stored
pub record SoundRows (rows items : List ℕ) (n : ℕ) (nestings : List ℕ) : Type 0 where
  pub sound : rows_fault rows items 0 n [] ≡ sound
  pub below : SoundBelow rows items n
  pub whole : length nestings ≡ 256
  pub nested : (k : ℕ) → k < n → get_or nestings k 0 ≡ get_or (nestings_of rows items n) k 0

-- the fault of the definitions as the code names it
unfoldable pub as_fault : Meant → Result ⊤ TableFault
as_fault sound = Ok tt
as_fault bad_size = Err Size
as_fault (bad_row k) = Err (Row k)

-- and the refusal that it is: 1 TABLE SIZE, or 2 TABLE ROW at the row
abbrev pub table_refusal : TableFault → Refusal
table_refusal Size = refused TableSize Table 0
table_refusal (Row k) = refused TableRow Table k
