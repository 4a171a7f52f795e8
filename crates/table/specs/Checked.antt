-- What the check of a table hands out: a table of these rows and items, which are sound; or the fault.
-- Assumes nothing.
use Rattle.std.specs.Prelude.{◌≡◌, Result, Ok, Err, List, ℕ}
use Rattle.x696.specs.TableFault.{sound, table_fault}
use Rattle.table.specs.Judged.{as_fault}
use Rattle.table.specs.declared.check.TableFault.{TableFault}
use Rattle.table.specs.declared.sound.Table.{Table}

pub record Checked (rows items : List ℕ) (r : Result Table TableFault) : Type 0 where
  pub went : (t : Table) → r ≡ Ok t
      → (t.rows.now ≡ rows) × (t.items.now ≡ items) × (table_fault rows items ≡ sound)
  pub stopped : (f : TableFault) → r ≡ Err f → as_fault (table_fault rows items) ≡ Err f
