-- Parts of reading under names, and what the code relies on of a CHOICE's tags.
-- Assumes nothing.
use Rattle.std.specs.Prelude.{Option, Some, None, ◌≡◌, true, cond, not, ◌&&◌, List, ℕ, ◌+◌, ◌<◌, eqb}
use Rattle.x696.specs.Tag.{tag}
use Rattle.x696.specs.Types.{Ty, alternative}
use Rattle.x696.specs.Table.{alternatives_from}
use Rattle.x696.specs.TableCheck.{tag_before}
use Rattle.octets.specs.Answers.{fault}
use Rattle.kinds.specs.declared.cursor.Cursor.{Cursor}
use Rattle.std.specs.Prelude.{Result, Ok, Err}
use Rattle.octets.specs.declared.faults.Cause.TheVariants.{NotCanonical}
use Rattle.octets.specs.declared.faults.Fault.{Fault}

-- a component that was read, with its mark and default: 6 where it is marked DEFAULT and its number is the default's
unfoldable pub checked : (mark default place : ℕ) → Cursor → Result Cursor Fault
checked m d p c = cond (not (eqb m 1) && eqb c.number d) (Err (fault NotCanonical p)) (Ok c)

-- the tags of n items ascend, any two
abbrev pub TagsAscend : (items : List ℕ) → (first n : ℕ) → Type 0
TagsAscend items first n = (i j : ℕ) → i < j → j < n → tag_before items (first + i) (first + j) ≡ true

-- the place among n items of the alternative with a tag, or that there is none
pub record Chooses (items : List ℕ) (first n class number : ℕ) (r : Option ℕ) : Type 0 where
  pub there : (k : ℕ) → r ≡ Some k
      → (k < n) × ((f : ℕ → Ty) → k ≡ alternative (alternatives_from f items first n) (tag class number))
  pub nowhere : r ≡ None → (f : ℕ → Ty) → n ≡ alternative (alternatives_from f items first n) (tag class number)
