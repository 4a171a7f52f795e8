-- A table's check finds no fault exactly if both lists have their sizes, each row keeps its rules and nests at most 16.
-- Before that: the type of a row is the type by its kind, over the types of the smaller rows.
-- Assumes nothing.
use Rattle.std.proofs.Math.Path.{◌≡◌, refl}
use Rattle.std.proofs.Common.{sym, zero-add, not-suc-le-zero}
use Rattle.std.specs.Prelude.{true, List, ◌↔◌}
use Rattle.std.proofs.Math.Bool.{false}
use Prim.Native.Nat.{ℕ, zero, suc, ◌+◌, ◌*◌, ◌/◌, ◌≤◌, ◌<◌}
use native.Mathlib.Omega.{arith}
use Rattle.std.proofs.Math.ListN.{length}
use Rattle.std.proofs.Math.Dec.{eqb}
use borrow.Author.Tests.{lt-ltb, le-leb, eq-eqb, ne_eqb, ltb-true, leb-true, eqb-true}
use Rattle.x696.specs.Outcome.{choose}
use Rattle.x696.proofs.OutcomeLaws.{choose_inv, cases_lt}
use Rattle.x696.specs.SoundTable.{SoundTable, nestings_of, Each}
use Rattle.x696.specs.Table.{row_width, item_width, type_by, type_among, type_of}
use Rattle.x696.specs.TableCheck.{given}
use Rattle.x696.specs.TableFault.{sound, row_sound, row_nesting, rows_fault, sizes_sound, table_fault}
use Rattle.x696.proofs.TableTests.{given_inv, each_first, each_later, each_all}

module _ (rows items : List ℕ) where
  pub type_of_row : (r : ℕ) → type_of rows items r ≡ type_by (λ k. type_among r rows items k) rows items r
  unfolding type_of type_among choose
  type_of_row r = rw (eq-eqb r r refl)

  pub type_among_below : (n k : ℕ) → k < n → type_among n rows items k ≡ type_of rows items k
  unfolding type_among choose
  type_among_below zero k h = absurd (not-suc-le-zero h)
  type_among_below (suc n) k h =
      cases_lt k n
      (λ _ l. let other : eqb k n ≡ false = ne_eqb k n (λ e. omega arith) in rw other (type_among_below n k l))
      (λ _ l. let same : k ≡ n = omega arith in rw (eq-eqb k n same, same) (sym (type_of_row n)))

  abbrev KeptRow : (row : ℕ) → Type 0
  KeptRow r = (row_sound rows items r ≡ true) × (row_nesting rows items (nestings_of rows items r) r ≤ 16)

  rows_kept : (r n : ℕ) → rows_fault rows items r n (nestings_of rows items r) ≡ sound → Each KeptRow r n
  unfolding rows_fault nestings_of
  rows_kept r zero e = λ i h. absurd (not-suc-le-zero h)
  rows_kept r (suc n) e =
      choose_inv _ _ _ e
      (λ t q. given_inv _ _ t λ kept few. each_all KeptRow r n (kept, leb-true _ 16 few) (rows_kept (suc r) n q))
      (λ _ q. let z : ◌≡◌ {A = ℕ} 0 1 = cc in absurd (omega arith))

  kept_rows : (r n : ℕ) → Each KeptRow r n → rows_fault rows items r n (nestings_of rows items r) ≡ sound
  unfolding rows_fault nestings_of given choose
  kept_rows r zero h = refl
  kept_rows r (suc n) h =
      let (kept, few) = each_first KeptRow r n h in
      rw (kept, le-leb _ 16 few) (kept_rows (suc r) n (each_later KeptRow r n h))

  from_sound : table_fault rows items ≡ sound → SoundTable rows items
  unfolding table_fault sizes_sound nestings_of
  from_sound e =
      choose_inv _ _ _ e
      (λ t q.
      given_inv _ _ t λ whole_rows t.
      given_inv _ _ t λ some_rows t.
      given_inv _ _ t λ few_rows t.
      given_inv _ _ t λ whole_items few_items.
      let all : Each KeptRow 0 (length rows / row_width) = rows_kept 0 (length rows / row_width) q in
      let kept : (r : ℕ) → r < length rows / row_width → KeptRow r = λ r h. rw (zero-add r) at (all r h) in
      record {
        whole_rows = eqb-true _ 0 whole_rows;
        some_rows = ltb-true 0 _ some_rows;
        few_rows = leb-true _ 256 few_rows;
        whole_items = eqb-true _ 0 whole_items;
        few_items = leb-true _ 1024 few_items;
        row = λ r h. (kept r h).0;
        nests = λ r h. (kept r h).1;
      })
      (λ _ q. let z : ◌≡◌ {A = ℕ} 0 1 = cc in absurd (omega arith))

  to_sound : SoundTable rows items → table_fault rows items ≡ sound
  unfolding table_fault sizes_sound given choose nestings_of
  to_sound s =
      rw (eq-eqb _ 0 s.whole_rows, lt-ltb 0 _ s.some_rows, le-leb _ 256 s.few_rows)
      (rw (eq-eqb _ 0 s.whole_items, le-leb _ 1024 s.few_items)
      (kept_rows 0 _ λ i h. rw (zero-add i) (s.row i h, s.nests i h)))

  pub sound_table : (table_fault rows items ≡ sound) ↔ SoundTable rows items
  sound_table = (from_sound, to_sound)

-- the words of a row, and of an item in a row's range, lie inside their lists
pub row_inside : (rows : List ℕ) (r j : ℕ) → r < length rows / row_width → j < row_width → r * row_width + j < length rows
row_inside rows r j h g = omega arith

pub item_inside : (items : List ℕ) (first count i j : ℕ) → first + count ≤ length items / item_width → i < count
    → j < item_width → (first + i) * item_width + j < length items
item_inside items first count i j h l g = omega arith
