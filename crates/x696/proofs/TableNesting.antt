-- The nestings that a table's check works out row by row are those of the rows' types; so each type nests at most 16.
-- Assumes nothing.
use Rattle.std.specs.Prelude.{◌≡◌, true, length, get_or}
use Rattle.std.proofs.Math.Path.{refl}
use Rattle.std.proofs.Common.{ap, ◌∙◌, not-suc-le-zero}
use mathlib.Core.List.{List, []}
use mathlib.Core.WellFounded.{recursion}
use Prim.Native.Nat.{ℕ, zero, suc, ◌/◌, ◌≤◌, ◌<◌}
use native.Mathlib.Omega.{arith}
use Rattle.std.proofs.Math.Nat.{max-zero}
use lib.WfN.{lt-wf_rel}
use Rattle.std.proofs.Math.ListN.{length-append, get_or-append}
use Rattle.std.proofs.lemmas.List.{get_or_at}
use Rattle.x696.specs.Outcome.{choose}
use Rattle.x696.proofs.OutcomeLaws.{cases_lt}
use Rattle.x696.specs.Types.{Ty, nesting, nestings}
use Rattle.x696.specs.Table.{row_width, item_word, type_of, items_from}
use Rattle.x696.specs.TableCheck.{greatest}
use Rattle.x696.specs.TableFault.{sound, row_sound, row_nesting, table_fault}
use Rattle.x696.specs.SoundTable.{Each}
use Rattle.x696.proofs.TableTests.{each_first, each_later}
use Rattle.x696.specs.SoundTable.{nestings_of}
use Rattle.x696.proofs.TableLaws.{sound_table}
use Rattle.x696.proofs.TableRows.{kind_cases, sequence_row, sequence_of_row, choice_row}
use Rattle.x696.proofs.TableKinds.{no_group, leaf_type, sequence_type, sequence_of_type, choice_type}

-- where g gives the nestings of the types that f gives, the greatest among the items is that of the items' types
module _ (a b k : ℕ) (items : List ℕ) (f : ℕ → Ty) (g : ℕ → ℕ) where
  abbrev Right : (i : ℕ) → Type 0
  Right i = g (item_word items i k) ≡ nesting (f (item_word items i k))

  items_nesting : (first n : ℕ) → Each Right first n
      → greatest (λ i. g (item_word items i k)) first n ≡ nestings (items_from a b k f items first n)
  unfolding greatest nesting items_from
  items_nesting first zero h = refl
  items_nesting first (suc n) h =
      rw (each_first Right first n h, items_nesting (suc first) n (each_later Right first n h))

module _ (rows items : List ℕ) where
  abbrev worked : (row : ℕ) → ℕ
  worked r = row_nesting rows items (nestings_of rows items r) r

  abbrev nesting_at : (n k : ℕ) → ℕ
  nesting_at n k = get_or (nestings_of rows items n) k 0

  nestings_length : (n : ℕ) → length (nestings_of rows items n) ≡ n
  unfolding nestings_of
  nestings_length zero = refl
  nestings_length (suc n) = length-append (nestings_of rows items n) _ ∙ rw (nestings_length n) (omega arith)

  -- each nesting worked out stays in the list
  pub nestings_at : (n k : ℕ) → k < n → nesting_at n k ≡ worked k
  unfolding nestings_of
  nestings_at zero k h = absurd (not-suc-le-zero h)
  nestings_at (suc n) k h =
      cases_lt k n
      (λ _ l. get_or-append (nestings_of rows items n) _ 0 k (rw (nestings_length n) l) ∙ nestings_at n k l)
      (λ _ l. let e : k ≡ n = omega arith in rw e (get_or_at (nestings_of rows items n) _ [] 0 n (nestings_length n)))

  module _ (r : ℕ) (smaller : (k : ℕ) → k < r → nesting_at r k ≡ nesting (type_of rows items k)) where
    row_nesting_lem : row_sound rows items r ≡ true → worked r ≡ nesting (type_of rows items r)
    unfolding row_nesting choose nesting greatest
    row_nesting_lem e =
        let types : ℕ → Ty = λ k. type_of rows items k in
        kind_cases rows items r e
        (λ k.
        let no = no_group rows r k in
        rw ((leaf_type rows items r k).1, no 10 (omega arith), no 11 (omega arith), no 12 (omega arith)))
        (λ k.
        let row = sequence_row rows items r e k in
        rw (sequence_type rows items r e k, k)
        (ap suc (items_nesting 1 2 0 items types (nesting_at r) _ _ λ i h. smaller _ (row.component i h).lower)))
        (λ k.
        let row = sequence_of_row rows items r e k in
        rw (sequence_of_type rows items r e k, k, row.one, max-zero) (ap suc (smaller _ row.lower)))
        (λ k.
        let row = choice_row rows items r e k in
        rw (choice_type rows items r e k, k)
        (ap suc (items_nesting 0 1 2 items types (nesting_at r) _ _ λ i h. smaller _ (row.alternative i h).lower)))

  pub nesting_is : table_fault rows items ≡ sound → (r : ℕ) → r < length rows / row_width
      → worked r ≡ nesting (type_of rows items r)
  nesting_is e r =
      recursion lt-wf_rel.wf
      {C = λ r. r < length rows / row_width → worked r ≡ nesting (type_of rows items r)} r λ r smaller h.
      row_nesting_lem r (λ k l. nestings_at r k l ∙ smaller k l (omega arith)) (((sound_table rows items).0 e).row r h)

  pub nesting_limit : table_fault rows items ≡ sound → (r : ℕ) → r < length rows / row_width
      → nesting (type_of rows items r) ≤ 16
  nesting_limit e r h = rw (← nesting_is e r h) (((sound_table rows items).0 e).nests r h)
