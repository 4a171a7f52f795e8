-- The rows that a group's items name, each within the array of nestings: what the code asks before it works out a row's nesting.
-- Assumes nothing.
use Rattle.std.proofs.Common.{◌≡◌, true, ℕ, ◌+◌, ◌-◌, ◌/◌, ◌<◌, List, length, sym, arith}
use Rattle.std.specs.Prelude.{◌⊎◌, ◌≤◌}
use Rattle.std.proofs.Math.Logic.{⊎_elim}
use native.Mathlib.Nat.{lt_trans}
use Rattle.x696.specs.Table.{row_kind, row_first, row_count, item_width, item_word}
use Rattle.x696.specs.TableFault.{row_sound}
use Rattle.x696.specs.SoundTable.{Each}
use Rattle.table.specs.Kind.{code_of}
use Rattle.table.specs.declared.kind.Kind.{Kind}
use Rattle.table.specs.declared.kind.Kind.TheVariants.{Sequence, SequenceOf, Choice}
use Rattle.x696.proofs.TableRows.{sequence_row, sequence_of_row, choice_row}

each_in : (P : ℕ → Type 0) (first n : ℕ) → Each P first n → (i : ℕ) → first ≤ i → i < first + n → P i
each_in P first n h i l g = let e : first + (i - first) ≡ i = omega arith in rw e at (h (i - first) (omega arith))

module _ (rows items : List ℕ) (row : ℕ) (s : row_sound rows items row ≡ true) where
  -- the one item of a SEQUENCE OF, as one of a range
  pub element_lower : row_kind rows row ≡ 11 → Each (λ i. item_word items i 0 < row) (row_first rows row) (row_count rows row)
  element_lower k i h =
      let r = sequence_of_row rows items row s k in
      let only : row_first rows row + i ≡ row_first rows row = omega (arith, r.one) in
      rw only r.lower

  module _ (few : row < 256) {first n : ℕ} (isFirst : first ≡ row_first rows row) (isCount : n ≡ row_count rows row) where
    abbrev Named : (j : ℕ) → Type 0
    Named j =
        (j < item_width) × (first + n ≤ length items / item_width)
        × ((i : ℕ) → first ≤ i → i < first + n → item_word items i j < 256)

    named : (j : ℕ) → j < item_width → row_first rows row + row_count rows row ≤ length items / item_width
        → Each (λ i. item_word items i j < row) (row_first rows row) (row_count rows row) → Named j
    named j l range lower = rw (isFirst, isCount) (l, range, λ i g k. lt_trans (each_in (λ i. item_word items i j < row) _ _ lower i g k) few)

    module _ {kind : Kind} (e : code_of kind ≡ row_kind rows row) where
      pub choice_named : kind ≡ Choice → Named 2
      choice_named h =
          let r = choice_row rows items row s (sym (rw h at e)) in
          named 2 (omega arith) r.range λ i g. (r.alternative i g).lower

      pub components_named : (kind ≡ Sequence) ⊎ (kind ≡ SequenceOf) → Named 0
      components_named =
          ⊎_elim
          (λ h.
          let r = sequence_row rows items row s (sym (rw h at e)) in
          named 0 (omega arith) r.range λ i k. (r.component i k).lower)
          (λ h.
          let k : row_kind rows row ≡ 11 = sym (rw h at e) in
          named 0 (omega arith) (sequence_of_row rows items row s k).range (element_lower k))
