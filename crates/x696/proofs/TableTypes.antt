-- Each type of a sound table is well formed.
-- Assumes nothing.
use Rattle.std.specs.Prelude.{◌≡◌, refl, true, List, [], ◌∷◌, length, get_or}
use Rattle.std.proofs.lemmas.Bool.{false≢true}
use mathlib.Core.WellFounded.{recursion}
use Prim.Native.Nat.{ℕ, zero, suc, ◌/◌, ◌^◌, ◌<◌}
use Rattle.std.proofs.Common.{arith, pow_pos, ltb-true, eqb-true}
use lib.WfN.{lt-wf_rel}
use Rattle.x696.specs.Digits.{Below}
use Rattle.x696.specs.Value.{node, no_values, value_count}
use Rattle.x696.specs.Leaf.{boolean, null, integer, enumerated, real, octet_string, bit_string, visible_string}
use Rattle.x696.specs.Leaf.{boolean_fits, integer_fits, enumerated_fits}
use Rattle.x696.specs.Types.{Ty, leaf, sequence, sequence_of, choice, kind_of, missing}
use Rattle.x696.specs.Fits.{Fits, leaf_fits, sequence_of_fits, no_elements}
use Rattle.x696.specs.WellFormed.{DefaultFits, WellFormed, WellFormedComponents, WellFormedAlternatives}
use Rattle.x696.specs.Table.{row_width, item_word, components_from, alternatives_from, type_of, items_from}
use Rattle.x696.specs.TableCheck.{default_sound}
use Rattle.x696.specs.TableFault.{sound, row_sound, table_fault}
use Rattle.x696.specs.SoundTable.{Each}
use Rattle.x696.proofs.TableTests.{each_first, each_later}
use Rattle.x696.proofs.TableLaws.{sound_table}
use Rattle.x696.proofs.TableTags.{tags_differ}
use Rattle.x696.specs.SoundTable.{Component}
use Rattle.x696.proofs.TableRows.{Alternative, kind_cases, sequence_row, sequence_of_row, choice_row}
use Rattle.x696.proofs.TableKinds.{leaf_type, sequence_type, sequence_of_type, choice_type}

below_at : (w : ℕ) (s : List ℕ) (i : ℕ) → Below w s → get_or s i 0 < 2 ^ w
below_at w [] i b = pow_pos w
below_at w (x ∷ s) zero b = b.0
below_at w (x ∷ s) (suc i) b = below_at w s i b.1

-- a default that its check lets pass is a value of its type
default_value : (t : Ty) (d : ℕ) → d < 2 ^ 64 → default_sound t d ≡ true → Fits t (node (kind_of t) d [] no_values)
unfolding default_sound kind_of value_count
default_value (leaf boolean) d h e = leaf_fits refl (boolean_fits (ltb-true d 2 e))
default_value (leaf null) d h e = absurd (false≢true e)
default_value (leaf (integer f a b)) d h e = leaf_fits refl (integer_fits h e)
default_value (leaf (enumerated ns)) d h e = leaf_fits refl (enumerated_fits h e)
default_value (leaf (real w)) d h e = absurd (false≢true e)
default_value (leaf (octet_string f a b)) d h e = absurd (false≢true e)
default_value (leaf (bit_string f a b)) d h e = absurd (false≢true e)
default_value (leaf (visible_string f a b)) d h e = absurd (false≢true e)
default_value (sequence is) d h e = absurd (false≢true e)
default_value (sequence_of t) d h e = sequence_of_fits (eqb-true d 0 e) h no_elements
default_value (choice is) d h e = absurd (false≢true e)

-- the mark decides whether there is a default to look at
marked_fits : (m d : ℕ) (t : Ty) → m < 3 → d < 2 ^ 64 → (m ≡ 2 → default_sound t d ≡ true) → DefaultFits m d t
unfolding missing
marked_fits zero d t l h e = tt
marked_fits (suc zero) d t l h e = tt
marked_fits (suc (suc zero)) d t l h e = default_value t d h (e refl)
marked_fits (suc (suc (suc m))) d t l h e = absurd (omega arith)

module _ (rows items : List ℕ) where
  abbrev Formed : (row : ℕ) → Type 0
  Formed r = WellFormed (type_of rows items r)

  module _ (words : Below 64 items) where
    pub word_lt : (i j : ℕ) → item_word items i j < 2 ^ 64
    unfolding item_word
    word_lt i j = below_at 64 items _ words

    pub default_fits : (r i : ℕ) → Component rows items r i
        → DefaultFits (item_word items i 1) (item_word items i 2) (type_of rows items (item_word items i 0))
    default_fits r i c = marked_fits _ _ _ c.mark (word_lt i 2) c.default

    module _ (r : ℕ) (smaller : (k : ℕ) → k < r → Formed k) where
      components_formed : (first n : ℕ) → Each (Component rows items r) first n
          → WellFormedComponents (components_from (λ k. type_of rows items k) items first n)
      unfolding items_from
      components_formed first zero h = tt
      components_formed first (suc n) h =
          let c = each_first (Component rows items r) first n h in
          let rest = components_formed (suc first) n (each_later (Component rows items r) first n h) in
          (smaller _ c.lower, default_fits r first c, rest)

      alternatives_formed : (first n : ℕ) → Each (Alternative rows items r) first n
          → WellFormedAlternatives (alternatives_from (λ k. type_of rows items k) items first n)
      unfolding items_from
      alternatives_formed first zero h = tt
      alternatives_formed first (suc n) h =
          let a = each_first (Alternative rows items r) first n h in
          let rest = alternatives_formed (suc first) n (each_later (Alternative rows items r) first n h) in
          (a.class, smaller _ a.lower, rest)

      row_formed : row_sound rows items r ≡ true → Formed r
      row_formed e =
          kind_cases rows items r e
          (λ k. rw (leaf_type rows items r k).1 tt)
          (λ k. rw (sequence_type rows items r e k) (components_formed _ _ (sequence_row rows items r e k).component))
          (λ k. rw (sequence_of_type rows items r e k) (smaller _ (sequence_of_row rows items r e k).lower))
          (λ k.
          let row = choice_row rows items r e k in
          rw (choice_type rows items r e k)
          (alternatives_formed _ _ row.alternative, tags_differ items _ _ _ row.ascends))

    pub well_formed : table_fault rows items ≡ sound → (r : ℕ) → r < length rows / row_width → Formed r
    well_formed e r =
        recursion lt-wf_rel.wf {C = λ r. r < length rows / row_width → Formed r} r λ r smaller h.
        row_formed r (λ k l. smaller k l (omega arith)) (((sound_table rows items).0 e).row r h)
