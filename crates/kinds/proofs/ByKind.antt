-- The type of a sound row by its kind, where it has no components: which reader's answer is the row's.
-- Premises are the callees' `ensures` and the tests as they went. Assumes nothing.
use mathlib.Core.Path.{◌≡◌, refl}
use mathlib.Core.Bool.{Bool, true, false}
use mathlib.Core.List.{List}
use Prim.Native.Nat.{ℕ, ◌+◌, ◌/◌, ◌≤◌, ◌<◌}
use native.Mathlib.Omega.{arith}
use lib.ListN.{length}
use Rattle.x696.specs.Outcome.{choose}
use Rattle.x696.specs.Real.{binary32, binary64}
use Rattle.x696.specs.Leaf.{Leaf, boolean, null, integer, enumerated, real, octet_string, bit_string, visible_string}
use Rattle.x696.specs.Types.{leaf}
use Rattle.x696.specs.Table.{row_kind, row_flags, row_a, row_b, row_first, row_count, item_width, numbers_from, type_by, type_of}
use Rattle.x696.specs.TableFault.{row_sound}
use Rattle.x696.proofs.TableLaws.{type_of_row}
use Rattle.x696.proofs.TableRows.{enumerated_row}
use Rattle.table.specs.Orders.{Ascends}
use Rattle.table.specs.Kind.{code_of}
use Rattle.table.proofs.KindNumbers.{kind_number}
use Rattle.std.specs.Prelude.{◌⊎◌}
use Rattle.std.proofs.Math.Logic.{inl, inr, ⊎_elim}
use denote.Enum.Bare.{sameb}
use Rattle.table.specs.contracts.kind.Kind.{the_type}
use Rattle.table.specs.declared.kind.Kind.{Kind}
use Rattle.table.specs.declared.kind.Kind.TheVariants.{Boolean, Integer, Enumerated, Single, Double, Null}
use Rattle.table.specs.declared.kind.Kind.TheVariants.{OctetString, BitString, VisibleString}
use Rattle.kinds.specs.Run.{ScalarAnswer, Ran, inside_at, leaf_at, text_leaf}
use Rattle.std.proofs.Common.{Result}
use Rattle.octets.specs.declared.faults.Fault.{Fault}
use Rattle.octets.specs.declared.answers.Number.{Number}
use Rattle.kinds.specs.declared.cursor.Cursor.{Cursor}

-- a string that is not of bits: as the code asks which it is
shown_or_not : (k : Kind) → 7 ≤ code_of k → code_of k < 10 → (k ≡ BitString → ⊥) → {v : Bool} → v ≡ sameb the_type k VisibleString
    → ((v ≡ true) × (k ≡ VisibleString)) ⊎ ((v ≡ false) × (k ≡ OctetString))
shown_or_not OctetString l h b e = inr (e, refl)
shown_or_not BitString l h b e = absurd (b refl)
shown_or_not VisibleString l h b e = inl (e, refl)
shown_or_not _ l h b e = absurd (omega arith)

module _ (rows items : List ℕ) (row : ℕ) where
  -- the answer for a row's type
  pub ran_row : {l : Leaf} {msg : List ℕ} {at count used : ℕ} {ns cs ns' cs' : List ℕ} {r : Result Cursor Fault}
      → type_of rows items row ≡ leaf l → Ran msg (leaf_at l msg at count) at count used ns cs ns' cs' r
      → Ran msg (inside_at (type_of rows items row) msg at count) at count used ns cs ns' cs' r
  ran_row e w = rw e w

  pub scalar_row : {l : Leaf} {msg : List ℕ} {k at count : ℕ} {r : Result Number Fault}
      → type_of rows items row ≡ leaf l → row_kind rows row ≡ k → ScalarAnswer msg (leaf_at l msg at count) k at count r
      → ScalarAnswer msg (inside_at (type_of rows items row) msg at count) (row_kind rows row) at count r
  scalar_row e f w = rw (e, f) w

  module _ {kind : Kind} (ek : code_of kind ≡ row_kind rows row) where
    pub boolean_type : kind ≡ Boolean → type_of rows items row ≡ leaf boolean
    unfolding type_by choose
    boolean_type e = rw (type_of_row rows items row, ← ek, e)

    pub single_type : kind ≡ Single → type_of rows items row ≡ leaf (real binary32)
    unfolding type_by choose
    single_type e = rw (type_of_row rows items row, ← ek, e)

    pub double_type : kind ≡ Double → type_of rows items row ≡ leaf (real binary64)
    unfolding type_by choose
    double_type e = rw (type_of_row rows items row, ← ek, e)

    pub null_type : kind ≡ Null → type_of rows items row ≡ leaf null
    unfolding type_by choose
    null_type e = rw (type_of_row rows items row, ← ek, e)

    module _ {first n : ℕ} (ef : first ≡ row_first rows row) (en : n ≡ row_count rows row) (e : kind ≡ Enumerated) where
      pub listed_type : type_of rows items row ≡ leaf (enumerated (numbers_from items first n))
      unfolding type_by choose
      listed_type = rw (type_of_row rows items row, ← ek, e, ← ef, ← en)

      pub listed_range : row_sound rows items row ≡ true
          → (first + n ≤ length items / item_width) × Ascends items first n
      listed_range s = let r = enumerated_row rows items row s (kind_number ek e) in rw (ef, en) (r.range, r.ascends)

    module _ {f a b : ℕ} (ef : f ≡ row_flags rows row) (ea : a ≡ row_a rows row) (eb : b ≡ row_b rows row) where
      pub integer_type : kind ≡ Integer → type_of rows items row ≡ leaf (integer f a b)
      unfolding type_by choose
      integer_type e = rw (type_of_row rows items row, ← ek, e, ← ef, ← ea, ← eb)

      pub octets_type : kind ≡ OctetString → type_of rows items row ≡ leaf (octet_string f a b)
      unfolding type_by choose
      octets_type e = rw (type_of_row rows items row, ← ek, e, ← ef, ← ea, ← eb)

      pub bits_type : kind ≡ BitString → type_of rows items row ≡ leaf (bit_string f a b)
      unfolding type_by choose
      bits_type e = rw (type_of_row rows items row, ← ek, e, ← ef, ← ea, ← eb)

      pub visible_type : kind ≡ VisibleString → type_of rows items row ≡ leaf (visible_string f a b)
      unfolding type_by choose
      visible_type e = rw (type_of_row rows items row, ← ek, e, ← ef, ← ea, ← eb)

      -- of the strings, those that are not of bits
      pub text_type : 7 ≤ code_of kind → code_of kind < 10 → (kind ≡ BitString → ⊥) → {v : Bool}
          → v ≡ sameb the_type kind VisibleString → type_of rows items row ≡ leaf (text_leaf v f a b)
      unfolding text_leaf
      text_type h g bits same =
          ⊎_elim
          (λ is. rw is.0 (visible_type is.1))
          (λ is. rw is.0 (octets_type is.1))
          (shown_or_not kind h g bits same)
