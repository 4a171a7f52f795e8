-- The type of a sound row by its kind, over the types of the rows that its items name.
-- Assumes nothing.
use Rattle.std.specs.Prelude.{◌≡◌, Bool, true, false, List, eqb}
use Rattle.std.proofs.Math.Path.{refl}
use Rattle.std.proofs.Common.{ap, arith, ne_eqb}
use Prim.Native.Nat.{ℕ, zero, suc, ◌≤◌, ◌<◌}
use Rattle.x696.specs.Outcome.{choose}
use Rattle.x696.specs.Leaf.{Leaf, null}
use Rattle.x696.specs.Types.{Ty, leaf, sequence, sequence_of, choice}
use Rattle.x696.specs.Table.{row_kind, row_first, row_count, item_word, items_from}
use Rattle.x696.specs.Table.{components_from, alternatives_from, type_by, type_of}
use Rattle.x696.specs.TableFault.{row_sound}
use Rattle.x696.specs.SoundTable.{Each}
use Rattle.x696.proofs.TableTests.{each_first, each_later}
use Rattle.x696.proofs.TableLaws.{type_of_row, type_among_below}
use Rattle.x696.proofs.TableRows.{sequence_row, sequence_of_row, choice_row}

-- where two functions agree on the rows that the items name in word k, the items are the same
module _ (a b k : ℕ) (items : List ℕ) (f g : ℕ → Ty) where
  abbrev SameType : (i : ℕ) → Type 0
  SameType i = f (item_word items i k) ≡ g (item_word items i k)

  items_same : (first n : ℕ) → Each SameType first n → items_from a b k f items first n ≡ items_from a b k g items first n
  unfolding items_from
  items_same first zero h = refl
  items_same first (suc n) h =
      rw (each_first SameType first n h, items_same (suc first) n (each_later SameType first n h))

abbrev pub IsLeaf : Ty → Type 0
IsLeaf t = (l : Leaf) × (t ≡ leaf l)

-- a choice is of no components if its first side is, or is not taken, and its second one is
leaf_first : (t : Bool) (l : Leaf) (y : Unit {0} → Ty) → IsLeaf (y tt) → IsLeaf (choose t (λ _. leaf l) y)
unfolding choose
leaf_first true l y h = (l, refl)
leaf_first false l y h = h

leaf_later : (t : Bool) (x y : Unit {0} → Ty) → t ≡ false → IsLeaf (y tt) → IsLeaf (choose t x y)
unfolding choose
leaf_later t x y e h = rw e h

pub no_group : (rows : List ℕ) (r : ℕ) → row_kind rows r < 10 → (k : ℕ) → 10 ≤ k → eqb (row_kind rows r) k ≡ false
no_group rows r h k g = ne_eqb _ k (λ e. omega arith)

module _ (rows items : List ℕ) (r : ℕ) where
  pub leaf_type : row_kind rows r < 10 → IsLeaf (type_of rows items r)
  unfolding type_by
  leaf_type h =
      let ten = no_group rows r h 10 (omega arith) in
      let eleven = no_group rows r h 11 (omega arith) in
      let twelve = no_group rows r h 12 (omega arith) in
      rw (type_of_row rows items r)
      (leaf_first _ _ _ (leaf_first _ _ _ (leaf_first _ _ _ (leaf_first _ _ _
      (leaf_first _ _ _ (leaf_first _ _ _ (leaf_first _ _ _ (leaf_first _ _ _
      (leaf_later _ _ _ ten (leaf_later _ _ _ eleven (leaf_later _ _ _ twelve (null, refl))))))))))))

  module _ (e : row_sound rows items r ≡ true) where
    pub sequence_type : row_kind rows r ≡ 10 → type_of rows items r
        ≡ sequence (components_from (λ k. type_of rows items k) items (row_first rows r) (row_count rows r))
    unfolding type_by choose
    sequence_type k =
        let row = sequence_row rows items r e k in
        rw (type_of_row rows items r, k)
        (ap sequence (items_same _ _ _ _ _ _ _ _ λ i h. type_among_below rows items r _ (row.component i h).lower))

    pub sequence_of_type : row_kind rows r ≡ 11 → type_of rows items r
        ≡ sequence_of (type_of rows items (item_word items (row_first rows r) 0))
    unfolding type_by choose
    sequence_of_type k =
        rw (type_of_row rows items r, k)
        (ap sequence_of (type_among_below rows items r _ (sequence_of_row rows items r e k).lower))

    pub choice_type : row_kind rows r ≡ 12 → type_of rows items r
        ≡ choice (alternatives_from (λ k. type_of rows items k) items (row_first rows r) (row_count rows r))
    unfolding type_by choose
    choice_type k =
        let row = choice_row rows items r e k in
        rw (type_of_row rows items r, k)
        (ap choice (items_same _ _ _ _ _ _ _ _ λ i h. type_among_below rows items r _ (row.alternative i h).lower))
