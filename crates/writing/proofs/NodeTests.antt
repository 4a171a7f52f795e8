-- A value of a value list begins with its node (11): there, of the kind of its row's type, then what stands behind it.
-- Premises are the callees' `ensures` and the tests as they went. Assumes nothing.
use mathlib.Core.Path.{◌≡◌, refl, sym, ap, ◌∙◌}
use mathlib.Core.Bool.{true}
use mathlib.Core.List.{List, [], ◌∷◌}
use Prim.Native.Nat.{ℕ, suc, ◌+◌, ◌*◌, ◌/◌, ◌<◌, ◌≤◌}
use native.Mathlib.Omega.{arith}
use native.Mathlib.Numerals.{add-one}
use lib.ListN.{length, get_or, drop, length-drop}
use lib.Seq.{drop-cons}
use lib.Dec.{eqb}
use borrow.Author.Tests.{eq-eqb, ne_eqb, eqb-true, eqb-false}
use Rattle.x696.specs.Outcome.{refused, got, next, must, choose}
use Rattle.x696.proofs.OutcomeLaws.{choose_inv}
use Rattle.x696.specs.Value.{node_width}
use Rattle.x696.specs.Leaf.{leaf_kind, real_kind}
use Rattle.x696.specs.Types.{Ty, leaf, sequence, sequence_of, choice, kind_of}
use Rattle.x696.specs.Walk.{Listed, list_at, kind_number, node_in, number_if, node_at, walk}
use Rattle.x696.specs.Table.{row_kind, type_by, type_of}
use Rattle.x696.specs.TableFault.{row_sound}
use Rattle.x696.proofs.TableLaws.{type_of_row}
use Rattle.x696.proofs.TableRows.{kind_known}
use Rattle.pens.specs.Put.{listed_at, walk_behind}

-- ---- the next node
abbrev pub kind_at : (words : List ℕ) → (n : ℕ) → ℕ
kind_at ws n = get_or ws (n * node_width) 0

abbrev pub number_at : (words : List ℕ) → (n : ℕ) → ℕ
number_at ws n = get_or ws (n * node_width + 1) 0

short_none : (s cs : List ℕ) (n : ℕ) → length s < 2 → node_in s cs n ≡ refused 11 n
unfolding node_in
short_none [] cs n h = refl
short_none (k ∷ []) cs n h = refl
short_none (k ∷ m ∷ s) cs n h = absurd (omega arith)

module _ (ws cs : List ℕ) (n : ℕ) where
  pub node_none : length ws / 2 ≤ n → node_in (drop (n * node_width) ws) cs n ≡ refused 11 n
  node_none h = short_none (drop (n * node_width) ws) cs n (rw (length-drop (n * node_width) ws) (omega arith))

  pub node_words : n < length ws / 2
      → drop (n * node_width) ws ≡ kind_at ws n ∷ number_at ws n ∷ drop (suc n * node_width) ws
  node_words h =
      let e : suc (suc (n * node_width)) ≡ suc n * node_width = omega arith in
      drop-cons ws (n * node_width) 0 (omega arith)
      ∙ rw (drop-cons ws (suc (n * node_width)) 0 (omega arith), e, add-one (n * node_width))

  pub node_there : n < length ws / 2
      → node_in (drop (n * node_width) ws) cs n ≡ got (kind_number (kind_at ws n) (number_at ws n))
      (list_at (drop (suc n * node_width) ws) cs (suc n))
  unfolding node_in
  node_there h = rw (node_words h)

-- ---- the kind of a sound row's type is the row's
six_up : (k : ℕ) → 0 < k → (k ≡ 1 → ⊥) → (k ≡ 2 → ⊥) → (k ≡ 3 → ⊥) → (k ≡ 4 → ⊥) → (k ≡ 5 → ⊥) → 6 ≤ k
six_up k h one two three four five = omega arith

six_left : (k : ℕ) → 6 ≤ k → k ≤ 12 → (k ≡ 7 → ⊥) → (k ≡ 8 → ⊥) → (k ≡ 9 → ⊥) → (k ≡ 10 → ⊥) → (k ≡ 11 → ⊥)
    → (k ≡ 12 → ⊥) → k ≡ 6
six_left k h g seven eight nine ten eleven twelve = omega arith

module _ (rows items : List ℕ) (r : ℕ) where
  abbrev OfKind : Ty → Type 0
  OfKind t = kind_of t ≡ row_kind rows r

  either : (k : ℕ) (x y : Unit {0} → Ty) → kind_of (x tt) ≡ k → ((row_kind rows r ≡ k → ⊥) → OfKind (y tt))
      → OfKind (choose (eqb (row_kind rows r) k) x y)
  either k x y e f =
      choose_inv (eqb (row_kind rows r) k) x y refl
      (λ t u. ap kind_of (sym u) ∙ e ∙ sym (eqb-true _ k t))
      (λ t u. ap kind_of (sym u) ∙ f (eqb-false _ k t))

  pub kind_is : row_sound rows items r ≡ true → kind_of (type_of rows items r) ≡ row_kind rows r
  unfolding type_by kind_of leaf_kind real_kind
  kind_is s =
      let (low, high) = kind_known rows items r s in
      rw (type_of_row rows items r)
      (either 1 _ _ refl λ one. either 2 _ _ refl λ two. either 3 _ _ refl λ three. either 4 _ _ refl λ four.
      either 5 _ _ refl λ five. either 7 _ _ refl λ seven. either 8 _ _ refl λ eight. either 9 _ _ refl λ nine.
      either 10 _ _ refl λ ten. either 11 _ _ refl λ eleven. either 12 _ _ refl λ twelve.
      sym (six_left _ (six_up _ low one two three four five) high seven eight nine ten eleven twelve))

-- ---- a value: its node, then what stands behind it
node_first : (t : Ty) (s : Listed) → walk t s ≡ next (node_at (kind_of t) s) λ n r. walk_behind t s.at n r
unfolding walk walk_behind kind_of
node_first (leaf l) s = refl
node_first (sequence is) s = refl
node_first (sequence_of t) s = refl
node_first (choice is) s = refl

module _ (t : Ty) (ws cs : List ℕ) (n u : ℕ) where
  pub value_lacks : length ws / 2 ≤ n → walk t (listed_at ws cs n u) ≡ refused 11 n
  unfolding node_at next
  value_lacks h = node_first t (listed_at ws cs n u) ∙ rw (node_none ws (drop u cs) n h)

  node_tested : n < length ws / 2 → walk t (listed_at ws cs n u)
      ≡ next (must (eqb (kind_at ws n) (kind_of t)) 11 n (got (number_at ws n) (listed_at ws cs (suc n) u)))
      λ m r. walk_behind t n m r
  unfolding node_at number_if next
  node_tested h = node_first t (listed_at ws cs n u) ∙ rw (node_there ws (drop u cs) n h)

  pub value_other : n < length ws / 2 → (kind_at ws n ≡ kind_of t → ⊥) → walk t (listed_at ws cs n u) ≡ refused 11 n
  unfolding next must
  value_other h f = node_tested h ∙ rw (ne_eqb (kind_at ws n) (kind_of t) f)

  pub value_behind : n < length ws / 2 → kind_at ws n ≡ kind_of t
      → walk t (listed_at ws cs n u) ≡ walk_behind t n (number_at ws n) (listed_at ws cs (suc n) u)
  unfolding next must
  value_behind h e = node_tested h ∙ rw (eq-eqb (kind_at ws n) (kind_of t) e)

-- the same, by the words of the code
module _ (rows items : List ℕ) (row : ℕ) (sound : row_sound rows items row ≡ true) (ws cs : List ℕ) (n u : ℕ)
    (there : n < length ws / 2) {kind k : ℕ} (ek : kind ≡ row_kind rows row) (en : k ≡ kind_at ws n) where
  pub row_other : (k ≡ kind → ⊥) → walk (type_of rows items row) (listed_at ws cs n u) ≡ refused 11 n
  row_other f =
      value_other (type_of rows items row) ws cs n u there λ e.
      f (en ∙ e ∙ kind_is rows items row sound ∙ sym ek)

  pub row_behind : {number : ℕ} → k ≡ kind → number ≡ number_at ws n → walk (type_of rows items row) (listed_at ws cs n
      u)
      ≡ walk_behind (type_of rows items row) n number (listed_at ws cs (suc n) u)
  row_behind e h =
      rw h (value_behind (type_of rows items row) ws cs n u there
      (sym en ∙ e ∙ ek ∙ sym (kind_is rows items row sound)))
