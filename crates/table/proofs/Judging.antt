-- The rows judged one after the other: what a judged row says, and the fault of n + 1 rows from that of n.
-- Assumes nothing.
use mathlib.Core.Path.{◌≡◌, refl, sym, ap, ◌∙◌}
use mathlib.Core.Bool.{Bool, true, false}
use mathlib.Core.List.{List, []}
use Prim.Native.Nat.{ℕ, zero, suc, ◌+◌, ◌<◌}
use native.Mathlib.Omega.{arith}
use native.Mathlib.Nat.{add-zero, zero-add, not-suc-le-zero}
use lib.ListN.{length, length-set, get_or, set}
use lib.Seq.{get_or-set_same, get_or-set_other}
use Rattle.x696.specs.Outcome.{choose}
use Rattle.x696.proofs.OutcomeLaws.{cases, cases_lt}
use Rattle.x696.specs.TableCheck.{given, greatest}
use Rattle.x696.proofs.TableTests.{each_first, each_later, given_inv}
use Rattle.x696.specs.TableFault.{TableFault, sound, bad_size, bad_row, row_sound, row_nesting, rows_fault}
use Rattle.x696.specs.SoundTable.{Each, nestings_of}
use Rattle.x696.proofs.TableKinds.{no_group}
use Rattle.x696.proofs.TableNesting.{nestings_at}
use Rattle.x696.proofs.TableRows.{kind_cases, sequence_row, choice_row}
use Rattle.table.proofs.Nested.{element_lower}
use Rattle.std.specs.Prelude.{cond, Option, Some, None}
use Rattle.std.proofs.lemmas.Option.{none-some, cond_some}
use Rattle.table.specs.Judged.{kept, judged_row, SoundRows}
use Rattle.table.specs.Orders.{SoundBelow}

-- what a judged row tells
out_of : (t : Bool) (x : ℕ) → cond t (Some x) None ≡ None → t ≡ false
out_of true x e = absurd (none-some x (sym e))
out_of false x e = refl

module _ (rows items ns : List ℕ) (row : ℕ) {r : Option ℕ} (j : r ≡ judged_row rows items ns row) where
  pub row_out : r ≡ None → kept rows items ns row ≡ false
  row_out e = out_of _ _ (sym j ∙ e)

  pub row_in : {deep : ℕ} → r ≡ Some deep → (kept rows items ns row ≡ true) × (row_nesting rows items ns row ≡ deep)
  row_in e = cond_some _ _ _ (sym j ∙ e)

-- where two functions agree on the items, so do their greatest
module _ (f g : ℕ → ℕ) where
  greatest_agree : (first n : ℕ) → Each (λ i. f i ≡ g i) first n → greatest f first n ≡ greatest g first n
  unfolding greatest
  greatest_agree first zero h = refl
  greatest_agree first (suc n) h =
      rw (each_first (λ i. f i ≡ g i) first n h, greatest_agree (suc first) n (each_later (λ i. f i ≡ g i) first n h))

module _ (rows items : List ℕ) where
  -- a sound row's nesting looks only at those of smaller rows
  module _ (row : ℕ) (ns ms : List ℕ) (agree : (k : ℕ) → k < row → get_or ns k 0 ≡ get_or ms k 0) where
    nesting_agree : row_sound rows items row ≡ true → row_nesting rows items ns row ≡ row_nesting rows items ms row
    unfolding row_nesting choose
    nesting_agree s =
        kind_cases rows items row s
        (λ k. let no = no_group rows row k in rw (no 10 (omega arith), no 11 (omega arith), no 12 (omega arith)))
        (λ k.
        let r = sequence_row rows items row s k in
        rw k (ap suc (greatest_agree _ _ _ _ λ i h. agree _ (r.component i h).lower)))
        (λ k. rw k (ap suc (greatest_agree _ _ _ _ λ i h. agree _ (element_lower _ _ _ s k i h))))
        (λ k.
        let r = choice_row rows items row s k in
        rw k (ap suc (greatest_agree _ _ _ _ λ i h. agree _ (r.alternative i h).lower)))

    kept_agree : kept rows items ns row ≡ kept rows items ms row
    unfolding given choose
    kept_agree = cases (row_sound rows items row) (λ s. rw (s, nesting_agree s)) (λ s. rw s)

  -- the fault of n + 1 rows: that of n rows, or else that of the last one
  unfoldable then_row : TableFault → (row : ℕ) → TableFault
  then_row sound r = choose (kept rows items (nestings_of rows items r) r) (λ _. sound) (λ _. bad_row r)
  then_row bad_size r = bad_size
  then_row (bad_row k) r = bad_row k

  rows_then : (r n : ℕ) → rows_fault rows items r (suc n) (nestings_of rows items r)
      ≡ then_row (rows_fault rows items r n (nestings_of rows items r)) (r + n)
  unfolding rows_fault then_row nestings_of choose
  rows_then r zero = rw (add-zero r)
  rows_then r (suc n) =
      let e : r + suc n ≡ suc r + n = omega arith in
      cases (kept rows items (nestings_of rows items r) r)
      (λ s. rw (s, e) (rows_then (suc r) n))
      (λ s. rw s)

  rows_more : (n : ℕ) {o : TableFault} → rows_fault rows items 0 n [] ≡ o
      → rows_fault rows items 0 (suc n) [] ≡ then_row o n
  unfolding nestings_of
  rows_more n e = rw (zero-add n, e) at (rows_then 0 n)

  pub judged_none : (ns : List ℕ) {n : ℕ} → length ns ≡ 256 → n ≡ 0 → SoundRows rows items n ns
  unfolding rows_fault
  judged_none ns l e = rw e (record {
    sound = refl;
    below = λ k h. absurd (not-suc-le-zero h);
    whole = l;
    nested = λ k h. absurd (not-suc-le-zero h);
  })

  module _ (n : ℕ) {m : ℕ} (more : suc n ≡ m) where
    pub bad_before : {row : ℕ} → rows_fault rows items 0 n [] ≡ bad_row row → rows_fault rows items 0 m [] ≡ bad_row row
    unfolding then_row
    bad_before e = rw (← more) (rows_more n e)

    module _ {ns : List ℕ} (before : SoundRows rows items n ns) where
      same : kept rows items ns n ≡ kept rows items (nestings_of rows items n) n
      same = kept_agree n _ _ before.nested

      pub bad_last : kept rows items ns n ≡ false → rows_fault rows items 0 m [] ≡ bad_row n
      unfolding then_row choose
      bad_last e = rw (← more, rows_more n before.sound, sym same ∙ e)

      module _ (few : n < 256) {deep : ℕ} (in_row : (kept rows items ns n ≡ true) × (row_nesting rows items ns n ≡ deep)) where
        last : kept rows items ns n ≡ true
        last = in_row.0

        last_sound : row_sound rows items n ≡ true
        last_sound = given_inv _ _ last λ s _. s

        all_sound : rows_fault rows items 0 (suc n) [] ≡ sound
        unfolding then_row choose
        all_sound = rw (rows_more n before.sound, sym same ∙ last)

        sound_more : SoundBelow rows items (suc n)
        sound_more k h =
            cases_lt k n
            (λ _ l. before.below k l)
            (λ _ l. let e : k ≡ n = omega arith in rw e last_sound)

        nested_more : (k : ℕ) → k < suc n → get_or (set ns n deep) k 0 ≡ get_or (nestings_of rows items (suc n)) k 0
        nested_more k h =
            rw (← in_row.1)
            (cases_lt k n
            (λ _ l.
            get_or-set_other ns n k _ 0 (λ e. omega arith) ∙ before.nested k l
            ∙ nestings_at rows items n k l ∙ sym (nestings_at rows items (suc n) k h))
            (λ _ l.
            let e : k ≡ n = omega arith in
            rw e
            (get_or-set_same ns n _ 0 (rw before.whole few) ∙ nesting_agree n _ _ before.nested last_sound
            ∙ sym (nestings_at rows items (suc n) n (omega arith)))))

        pub judged_more : SoundRows rows items m (set ns n deep)
        judged_more = rw (← more) (record {
          sound = all_sound;
          below = sound_more;
          whole = length-set ns n _ ∙ before.whole;
          nested = nested_more;
        })
