-- A CHOICE: its tag, then the alternative that the tag names; one law for each way that its reader returns.
-- A tag's number is read as far as 2,097,152, which no item has, so it names the same alternative as the whole number.
-- Premises are the callees' `ensures`. Assumes nothing.
use mathlib.Core.Path.{◌≡◌, refl, sym, ◌∙◌}
use mathlib.Core.Bool.{true}
use mathlib.Core.List.{List, [], ◌∷◌}
use Prim.Native.Nat.{ℕ, zero, suc, ◌+◌, ◌*◌, ◌<◌, ◌≤◌}
use native.Mathlib.Omega.{arith}
use native.Mathlib.Nat.{add-zero, not-suc-le-zero}
use native.Mathlib.Numerals.{add-one}
use lib.ListN.{length, drop}
use lib.Seq.{sets}
use lib.Dec.{ltb, eqb}
use borrow.Author.Tests.{lt-ltb, le-ltb, ne_eqb}
use Rattle.x696.specs.Outcome.{Outcome, refused, got, next, must}
use Rattle.x696.proofs.OutcomeLaws.{cases_lt}
use Rattle.x696.specs.Tag.{tag, read_tag}
use Rattle.x696.specs.Value.{Val, node, only, node_width}
use Rattle.x696.specs.Types.{Ty, Items, item_count, alternative}
use Rattle.x696.specs.Read.{Message, message, read_inside, read_alternative, read}
use Rattle.x696.specs.Operations.{node_limit}
use Rattle.x696.specs.Table.{row_kind, row_first, row_count, tag_number, alternative_row, items_from}
use Rattle.x696.specs.Table.{alternatives_from, type_of}
use Rattle.x696.specs.TableFault.{row_sound}
use Rattle.x696.specs.SoundTable.{Each}
use Rattle.x696.proofs.TableTests.{each_first, each_later}
use Rattle.x696.proofs.TableTags.{alternatives_count}
use Rattle.x696.proofs.TableRows.{choice_row}
use Rattle.x696.proofs.TableKinds.{choice_type}
use Rattle.octets.specs.Answers.{capped, TagAnswer}
use Rattle.octets.specs.declared.faults.Fault.{Fault}
use Rattle.octets.specs.declared.answers.Tag.{Tag}
use Rattle.octets.proofs.Answered.{next_refused, next_got}
use Rattle.kinds.specs.Run.{cursor, Gone, Ran, inside_at}
use Rattle.kinds.specs.declared.cursor.Cursor.{Cursor}
use Rattle.kinds.proofs.Ran.{offset_is}
use Rattle.reading.proofs.Groups.{alone_stop, alone_done}
use Rattle.std.proofs.Common.{Result, Ok, Err}
use Rattle.octets.specs.Cause.{code_of}

eqb_capped : (n x : ℕ) → x ≤ 2097151 → eqb (capped n) x ≡ eqb n x
unfolding capped
eqb_capped n x h =
    cases_lt n 2097152
    (λ e l. rw e)
    (λ e l. rw (e, ne_eqb 2097152 x (λ z. omega arith), ne_eqb n x (λ z. omega arith)))

module _ (f : ℕ → Ty) (items : List ℕ) where
  abbrev InTable : (i : ℕ) → Type 0
  InTable i = tag_number items i ≤ 2097151

  -- the capped number names the same alternative
  pub alternative_capped : (c m first n : ℕ) → Each InTable first n
      → alternative (alternatives_from f items first n) (tag c (capped m))
      ≡ alternative (alternatives_from f items first n) (tag c m)
  unfolding alternative items_from
  alternative_capped c m first zero h = refl
  alternative_capped c m first (suc n) h =
      rw (
        eqb_capped m (tag_number items first) (each_first InTable first n h),
        alternative_capped c m (suc first) n (each_later InTable first n h),
      )

  -- the alternative at a place is read as its type
  pub alternative_read : (first n j end : ℕ) (s : Message) → j < n
      → read_alternative node_limit (alternatives_from f items first n) j end s
      ≡ read node_limit (f (alternative_row items (first + j))) end s
  unfolding read_alternative items_from read
  alternative_read first zero j end s h = absurd (not-suc-le-zero h)
  alternative_read first (suc n) zero end s h = rw (add-zero first)
  alternative_read first (suc n) (suc j) end s h =
      let e : first + suc j ≡ suc first + j = omega arith in
      rw e (alternative_read (suc first) n j end s (omega arith))

module _ (rows items msg : List ℕ) (row at count : ℕ) (inside : at ≤ length msg)
    (sound : row_sound rows items row ≡ true) (is : row_kind rows row ≡ 12) where
  abbrev D : Outcome Message Val
  D = inside_at (type_of rows items row) msg at count

  abbrev among : Items
  among = alternatives_from (λ k. type_of rows items k) items (row_first rows row) (row_count rows row)

  tag_first : D ≡ next (read_tag at (drop at msg)) λ g r.
      must (ltb (alternative among g) (item_count among)) 7 at
      (next (read_alternative node_limit among (alternative among g) (length msg) (message r (suc count))) λ v s.
      got (node 12 (alternative among g) [] (only v)) s)
  unfolding inside_at read_inside
  tag_first = rw (choice_type rows items row sound is, offset_is msg at inside)

  module _ {x : Result Tag Fault} (t : TagAnswer msg (read_tag at (drop at msg)) at x) where
    pub tag_stops : (f : Fault) → x ≡ Err f → D ≡ refused (code_of f.cause) f.place
    tag_stops f e = tag_first ∙ next_refused _ (t.stopped f e)

    module _ (g n j : ℕ) (m : Tag) (e : x ≡ Ok m) (eg : g ≡ row_first rows row) (en : n ≡ row_count rows row)
        (ej : (f : ℕ → Ty) → j ≡ alternative (alternatives_from f items g n) (tag m.class m.number)) where
      -- the place of the whole number's tag
      place_is : (whole : ℕ) → m.number ≡ capped whole → alternative among (tag m.class whole) ≡ j
      place_is whole capped_is =
          let known = choice_row rows items row sound is in
          sym (alternative_capped (λ k. type_of rows items k) items m.class whole
          (row_first rows row) (row_count rows row) (λ i h. (known.alternative i h).number))
          ∙ sym (ej (λ k. type_of rows items k) ∙ rw (eg, en, capped_is))

      named : alternative among (tag m.class (t.went m e).whole) ≡ j
      named = place_is (t.went m e).whole (t.went m e).number

      pub tag_unknown : n ≤ j → D ≡ refused 7 at
      unfolding must
      tag_unknown h =
          let many = alternatives_count items (λ k. type_of rows items k) (row_first rows row) (row_count rows row) in
          tag_first ∙ next_got _ (t.went m e).reads ∙ rw (named, many, ← en, le-ltb j n h)

      module _ {inner : ℕ} (h : j < n) (ei : inner ≡ alternative_row items (g + j)) where
        abbrev O : Outcome Message Val
        O = read node_limit (type_of rows items inner) (length msg) (message (drop m.next msg) (count + 1))

        pub chosen : D ≡ next O λ v s. got (node 12 j [] (only v)) s
        unfolding must
        chosen =
            let many = alternatives_count items (λ k. type_of rows items k) (row_first rows row) (row_count rows row) in
            let lt : j < row_count rows row = rw (← en) h in
            let one = alternative_read (λ k. type_of rows items k) items (row_first rows row) (row_count rows row) j
            (length msg) (message (drop m.next msg) (suc count)) lt in
            tag_first ∙ next_got _ (t.went m e).reads ∙
            rw (named, many, lt-ltb j (row_count rows row) lt, one, ei, eg, add-one count)

        pub chosen_stops : {k q : ℕ} → O ≡ refused k q → D ≡ refused k q
        chosen_stops f = alone_stop 12 j chosen f

        pub chosen_goes : {u : ℕ} (l : List ℕ) {b l₁ l' b' : List ℕ} {d : Cursor} {r : Result Cursor Fault}
            → l₁ ≡ sets l (count * node_width) (12 ∷ j ∷ [])
            → Gone msg O m.next (count + 1) u l₁ b l' b' d
            → r ≡ Ok (cursor d.at d.count d.used j) → Ran msg D at count u l b l' b' r
        chosen_goes l s w f = alone_done 12 j chosen count l s (t.went m e).ahead w f
