-- What the check of a row tells, kind by kind: a record of facts for each kind that has words of its own.
-- Assumes nothing.
use Rattle.std.specs.Prelude.{◌≡◌, true, ◌&&◌, List, ◌⊎◌, length, ltb, leb}
use Rattle.std.proofs.Math.Path.{refl}
use Rattle.std.proofs.Math.Bool.{false}
use Rattle.std.proofs.Math.Logic.{inl, inr, ⊎_elim}
use Prim.Native.Nat.{ℕ, ◌+◌, ◌/◌, ◌≤◌, ◌<◌}
use Rattle.std.proofs.Common.{arith}
use Rattle.std.proofs.Math.Dec.{eqb}
use borrow.Author.Tests.{lt-ltb, ne_eqb, le-leb, ltb-true, leb-true, eqb-true, eqb-false}
use Rattle.x696.specs.Outcome.{choose}
use Rattle.x696.proofs.OutcomeLaws.{choose_inv, cases_lt, and_both, or_either}
use Rattle.x696.specs.Integer.{rank, has_lower, has_upper, is_unsigned}
use Rattle.x696.specs.Table.{row_kind, row_flags, row_a, row_b, row_first, row_count, item_width, item_word}
use Rattle.x696.specs.TableCheck.{range_inside, integer_sound, enumerated_sound, string_sound}
use Rattle.x696.specs.TableCheck.{component_sound, sequence_sound, sequence_of_sound, alternative_sound, choice_sound}
use Rattle.x696.specs.TableFault.{row_sound}
use Rattle.x696.specs.SoundTable.{Component, Each}
use Rattle.x696.proofs.TableTests.{given_inv, every_at, ascending_between}
use Rattle.x696.proofs.TableTags.{Before, before_trans}

unsigned_lower : (f a : ℕ) → is_unsigned f a ≡ true → has_lower f ≡ true
unfolding is_unsigned
unsigned_lower f a e = (and_both (has_lower f) _ e).0

less_trans : (a b c : ℕ) → ltb a b ≡ true → ltb b c ≡ true → ltb a c ≡ true
less_trans a b c e f = lt-ltb a c (omega (arith, ltb-true a b e, ltb-true b c f))

module _ (rows items : List ℕ) (r : ℕ) where
  abbrev pub KnownKind : Type 0
  KnownKind = (0 < row_kind rows r) × (row_kind rows r ≤ 12)

  abbrev pub InRange : Type 0
  InRange = row_first rows r + row_count rows r ≤ length items / item_width

  pub record IntegerRow : Type 0 where
    pub flags : row_flags rows r < 4
    pub no_lower : has_lower (row_flags rows r) ≡ false → row_a rows r ≡ 0
    pub no_upper : has_upper (row_flags rows r) ≡ false → row_b rows r ≡ 0
    pub ordered : has_upper (row_flags rows r) ≡ true → is_unsigned (row_flags rows r) (row_a rows r) ≡ true
        → row_a rows r ≤ row_b rows r
    pub ordered_signed : has_lower (row_flags rows r) ≡ true → has_upper (row_flags rows r) ≡ true
        → is_unsigned (row_flags rows r) (row_a rows r) ≡ false → rank (row_a rows r) ≤ rank (row_b rows r)

  pub record EnumeratedRow : Type 0 where
    pub not_empty : 0 < row_count rows r
    pub range : InRange
    pub ascends : (i j : ℕ) → i < j → j < row_count rows r
        → rank (item_word items (row_first rows r + i) 0) < rank (item_word items (row_first rows r + j) 0)

  pub record StringRow : Type 0 where
    pub flags : (row_flags rows r ≡ 0) ⊎ (row_flags rows r ≡ 2)
    pub least : row_a rows r ≤ 65535
    pub most : row_b rows r ≤ 65535
    pub ordered : row_flags rows r ≡ 2 → row_a rows r ≤ row_b rows r
    pub no_most : row_flags rows r ≡ 0 → row_b rows r ≡ 0

  pub record SequenceRow : Type 0 where
    pub range : InRange
    pub component : Each (Component rows items r) (row_first rows r) (row_count rows r)

  pub record SequenceOfRow : Type 0 where
    pub one : row_count rows r ≡ 1
    pub range : InRange
    pub lower : item_word items (row_first rows r) 0 < r

  pub record Alternative (i : ℕ) : Type 0 where
    pub class : item_word items i 0 < 4
    pub number : item_word items i 1 ≤ 2097151
    pub lower : item_word items i 2 < r

  pub record ChoiceRow : Type 0 where
    pub not_empty : 0 < row_count rows r
    pub range : InRange
    pub alternative : Each Alternative (row_first rows r) (row_count rows r)
    pub ascends : (i j : ℕ) → i < j → j < row_count rows r
        → Before items (row_first rows r + i) (row_first rows r + j)

  kind_at : (k : ℕ) → ltb 0 k && leb k 12 ≡ true → eqb (row_kind rows r) k ≡ true → KnownKind
  kind_at k h t =
      let (low, high) = and_both (ltb 0 k) (leb k 12) h in
      rw (eqb-true _ k t) (ltb-true 0 k low, leb-true k 12 high)

  pub kind_known : row_sound rows items r ≡ true → KnownKind
  unfolding row_sound
  kind_known e =
      let k = row_kind rows r in
      choose_inv _ _ _ e (λ t _. kind_at 2 refl t) λ _ e.
      choose_inv _ _ _ e (λ t _. kind_at 3 refl t) λ _ e.
      choose_inv _ _ _ e
      (λ t _.
      let (low, high) = and_both (leb 7 k) (leb k 9) t in
      (omega (arith, leb-true 7 k low), omega (arith, leb-true k 9 high)))
      λ _ e.
      choose_inv _ _ _ e (λ t _. kind_at 10 refl t) λ _ e.
      choose_inv _ _ _ e (λ t _. kind_at 11 refl t) λ _ e.
      choose_inv _ _ _ e (λ t _. kind_at 12 refl t) λ _ e.
      given_inv _ _ e λ t _.
      let (low, high) = and_both (ltb 0 k) (ltb k 7) t in
      (ltb-true 0 k low, omega (arith, ltb-true k 7 high))

  component_sound_lem : (i : ℕ) → component_sound rows items r i ≡ true → Component rows items r i
  unfolding component_sound
  component_sound_lem i e =
      given_inv _ _ e λ lower e.
      given_inv _ _ e λ mark e.
      record {
        lower = ltb-true _ r lower;
        mark = ltb-true _ 3 mark;
        default = λ q. choose_inv _ _ _ e (λ _ s. s) λ t _. absurd (eqb-false _ 2 t q);
        no_default = λ q. choose_inv _ _ _ e (λ t _. absurd (q (eqb-true _ 2 t))) λ _ s. eqb-true _ 0 s;
      }

  alternative_sound_lem : (i : ℕ) → alternative_sound rows items r i ≡ true → Alternative i
  unfolding alternative_sound
  alternative_sound_lem i e =
      given_inv _ _ e λ class e.
      given_inv _ _ e λ number lower.
      record { class = ltb-true _ 4 class; number = leb-true _ 2097151 number; lower = ltb-true _ r lower }

  module _ (e : row_sound rows items r ≡ true) where
    -- a kind without components, or one of the three groups
    pub kind_cases {ℓ} : {X : Type ℓ} → (row_kind rows r < 10 → X)
        → (row_kind rows r ≡ 10 → X) → (row_kind rows r ≡ 11 → X) → (row_kind rows r ≡ 12 → X) → X
    kind_cases plain ten eleven twelve =
        let (_, most) = kind_known e in
        cases_lt (row_kind rows r) 10 (λ _ l. plain l) λ _ g.
        cases_lt (row_kind rows r) 11 (λ _ l. ten (omega arith)) λ _ g.
        cases_lt (row_kind rows r) 12 (λ _ l. eleven (omega arith)) λ _ g. twelve (omega arith)

    pub integer_row : row_kind rows r ≡ 2 → IntegerRow
    unfolding row_sound choose integer_sound
    integer_row k =
        given_inv _ _ (rw k at e) λ flags e.
        given_inv _ _ e λ lower e.
        given_inv _ _ e λ upper e.
        given_inv _ _ e λ both _.
        record {
          flags = ltb-true _ 4 flags;
          no_lower = λ t. eqb-true _ 0 (rw t at lower);
          no_upper = λ t. eqb-true _ 0 (rw t at upper);
          ordered = λ u s. leb-true _ _ (rw (unsigned_lower (row_flags rows r) (row_a rows r) s, u, s) at both);
          ordered_signed = λ l u s. leb-true _ _ (rw (l, u, s) at both);
        }

    pub enumerated_row : row_kind rows r ≡ 3 → EnumeratedRow
    unfolding row_sound choose enumerated_sound range_inside
    enumerated_row k =
        let word : ℕ → ℕ = λ i. rank (item_word items i 0) in
        given_inv _ _ (rw k at e) λ _ e.
        given_inv _ _ e λ not_empty e.
        given_inv _ _ e λ range e.
        given_inv _ _ e λ _ ascends.
        let between = ascending_between _ (λ i j k. less_trans (word i) (word j) (word k)) _ _ ascends in
        record {
          not_empty = ltb-true 0 _ not_empty;
          range = leb-true _ _ range;
          ascends = λ i j h g. ltb-true _ _ (between i j h g);
        }

    pub string_row : 7 ≤ row_kind rows r → row_kind rows r ≤ 9 → StringRow
    unfolding row_sound choose string_sound has_upper
    string_row low high =
        let k = row_kind rows r in
        let two : eqb k 2 ≡ false = ne_eqb k 2 (λ q. omega arith) in
        let three : eqb k 3 ≡ false = ne_eqb k 3 (λ q. omega arith) in
        given_inv _ _ (rw (two, three, le-leb 7 k low, le-leb k 9 high) at e) λ flags e.
        given_inv _ _ e λ sizes e.
        given_inv _ _ e λ order _.
        let (least, most) = and_both (leb (row_a rows r) 65535) _ sizes in
        record {
          flags = ⊎_elim (λ t. inl (eqb-true _ 0 t)) (λ t. inr (eqb-true _ 2 t)) (or_either _ _ flags);
          least = leb-true _ 65535 least;
          most = leb-true _ 65535 most;
          ordered = λ q. leb-true _ _ (rw q at order);
          no_most = λ q. eqb-true _ 0 (rw q at order);
        }

    pub sequence_row : row_kind rows r ≡ 10 → SequenceRow
    unfolding row_sound choose sequence_sound range_inside
    sequence_row k =
        given_inv _ _ (rw k at e) λ _ e.
        given_inv _ _ e λ range each.
        record { range = leb-true _ _ range; component = λ i h. component_sound_lem _ (every_at _ _ _ each i h) }

    pub sequence_of_row : row_kind rows r ≡ 11 → SequenceOfRow
    unfolding row_sound choose sequence_of_sound range_inside
    sequence_of_row k =
        given_inv _ _ (rw k at e) λ _ e.
        given_inv _ _ e λ one e.
        given_inv _ _ e λ range e.
        given_inv _ _ e λ _ lower.
        record { one = eqb-true _ 1 one; range = leb-true _ _ range; lower = ltb-true _ r lower }

    pub choice_row : row_kind rows r ≡ 12 → ChoiceRow
    unfolding row_sound choose choice_sound range_inside
    choice_row k =
        given_inv _ _ (rw k at e) λ _ e.
        given_inv _ _ e λ not_empty e.
        given_inv _ _ e λ range e.
        given_inv _ _ e λ each ascends.
        record {
          not_empty = ltb-true 0 _ not_empty;
          range = leb-true _ _ range;
          alternative = λ i h. alternative_sound_lem _ (every_at _ _ _ each i h);
          ascends = ascending_between _ (before_trans items) _ _ ascends;
        }
