-- What halving finds among n places: places below `low` compare less and those from `high` on greater, so that what is sought lies
-- between, or is not there. Then the numbers of an ENUMERATED. Assumes nothing.
use Rattle.std.proofs.Common.{◌≡◌, refl, sym, ◌∙◌, ℕ, zero, suc, ◌+◌, ◌^◌, ◌<◌, ◌≤◌, Bool, true, false, List, Option, Some, None, Ordering, Less, Equal, Greater, get_or, add-zero, eqb, arith}
use Rattle.std.specs.Ordering.{nat_cmp, ordering_index, is_eq}
use Rattle.std.specs.Option.{is_some}
use borrow.Author.Tests.{tests, eq-eqb, ne_eqb}
use Rattle.x696.proofs.OutcomeLaws.{cases, cases_lt}
use Rattle.x696.specs.Integer.{rank}
use Rattle.x696.specs.Enumerated.{listed}
use Rattle.x696.specs.Table.{item_word, enumerated_number, numbers_from}
use Rattle.table.specs.Orders.{Ascends, Rises, FindsBy}

-- what a test for equal tells of an order, and what is left behind it
pub equal_is : (o : Ordering) {t : Bool} → t ≡ is_eq o → t ≡ true → o ≡ Equal
equal_is Less e h = absurd (cc)
equal_is Equal e h = refl
equal_is Greater e h = absurd (cc)

pub greater_left : (o : Ordering) {t : Bool} → t ≡ is_eq o → t ≡ false → (o ≡ Less → ⊥) → o ≡ Greater
greater_left Less e h less = absurd (less refl)
greater_left Equal e h less = absurd (cc)
greater_left Greater e h less = refl

at_most : (o p : Ordering) → ordering_index o ≤ ordering_index p → p ≡ Less → o ≡ Less
at_most Less p h e = refl
at_most Equal p h e = absurd (omega (arith, rw e at h))
at_most Greater p h e = absurd (omega (arith, rw e at h))

at_least : (o p : Ordering) → ordering_index o ≤ ordering_index p → o ≡ Greater → p ≡ Greater
at_least o Less h e = absurd (omega (arith, rw e at h))
at_least o Equal h e = absurd (omega (arith, rw e at h))
at_least o Greater h e = refl

module _ (gives : ℕ → Ordering → Type 0) (n : ℕ) where
  pub record Between (low high : ℕ) : Type 0 where
    pub ordered : low ≤ high
    pub inside : high ≤ n
    pub apart : (order : ℕ → Ordering) → ((i : ℕ) (o : Ordering) → gives i o → o ≡ order i) → Rises order n
        → ((i : ℕ) → i < low → order i ≡ Less) × ((i : ℕ) → high ≤ i → i < n → order i ≡ Greater)

  pub between_all : Between 0 n
  between_all = record {
    ordered = omega arith;
    inside = omega arith;
    apart = λ order is up. (λ i h. absurd (omega arith), λ i h g. absurd (omega arith));
  }

  module _ {low high : ℕ} (b : Between low high) where
    pub between_none : high ≤ low → FindsBy gives n None
    between_none h order is up i g e =
        cases_lt i low
        (λ _ l. let less = (b.apart order is up).0 i l in cc)
        (λ _ l. let more = (b.apart order is up).1 i (omega (arith, b.ordered)) g in cc)

    module _ (mid : ℕ) (lo : low ≤ mid) (hi : mid < high) {o : Ordering} (gave : gives mid o) where
      pub found_at : o ≡ Equal → FindsBy gives n (Some mid)
      found_at e order is up = (omega (arith, b.inside), sym (is mid o gave) ∙ e)

      -- what is sought lies behind the middle, or before it
      pub between_upper : o ≡ Less → Between (mid + 1) high
      between_upper e = record {
        ordered = omega arith;
        inside = b.inside;
        apart = λ order is up. (
          (λ i h. at_most _ (order mid) (up i mid (omega arith) (omega (arith, b.inside))) (sym (is mid o gave) ∙ e)),
          (b.apart order is up).1,
        );
      }

      pub between_lower : o ≡ Greater → Between low mid
      between_lower e = record {
        ordered = lo;
        inside = omega (arith, b.inside);
        apart = λ order is up. (
          (b.apart order is up).0,
          (λ i h g. at_least (order mid) _ (up mid i h g) (sym (is mid o gave) ∙ e)),
        );
      }

-- words of one rank are one word
pub rank_one : (a b : ℕ) → a < 2 ^ 64 → b < 2 ^ 64 → rank a ≡ rank b → a ≡ b
unfolding rank
rank_one a b h g e = omega arith

module _ (items : List ℕ) (w : ℕ) where
  -- among the numbers, or not
  pub listed_there : (first n i : ℕ) → i < n → w ≡ enumerated_number items (first + i) → listed w (numbers_from items first n) ≡ true
  unfolding listed numbers_from
  listed_there first zero i h e = absurd (omega arith)
  listed_there first (suc n) zero h e = rw (eq-eqb w (enumerated_number items first) (rw add-zero at e))
  listed_there first (suc n) (suc i) h e =
      let q : first + suc i ≡ suc first + i = omega arith in
      let rest = listed_there (suc first) n i (omega arith) (rw q at e) in
      cases (eqb w (enumerated_number items first)) (λ t. rw t) (λ t. rw (t, rest))

  pub listed_nowhere : (first n : ℕ) → ((i : ℕ) → i < n → w ≡ enumerated_number items (first + i) → ⊥)
      → listed w (numbers_from items first n) ≡ false
  unfolding listed numbers_from
  listed_nowhere first zero h = refl
  listed_nowhere first (suc n) h =
      let no : eqb w (enumerated_number items first) ≡ false = ne_eqb w _ (λ e. h 0 (omega arith) (rw add-zero e)) in
      rw (
        no,
        listed_nowhere (suc first) n (λ i g e.
            let q : suc first + i ≡ first + suc i = omega arith in h (suc i) (omega arith) (rw q at e)),
      )

-- ---- numbers compared by rank
later : (a b g : ℕ) → a ≤ b → ordering_index (nat_cmp a g) ≤ ordering_index (nat_cmp b g)
later a b g h = grind (arith, tests)

equal_of : (a b : ℕ) → nat_cmp a b ≡ Equal → a ≡ b
equal_of a b e = grind (arith, tests)

of_equal : (a : ℕ) → nat_cmp a a ≡ Equal
of_equal a = grind (arith, tests)

abbrev pub by_rank : (items : List ℕ) → (first goal i : ℕ) → Ordering
by_rank items first goal i = nat_cmp (rank (enumerated_number items (first + i))) goal

module _ (items : List ℕ) (first n w : ℕ) (ascends : Ascends items first n) where
  ranks_rise : (goal : ℕ) → Rises (by_rank items first goal) n
  ranks_rise goal i j h g =
      later _ _ goal (cases_lt i j
      (λ _ l. let a = ascends i j l (omega arith) in omega arith)
      (λ _ l. let e : i ≡ j = omega arith in rw e (omega arith)))

  module _ {goal : ℕ} (sought : goal ≡ rank w) (small : w < 2 ^ 64) (fits : (i : ℕ) → get_or items i 0 < 2 ^ 64)
      (gives : ℕ → Ordering → Type 0) (is : (i : ℕ) (o : Ordering) → gives i o → o ≡ by_rank items first goal i) where
    pub listed_of : (r : Option ℕ) → FindsBy gives n r → is_some r ≡ listed w (numbers_from items first n)
    unfolding item_word
    listed_of (Some i) found =
        let (l, e) = found _ is (ranks_rise goal) in
        sym (listed_there items w first n i l (rank_one w _ small (fits _) (sym (equal_of _ _ e ∙ sought))))
    listed_of None none =
        sym (listed_nowhere items w first n λ k l e.
        none _ is (ranks_rise goal) k l (rw (← e, sought) (of_equal (rank w))))
