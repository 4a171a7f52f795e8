-- Tags in strictly ascending order: the order is transitive, and each alternative's tag leads back to its own place.
-- Assumes nothing.
use Rattle.std.specs.Prelude.{◌≡◌, true, ◌&&◌, List, eqb}
use Rattle.std.proofs.Math.Path.{refl}
use Rattle.std.proofs.Common.{ap, sym, ◌∙◌, add-zero, not-suc-le-zero}
use Rattle.std.proofs.Math.Bool.{false}
use Rattle.std.proofs.Math.Logic.{⊎_elim}
use Prim.Native.Nat.{ℕ, zero, suc, ◌+◌, ◌<◌}
use native.Mathlib.Omega.{arith}
use Rattle.std.proofs.Math.Dec.{ltb}
use borrow.Author.Tests.{lt-ltb, le-ltb, eq-eqb, ne_eqb, ltb-true, eqb-true}
use Rattle.x696.specs.Outcome.{choose}
use Rattle.x696.proofs.OutcomeLaws.{and_both, or_either}
use Rattle.x696.specs.Tag.{tag}
use Rattle.x696.specs.Types.{Ty, item_count, alternative, tag_at}
use Rattle.x696.specs.WellFormed.{TagsDiffer}
use Rattle.x696.specs.Table.{item_word, alternatives_from, items_from}
use Rattle.x696.specs.TableCheck.{tag_before}
use Rattle.x696.specs.SoundTable.{Each}
use Rattle.x696.proofs.TableTests.{each_first, each_later}

module _ (items : List ℕ) (f : ℕ → Ty) where
  pub alternatives_count : (first n : ℕ) → item_count (alternatives_from f items first n) ≡ n
  unfolding item_count items_from
  alternatives_count first zero = refl
  alternatives_count first (suc n) = rw (alternatives_count (suc first) n)

  pub alternatives_tag : (first n i : ℕ) → i < n
      → tag_at (alternatives_from f items first n) i ≡ tag (item_word items (first + i) 0) (item_word items (first + i) 1)
  unfolding tag_at items_from
  alternatives_tag first zero i h = absurd (not-suc-le-zero h)
  alternatives_tag first (suc n) zero h = rw (add-zero first)
  alternatives_tag first (suc n) (suc i) h =
      let e : first + suc i ≡ suc first + i = omega arith in
      rw e (alternatives_tag (suc first) n i (omega arith))

  -- the place of a tag is that of the first item that has it
  module _ (c m : ℕ) where
    abbrev Other : (i : ℕ) → Type 0
    Other i = eqb c (item_word items i 0) && eqb m (item_word items i 1) ≡ false

    pub alternative_at_lem : (first n i : ℕ) → i < n → Each Other first i
        → eqb c (item_word items (first + i) 0) && eqb m (item_word items (first + i) 1) ≡ true
        → alternative (alternatives_from f items first n) (tag c m) ≡ i
    unfolding alternative choose items_from
    alternative_at_lem first zero i h others own = absurd (not-suc-le-zero h)
    alternative_at_lem first (suc n) zero h others own = rw (rw (add-zero first) at own)
    alternative_at_lem first (suc n) (suc i) h others own =
        let e : suc first + i ≡ first + suc i = omega arith in
        rw (each_first Other first i others)
        (ap suc (alternative_at_lem (suc first) n i (omega arith) (each_later Other first i others) (rw e own)))

module _ (items : List ℕ) where
  abbrev class_of : (i : ℕ) → ℕ
  class_of i = item_word items i 0

  abbrev number_of : (i : ℕ) → ℕ
  number_of i = item_word items i 1

  abbrev pub Before : (i j : ℕ) → Type 0
  Before i j = tag_before items i j ≡ true

  module _ (i j : ℕ) where
    by_class : class_of i < class_of j → Before i j
    unfolding tag_before
    by_class h = rw (lt-ltb (class_of i) (class_of j) h)

    by_number : class_of i ≡ class_of j → number_of i < number_of j → Before i j
    unfolding tag_before
    by_number e h =
        let no : ltb (class_of i) (class_of j) ≡ false = le-ltb (class_of i) (class_of j) (omega arith) in
        rw (no, eq-eqb (class_of i) (class_of j) e, lt-ltb (number_of i) (number_of j) h)

    before_inv : {X : Type 0} → Before i j → (class_of i < class_of j → X)
        → (class_of i ≡ class_of j → number_of i < number_of j → X) → X
    unfolding tag_before
    before_inv e f g =
        ⊎_elim
        (λ t. f (ltb-true _ _ t))
        (λ t. let (p, q) = and_both (eqb (class_of i) (class_of j)) _ t in g (eqb-true _ _ p) (ltb-true _ _ q))
        (or_either _ _ e)

    -- an earlier tag is another one
    before_differs : Before i j → eqb (class_of j) (class_of i) && eqb (number_of j) (number_of i) ≡ false
    before_differs e =
        before_inv e
        (λ h. rw (ne_eqb (class_of j) (class_of i) λ q. omega arith))
        (λ q h. rw (eq-eqb (class_of j) (class_of i) (sym q), ne_eqb (number_of j) (number_of i) λ q. omega arith))

  pub before_trans : (i j k : ℕ) → Before i j → Before j k → Before i k
  before_trans i j k a b =
      before_inv i j a
      (λ h. before_inv j k b (λ g. by_class i k (omega arith)) (λ q _. by_class i k (omega arith)))
      (λ p h. before_inv j k b (λ g. by_class i k (omega arith)) (λ q g. by_number i k (p ∙ q) (omega arith)))

  pub tags_differ : (f : ℕ → Ty) (first n : ℕ) → ((i j : ℕ) → i < j → j < n → Before (first + i) (first + j))
      → TagsDiffer (alternatives_from f items first n)
  tags_differ f first n ascends i h =
      let l : i < n = rw (alternatives_count items f first n) at h in
      rw (alternatives_tag items f first n i l)
      (alternative_at_lem items f _ _ first n i l
      (λ j g. before_differs (first + j) (first + i) (ascends j i g l))
      (rw (eq-eqb (class_of (first + i)) _ refl, eq-eqb (number_of (first + i)) _ refl)))
