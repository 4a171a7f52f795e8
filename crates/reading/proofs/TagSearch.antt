-- A tag found by halving: the alternatives compare with it by class, then number, and their tags ascend.
-- Premises are the callees' `ensures`. Assumes nothing.
use Rattle.std.proofs.Common.{◌≡◌, refl, sym, ap, true, false, ◌&&◌, ◌||◌, List, ℕ, zero, suc, ◌+◌, ◌<◌, ◌≤◌, Option, Some, Ordering, Equal, ltb, eqb, arith}
use Rattle.std.specs.Ordering.{nat_cmp, ordering_index, ordering_then}
use borrow.Author.Tests.{tests}
use Rattle.x696.specs.Outcome.{choose}
use Rattle.x696.proofs.OutcomeLaws.{cases_lt}
use Rattle.x696.specs.Tag.{tag}
use Rattle.x696.specs.Types.{Ty, alternative}
use Rattle.x696.specs.Table.{tag_class, tag_number, alternatives_from, items_from}
use Rattle.x696.specs.TableCheck.{tag_before}
use Rattle.x696.proofs.TableTags.{alternatives_count, alternatives_tag, tags_differ}
use Rattle.x696.specs.SoundTable.{Each}
use Rattle.x696.proofs.TableTests.{each_first, each_later}
use Rattle.table.specs.Orders.{Rises, FindsBy}
use Rattle.reading.specs.Parts.{TagsAscend, Chooses}

-- ---- the order of tags, by class, then number
abbrev pub compared : (c m class number : ℕ) → Ordering
compared c m class number = ordering_then (nat_cmp c class) (nat_cmp m number)

pub later : (c m d k class number : ℕ) → ltb c d || (eqb c d && ltb m k) ≡ true
    → ordering_index (compared c m class number) ≤ ordering_index (compared d k class number)
later c m d k class number h = grind (arith, tests)

same : (c m class number : ℕ) → compared c m class number ≡ Equal → (class ≡ c) × (number ≡ m)
same c m class number e = grind (arith, tests)

pub other : (c m class number : ℕ) → (compared c m class number ≡ Equal → ⊥) → eqb class c && eqb number m ≡ false
other c m class number h = grind (arith, tests)

-- ---- the alternatives
module _ (items : List ℕ) (class number : ℕ) where
  abbrev Other : (i : ℕ) → Type 0
  Other i = eqb class (tag_class items i) && eqb number (tag_number items i) ≡ false

  -- a tag that no alternative has
  pub alternative_none : (f : ℕ → Ty) (first n : ℕ) → Each Other first n
      → n ≡ alternative (alternatives_from f items first n) (tag class number)
  unfolding alternative choose items_from
  alternative_none f first zero h = refl
  alternative_none f first (suc n) h =
      rw (each_first Other first n h) (ap suc (alternative_none f (suc first) n (each_later Other first n h)))

  module _ (first n : ℕ) (ascends : TagsAscend items first n) where
    -- the tag that the alternative at i has
    pub alternative_found : (f : ℕ → Ty) {i : ℕ} → i < n → class ≡ tag_class items (first + i)
        → number ≡ tag_number items (first + i) → i ≡ alternative (alternatives_from f items first n) (tag class number)
    alternative_found f {i} h p q =
        rw (p, q, ← alternatives_tag items f first n i h)
        (sym (tags_differ items f first n ascends i (rw (alternatives_count items f first n) h)))

    abbrev pub by_tag : (i : ℕ) → Ordering
    by_tag i = compared (tag_class items (first + i)) (tag_number items (first + i)) class number

    tags_rise : Rises by_tag n
    unfolding tag_before
    tags_rise i j h g =
        cases_lt i j
        (λ _ l. later _ _ _ _ class number (ascends i j l g))
        (λ _ l. let e : i ≡ j = omega arith in rw e (omega arith))

    module _ (gives : ℕ → Ordering → Type 0) (is : (i : ℕ) (o : Ordering) → gives i o → o ≡ by_tag i) where
      found : (r : Option ℕ) → FindsBy gives n r → (k : ℕ) → r ≡ Some k
          → (k < n) × ((f : ℕ → Ty) → k ≡ alternative (alternatives_from f items first n) (tag class number))
      found r w k t =
          let (l, e) = rw t at w by_tag is tags_rise in
          let (p, q) = same _ _ class number e in
          (l, λ f. alternative_found f l p q)

      pub chooses : (r : Option ℕ) → FindsBy gives n r → Chooses items first n class number r
      chooses r w = record {
        there = found r w;
        nowhere = λ t f.
            let none = rw t at w by_tag is tags_rise in
            alternative_none f first n (λ i h. other _ _ class number (none i h));
      }
