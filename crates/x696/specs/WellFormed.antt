-- What a sound table gives of each of its types: a DEFAULT is a value of its type, tag classes are 0 to 3, and every
-- alternative's tag leads back to its own place, so that no two have one tag. `TableTypes` proves it of every row of a
-- table whose check finds no fault. Assumes nothing.
use Rattle.std.specs.Prelude.{◌≡◌, ℕ, zero, suc, ◌<◌}
use Rattle.x696.specs.Types.{Ty, leaf, sequence, sequence_of, choice, Items, no_items, item, item_count, missing}
use Rattle.x696.specs.Types.{alternative, tag_at}
use Rattle.x696.specs.Fits.{Fits}

abbrev pub DefaultFits : (mark default : ℕ) → Ty → Type 0
DefaultFits zero d t = Unit {0}
DefaultFits (suc zero) d t = Unit {0}
DefaultFits (suc (suc m)) d t = Fits t (missing (suc (suc m)) d t)

-- each alternative's tag is its own
abbrev pub TagsDiffer : Items → Type 0
TagsDiffer is = (n : ℕ) → n < item_count is → alternative is (tag_at is n) ≡ n

abbrev mutual
  pub WellFormed : Ty → Type 0
  WellFormed (leaf l) = Unit {0}
  WellFormed (sequence is) = WellFormedComponents is
  WellFormed (sequence_of t) = WellFormed t
  WellFormed (choice is) = WellFormedAlternatives is × TagsDiffer is

  pub WellFormedComponents : Items → Type 0
  WellFormedComponents no_items = Unit {0}
  WellFormedComponents (item m d t is) = WellFormed t × DefaultFits m d t × WellFormedComponents is

  pub WellFormedAlternatives : Items → Type 0
  WellFormedAlternatives no_items = Unit {0}
  WellFormedAlternatives (item a b t is) = (a < 4) × WellFormed t × WellFormedAlternatives is
