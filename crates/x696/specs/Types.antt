-- Types as trees. An item is (mark, default, type) in a SEQUENCE and (class, number, type) in a CHOICE, as in the type
-- table. A SET is written as a SEQUENCE, its components already in the order of clause 18.2.
-- Assumes nothing.
use Rattle.std.specs.Prelude.{◌&&◌, [], ℕ, zero, suc, ◌+◌, max, eqb}
use Rattle.x696.specs.Outcome.{choose}
use Rattle.x696.specs.Tag.{Tag, tag}
use Rattle.x696.specs.Value.{Val, node, no_values, absent}
use Rattle.x696.specs.Leaf.{Leaf, leaf_kind}

mutual
  pub data Ty : Type 0 where
    leaf : Leaf → Ty
    sequence : Items → Ty
    sequence_of : Ty → Ty
    choice : Items → Ty

  pub data Items : Type 0 where
    no_items : Items
    item : (a b : ℕ) → Ty → Items → Items

unfoldable pub kind_of : Ty → ℕ
kind_of (leaf l) = leaf_kind l
kind_of (sequence is) = 10
kind_of (sequence_of t) = 11
kind_of (choice is) = 12

unfoldable pub item_count : Items → ℕ
item_count no_items = 0
item_count (item a b t is) = suc (item_count is)

-- marks: 0 plain, 1 OPTIONAL, 2 DEFAULT; the last two have a presence bit each (16.2.3)
unfoldable pub presence_count : (mark : ℕ) → ℕ
presence_count zero = 0
presence_count (suc m) = 1

unfoldable pub mark_count : Items → ℕ
mark_count no_items = 0
mark_count (item m d t is) = presence_count m + mark_count is

-- the value of a component that is not carried: ABSENT, or its DEFAULT
unfoldable pub missing : (mark default : ℕ) → Ty → Val
missing zero d t = absent
missing (suc zero) d t = absent
missing (suc (suc m)) d t = node (kind_of t) d [] no_values

-- the place among the items of the alternative with this tag; the number of items where there is none
unfoldable pub alternative : Items → Tag → ℕ
alternative no_items g = 0
alternative (item a b t is) (tag class n) =
    choose (eqb class a && eqb n b) (λ _. 0) (λ _. suc (alternative is (tag class n)))

-- the tag of the alternative at a place
unfoldable pub tag_at : Items → ℕ → Tag
tag_at no_items n = tag 0 0
tag_at (item a b t is) zero = tag a b
tag_at (item a b t is) (suc n) = tag_at is n

-- 1 for a kind without components, else one more than the greatest among the items
unfoldable mutual
  pub nesting : Ty → ℕ
  nesting (leaf l) = 1
  nesting (sequence is) = suc (nestings is)
  nesting (sequence_of t) = suc (nesting t)
  nesting (choice is) = suc (nestings is)

  pub nestings : Items → ℕ
  nestings no_items = 0
  nestings (item a b t is) = max (nesting t) (nestings is)
