-- A message read as a value of a type: the first fault in reading order, or the value, the octets after it and the
-- nodes so far. `end` is where the octets end: what is left, s, begins at offset end - length s. `limit` is the
-- greatest number of nodes. A node is counted before any octet of its value is looked at (10). Assumes nothing.
use Rattle.std.specs.Prelude.{not, List, [], ℕ, zero, suc, ◌-◌, length, drop, get_or, ltb, eqb}
use Rattle.x696.specs.Outcome.{Outcome, refused, got, next, must, choose}
use Rattle.x696.specs.Tag.{read_tag}
use Rattle.x696.specs.Bits.{read_preamble}
use Rattle.x696.specs.Variable.{read_unsigned}
use Rattle.x696.specs.Value.{Val, node, Vals, no_values, value, only, same}
use Rattle.x696.specs.Leaf.{read_leaf}
use Rattle.x696.specs.Types.{Ty, leaf, sequence, sequence_of, choice, Items, no_items, item, item_count}
use Rattle.x696.specs.Types.{presence_count, mark_count, missing, alternative}

-- where a reading stands: the octets left, and the nodes counted so far
pub record Message : Type 0 where
  pub octets : List ℕ
  pub count : ℕ

abbrev pub message : List ℕ → ℕ → Message
message s c = record { octets = s; count = c }

unfoldable pub offset : (end : ℕ) → List ℕ → ℕ
offset end s = end - length s

-- one thing n times over
module _ {S : Type 0} where
  unfoldable pub times : (S → Outcome S Val) → ℕ → S → Outcome S Vals
  times f zero s = got no_values s
  times f (suc n) s = next (f s) λ v s. next (times f n s) λ vs s. got (value v vs) s

module _ (limit : ℕ) where
  -- one node more
  unfoldable pub counted : (end : ℕ) → Message → (Message → Outcome Message Val) → Outcome Message Val
  counted end s k = must (ltb s.count limit) 10 (offset end s.octets) (k (message s.octets (suc s.count)))

  -- a component, given the reader of its type: plain; or with its presence bit,
  -- then it is missing or differs from what it is if missing
  unfoldable pub component_by : (Message → Outcome Message Val) → (mark default : ℕ) → Ty → (bit end : ℕ) → Message
      → Outcome Message Val
  component_by f zero d t x end s = f s
  component_by f (suc m) d t x end s =
      choose (eqb x 0)
      (λ _. counted end s λ s. got (missing (suc m) d t) s)
      -- a component equal to its DEFAULT is absent (31.9)
      (λ _. next (f s) λ v r. must (not (same v (missing (suc m) d t))) 6 (offset end s.octets) (got v r))

  unfoldable mutual
    -- a value whose own node is counted
    pub read_inside : Ty → (end : ℕ) → Message → Outcome Message Val
    read_inside (leaf l) end s =
        next (read_leaf l (offset end s.octets) s.octets) λ v r. got v (message r s.count)
    read_inside (sequence is) end s =
        next (read_preamble (mark_count is) (offset end s.octets) s.octets) λ bits r.
        next (read_components is bits end (message r s.count)) λ vs s. got (node 10 (item_count is) [] vs) s
    read_inside (sequence_of t) end s =
        next (read_unsigned (offset end s.octets) s.octets) λ n r.
        next (times (λ s. counted end s λ s. read_inside t end s) n (message r s.count)) λ vs s.
        got (node 11 n [] vs) s
    read_inside (choice is) end s =
        next (read_tag (offset end s.octets) s.octets) λ g r.
        -- a tag of the type (20.1)
        must (ltb (alternative is g) (item_count is)) 7 (offset end s.octets)
        (next (read_alternative is (alternative is g) end (message r s.count)) λ v s.
        got (node 12 (alternative is g) [] (only v)) s)

    pub read_components : Items → (bits : List ℕ) → (end : ℕ) → Message → Outcome Message Vals
    read_components no_items bits end s = got no_values s
    read_components (item m d t is) bits end s =
        next (component_by (λ s. counted end s λ s. read_inside t end s) m d t (get_or bits 0 0) end s) λ v s.
        next (read_components is (drop (presence_count m) bits) end s) λ vs s. got (value v vs) s

    pub read_alternative : Items → (place end : ℕ) → Message → Outcome Message Val
    read_alternative no_items n end s = refused 7 (offset end s.octets)
    read_alternative (item a b t is) zero end s = counted end s λ s. read_inside t end s
    read_alternative (item a b t is) (suc n) end s = read_alternative is n end s

  -- a value: its node counted, then its octets
  unfoldable pub read : Ty → (end : ℕ) → Message → Outcome Message Val
  read t end s = counted end s λ s. read_inside t end s

  -- one component: mark, default, type, presence bit
  unfoldable pub read_component : (mark default : ℕ) → Ty → (bit end : ℕ) → Message → Outcome Message Val
  read_component m d t x end s = component_by (λ s. read t end s) m d t x end s
