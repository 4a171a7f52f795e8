-- A value list read as a value of a type (document 01, "The value list"): at each node 11, then 7; the place is the
-- node's number. A quantity is believed only as far as nodes go. Kinds and numbers are whole 64-bit words.
-- Nodes are looked at by `node_in` and `is_absent`, contents by `contents_at` alone. Assumes nothing.
use Rattle.std.specs.Prelude.{Bool, false, List, [], ◌∷◌, ℕ, zero, suc, ◌*◌, ◌^◌, length, take, drop, ltb, leb, eqb}
use Rattle.x696.specs.Outcome.{Outcome, refused, got, next, must, choose}
use Rattle.x696.specs.Bits.{bit_octets, unused_bits, low_bits_clear}
use Rattle.x696.specs.Integer.{allowed}
use Rattle.x696.specs.Enumerated.{listed}
use Rattle.x696.specs.Real.{real_octets, real_allowed}
use Rattle.x696.specs.String.{size_allowed, visible}
use Rattle.x696.specs.Value.{Val, node, Vals, no_values, value, only, absent}
use Rattle.x696.specs.Leaf.{Leaf, boolean, null, integer, enumerated, real, octet_string, bit_string, visible_string}
use Rattle.x696.specs.Leaf.{leaf_kind, real_kind}
use Rattle.x696.specs.Types.{Ty, leaf, sequence, sequence_of, choice, Items, no_items, item, item_count}
use Rattle.x696.specs.Read.{times}

-- where a walk stands: the words of the nodes left, the contents left, and the number of the next node
pub record Listed : Type 0 where
  pub words : List ℕ
  pub contents : List ℕ
  pub at : ℕ

abbrev pub list_at : (words contents : List ℕ) → (at : ℕ) → Listed
list_at ws cs n = record { words = ws; contents = cs; at = n }

pub data Node : Type 0 where
  kind_number : (kind number : ℕ) → Node

-- the next node; 11 where there is none
unfoldable pub node_in : (words contents : List ℕ) → (at : ℕ) → Outcome Listed Node
node_in [] cs n = refused 11 n
node_in (k ∷ []) cs n = refused 11 n
node_in (k ∷ m ∷ ws) cs n = got (kind_number k m) (list_at ws cs (suc n))

unfoldable pub number_if : (kind p : ℕ) → Node → Listed → Outcome Listed ℕ
number_if kind p (kind_number k m) s = must (eqb k kind) 11 p (got m s)

-- the number of the next node, which has to be of this kind (11)
unfoldable pub node_at : (kind : ℕ) → Listed → Outcome Listed ℕ
node_at kind s = next (node_in s.words s.contents s.at) λ x r. number_if kind s.at x r

-- the next n contents octets, for the string at node p; 11 where fewer are left
unfoldable pub contents_at : (p n : ℕ) → Listed → Outcome Listed (List ℕ)
contents_at p n s =
    must (leb n (length s.contents)) 11 p
    (got (take n s.contents) (list_at s.words (drop n s.contents) s.at))

-- the node p of a kind without components, with its number
unfoldable pub walk_leaf : Leaf → (p number : ℕ) → Listed → Outcome Listed Val
walk_leaf boolean p n s = must (ltb n 2) 11 p (got (node 1 n [] no_values) s)
walk_leaf null p n s = must (eqb n 0) 11 p (got (node 6 n [] no_values) s)
walk_leaf (integer f a b) p n s = must (allowed f a b n) 7 p (got (node 2 n [] no_values) s)
walk_leaf (enumerated ns) p n s = must (listed n ns) 7 p (got (node 3 n [] no_values) s)
walk_leaf (real w) p n s =
    must (ltb n (2 ^ (8 * real_octets w))) 11 p
    (must (real_allowed w n) 7 p (got (node (real_kind w) n [] no_values) s))
walk_leaf (octet_string f a b) p n s =
    next (contents_at p n s) λ os r.
    must (size_allowed f a b n) 7 p (got (node 7 n os no_values) r)
walk_leaf (bit_string f a b) p n s =
    next (contents_at p (bit_octets n) s) λ os r.
    must (low_bits_clear (unused_bits n) os) 11 p (must (size_allowed f a b n) 7 p (got (node 8 n os no_values) r))
walk_leaf (visible_string f a b) p n s =
    next (contents_at p n s) λ os r.
    must (size_allowed f a b n) 7 p (must (visible os) 7 p (got (node 9 n os no_values) r))

-- ABSENT: kind 0, number 0
unfoldable pub is_absent : (words : List ℕ) → Bool
is_absent [] = false
is_absent (k ∷ ws) = eqb k 0

unfoldable pub walk_absent : Listed → Outcome Listed Val
walk_absent s = next (node_at 0 s) λ n r. must (eqb n 0) 11 s.at (got absent r)

-- a component, given the walk of its type: only an OPTIONAL one may be ABSENT
unfoldable pub component_walk : (Listed → Outcome Listed Val) → (mark : ℕ) → Listed → Outcome Listed Val
component_walk f zero s = f s
component_walk f (suc zero) s = choose (is_absent s.words) (λ _. walk_absent s) (λ _. f s)
component_walk f (suc (suc m)) s = f s

unfoldable mutual
  pub walk : Ty → Listed → Outcome Listed Val
  walk (leaf l) s = next (node_at (leaf_kind l) s) λ n r. walk_leaf l s.at n r
  walk (sequence is) s =
      next (node_at 10 s) λ n r.
      must (eqb n (item_count is)) 11 s.at (next (walk_components is r) λ vs r. got (node 10 n [] vs) r)
  walk (sequence_of t) s = next (node_at 11 s) λ n r. next (times (λ s. walk t s) n r) λ vs r. got (node 11 n [] vs) r
  walk (choice is) s =
      next (node_at 12 s) λ n r.
      must (ltb n (item_count is)) 11 s.at (next (walk_alternative is n r) λ v r. got (node 12 n [] (only v)) r)

  pub walk_components : Items → Listed → Outcome Listed Vals
  walk_components no_items s = got no_values s
  walk_components (item m d t is) s =
      next (component_walk (λ s. walk t s) m s) λ v r. next (walk_components is r) λ vs r. got (value v vs) r

  pub walk_alternative : Items → (place : ℕ) → Listed → Outcome Listed Val
  walk_alternative no_items n s = refused 11 s.at
  walk_alternative (item a b t is) zero s = walk t s
  walk_alternative (item a b t is) (suc n) s = walk_alternative is n s

-- one component, by its mark
unfoldable pub walk_component : (mark : ℕ) → Ty → Listed → Outcome Listed Val
walk_component m t s = component_walk (λ s. walk t s) m s
