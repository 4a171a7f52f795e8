-- Values as trees, and the value list of a value (document 01, "The value list").
-- Each node is as in the list: kind, number, a string's own octets, then what follows it as children.
-- ABSENT is the node 0, 0. Assumes nothing.
use Rattle.std.specs.Prelude.{Bool, true, false, ◌&&◌, List, [], ◌∷◌, ◌++◌, ℕ, suc, ◌+◌, eqb}

mutual
  pub data Val : Type 0 where
    node : (kind number : ℕ) → (octets : List ℕ) → (children : Vals) → Val

  pub data Vals : Type 0 where
    no_values : Vals
    value : Val → Vals → Vals

abbrev pub absent : Val
absent = node 0 0 [] no_values

abbrev pub only : Val → Vals
only v = value v no_values

unfoldable pub value_count : Vals → ℕ
value_count no_values = 0
value_count (value v vs) = suc (value_count vs)

-- how many nodes a value has
unfoldable mutual
  pub size : Val → ℕ
  size (node k n os vs) = suc (sizes vs)

  pub sizes : Vals → ℕ
  sizes no_values = 0
  sizes (value v vs) = size v + sizes vs

-- the words of its nodes, two a node, in order of the walk
abbrev pub node_width : ℕ
node_width = 2

unfoldable mutual
  pub nodes : Val → List ℕ
  nodes (node k n os vs) = k ∷ n ∷ nodes_of vs

  pub nodes_of : Vals → List ℕ
  nodes_of no_values = []
  nodes_of (value v vs) = nodes v ++ nodes_of vs

-- its contents: each string's octets following the last one's
unfoldable mutual
  pub contents : Val → List ℕ
  contents (node k n os vs) = os ++ contents_of vs

  pub contents_of : Vals → List ℕ
  contents_of no_values = []
  contents_of (value v vs) = contents v ++ contents_of vs

-- whether two values are the same
unfoldable pub same_octets : List ℕ → List ℕ → Bool
same_octets [] [] = true
same_octets [] (y ∷ ys) = false
same_octets (x ∷ xs) [] = false
same_octets (x ∷ xs) (y ∷ ys) = eqb x y && same_octets xs ys

unfoldable mutual
  pub same : Val → Val → Bool
  same (node k n os vs) (node k' n' os' vs') = eqb k k' && (eqb n n' && (same_octets os os' && sames vs vs'))

  pub sames : Vals → Vals → Bool
  sames no_values no_values = true
  sames no_values (value w ws) = false
  sames (value v vs) no_values = false
  sames (value v vs) (value w ws) = same v w && sames vs ws
