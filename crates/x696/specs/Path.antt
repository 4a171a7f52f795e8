-- Paths (document 01, "Editing and reading by path"): a step is a component number, an element number, or 0 into a
-- CHOICE's alternative. The component at a path, the value with that component replaced, and where the component's own
-- octets stand. A path may end at an ABSENT component but not pass it: ABSENT has no children. Assumes nothing.
use Rattle.std.specs.Prelude.{List, [], ◌∷◌, ◌++◌, ℕ, zero, suc}
use Rattle.x696.specs.Tag.{tag_octets}
use Rattle.x696.specs.Bits.{preamble}
use Rattle.x696.specs.Variable.{variable_unsigned}
use Rattle.x696.specs.Value.{Val, node, Vals, no_values, value, absent}
use Rattle.x696.specs.Types.{Ty, leaf, sequence, sequence_of, choice, Items, no_items, item, mark_count, tag_at}
use Rattle.x696.specs.Encode.{presence, encode, own_octets}

-- a component: its mark and default (0, 0 in a SEQUENCE OF, in a CHOICE and for the whole value), its type, its value
pub data Child : Type 0 where
  no_child : Child
  child : (mark default : ℕ) → Ty → Val → Child

unfoldable pub component_at : Items → Vals → ℕ → Child
component_at no_items vs i = no_child
component_at (item m d t is) no_values i = no_child
component_at (item m d t is) (value v vs) zero = child m d t v
component_at (item m d t is) (value v vs) (suc i) = component_at is vs i

unfoldable pub element_at : Ty → Vals → ℕ → Child
element_at t no_values i = no_child
element_at t (value v vs) zero = child 0 0 t v
element_at t (value v vs) (suc i) = element_at t vs i

-- the alternative at a place, by the step 0 alone
unfoldable pub alternative_at : Items → (place : ℕ) → Vals → (step : ℕ) → Child
alternative_at no_items n vs i = no_child
alternative_at (item a b t is) n no_values i = no_child
alternative_at (item a b t is) zero (value v vs) zero = child 0 0 t v
alternative_at (item a b t is) zero (value v vs) (suc i) = no_child
alternative_at (item a b t is) (suc n) (value v vs) i = alternative_at is n (value v vs) i

unfoldable pub child_at : Ty → Val → (step : ℕ) → Child
child_at (leaf l) v i = no_child
child_at (sequence is) (node k n os vs) i = component_at is vs i
child_at (sequence_of t) (node k n os vs) i = element_at t vs i
child_at (choice is) (node k n os vs) i = alternative_at is n vs i

-- through a step: what is given where it leads nowhere, or what is made of the child that it leads to
module _ {A : Type 0} where
  unfoldable pub through : Child → A → ((mark default : ℕ) → Ty → Val → A) → A
  through no_child none some = none
  through (child m d t v) none some = some m d t v

-- the component at a path; where there is none, how many steps were taken before the one that leads nowhere
pub data Found : Type 0 where
  nowhere : (step : ℕ) → Found
  found : (mark default : ℕ) → Ty → Val → Found

unfoldable pub onward : Found → Found
onward (nowhere n) = nowhere (suc n)
onward (found m d t v) = found m d t v

unfoldable pub find_from : (mark default : ℕ) → Ty → Val → (path : List ℕ) → Found
find_from m d t v [] = found m d t v
find_from m d t v (i ∷ p) = through (child_at t v i) (nowhere 0) λ m d t v. onward (find_from m d t v p)

-- the whole value is a plain component
unfoldable pub find : Ty → Val → (path : List ℕ) → Found
find t v p = find_from 0 0 t v p

-- ---- a component replaced
unfoldable pub replace_at : ℕ → Val → Vals → Vals
replace_at i y no_values = no_values
replace_at zero y (value v vs) = value y vs
replace_at (suc i) y (value v vs) = value v (replace_at i y vs)

unfoldable pub replace_child : ℕ → Val → Val → Val
replace_child i y (node k n os vs) = node k n os (replace_at i y vs)

unfoldable pub value_at : ℕ → Vals → Val
value_at i no_values = absent
value_at zero (value v vs) = v
value_at (suc i) (value v vs) = value_at i vs

unfoldable pub child_value : ℕ → Val → Val
child_value i (node k n os vs) = value_at i vs

unfoldable pub replace : (path : List ℕ) → (new old : Val) → Val
replace [] y v = y
replace (i ∷ p) y v = replace_child i (replace p y (child_value i v)) v

-- ---- where a component's own octets stand: the octets before them
unfoldable pub components_before : Items → Vals → ℕ → List ℕ
components_before no_items vs i = []
components_before (item m d t is) no_values i = []
components_before (item m d t is) (value v vs) zero = []
components_before (item m d t is) (value v vs) (suc i) = own_octets m d t v ++ components_before is vs i

unfoldable pub elements_before : Ty → Vals → ℕ → List ℕ
elements_before t no_values i = []
elements_before t (value v vs) zero = []
elements_before t (value v vs) (suc i) = encode t v ++ elements_before t vs i

unfoldable pub child_before : Ty → Val → (step : ℕ) → List ℕ
child_before (leaf l) v i = []
child_before (sequence is) (node k n os vs) i = preamble (mark_count is) (presence is vs) ++ components_before is vs i
child_before (sequence_of t) (node k n os vs) i = variable_unsigned n ++ elements_before t vs i
child_before (choice is) (node k n os vs) i = tag_octets (tag_at is n)

unfoldable pub octets_before : Ty → Val → (path : List ℕ) → List ℕ
octets_before t v [] = []
octets_before t v (i ∷ p) = through (child_at t v i) [] λ m d u x. child_before t v i ++ octets_before u x p
