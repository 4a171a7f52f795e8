-- Which values a type has.
-- A component is carried exactly if it differs from its missing value (31.9; ABSENT is that of an OPTIONAL one).
-- An alternative stands at the place that its tag names; a sound table's tags differ, so that is every place.
-- Assumes nothing.
use Rattle.std.specs.Prelude.{◌≡◌, false, List, [], ℕ, suc, ◌^◌, ◌<◌}
use Rattle.x696.specs.Value.{Val, node, Vals, no_values, value, only, value_count, same}
use Rattle.x696.specs.Leaf.{Leaf, leaf_kind, LeafFits}
use Rattle.x696.specs.Types.{Ty, leaf, sequence, sequence_of, choice, Items, no_items, item, item_count, missing}
use Rattle.x696.specs.Types.{alternative, tag_at}

mutual
  pub data Fits : Ty → Val → Type 0 where
    leaf_fits : {l : Leaf} {k n : ℕ} {os : List ℕ} → k ≡ leaf_kind l → LeafFits l n os
        → Fits (leaf l) (node k n os no_values)
    sequence_fits : {is : Items} {n : ℕ} {vs : Vals} → n ≡ item_count is → FitComponents is vs
        → Fits (sequence is) (node 10 n [] vs)
    sequence_of_fits : {t : Ty} {n : ℕ} {vs : Vals} → n ≡ value_count vs → n < 2 ^ 64 → FitAll t vs
        → Fits (sequence_of t) (node 11 n [] vs)
    choice_fits : {is : Items} {n : ℕ} {v : Val} → alternative is (tag_at is n) ≡ n → FitsAlternative is n v
        → Fits (choice is) (node 12 n [] (only v))

  -- a component with its mark and default
  pub data FitsComponent : (mark default : ℕ) → Ty → Val → Type 0 where
    plain : {d : ℕ} {t : Ty} {v : Val} → Fits t v → FitsComponent 0 d t v
    carried : {m d : ℕ} {t : Ty} {v : Val} → Fits t v → same v (missing (suc m) d t) ≡ false
        → FitsComponent (suc m) d t v
    left_out : {m d : ℕ} {t : Ty} {v : Val} → v ≡ missing (suc m) d t → FitsComponent (suc m) d t v

  pub data FitComponents : Items → Vals → Type 0 where
    no_components : FitComponents no_items no_values
    component : {m d : ℕ} {t : Ty} {is : Items} {v : Val} {vs : Vals} → FitsComponent m d t v → FitComponents is vs
        → FitComponents (item m d t is) (value v vs)

  pub data FitAll : Ty → Vals → Type 0 where
    no_elements : {t : Ty} → FitAll t no_values
    element : {t : Ty} {v : Val} {vs : Vals} → Fits t v → FitAll t vs → FitAll t (value v vs)

  pub data FitsAlternative : Items → (place : ℕ) → Val → Type 0 where
    this : {a b : ℕ} {t : Ty} {is : Items} {v : Val} → Fits t v → FitsAlternative (item a b t is) 0 v
    later : {a b n : ℕ} {t : Ty} {is : Items} {v : Val} → FitsAlternative is n v
        → FitsAlternative (item a b t is) (suc n) v
