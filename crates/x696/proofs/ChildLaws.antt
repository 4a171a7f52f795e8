-- One step of a path: the component that it leads to is one of the value's children, another value may take its place,
-- and then every other step leads where it led. A value with a component is no missing value.
-- Assumes nothing.
use Rattle.std.specs.Prelude.{◌≡◌, refl, ◌≢◌, false, List, ℕ, zero, suc, ◌+◌, ◌<◌}
use Rattle.std.proofs.Common.{ap, sym, ◌∙◌, arith}
use Rattle.x696.proofs.OutcomeLaws.{cases}
use Rattle.x696.specs.Value.{Val, node, Vals, no_values, value, value_count, size, sizes, same}
use Rattle.x696.proofs.ValueLaws.{same_eq}
use Rattle.x696.specs.Types.{Ty, leaf, sequence, sequence_of, choice, Items, no_items, item, missing}
use Rattle.x696.specs.Path.{Child, no_child, child, component_at, element_at, alternative_at, child_at}
use Rattle.x696.specs.Path.{replace_at, replace_child, value_at, child_value}

-- no component is a component
pub no_component_lem : {m d : ℕ} {t : Ty} {v : Val} → no_child ≡ child m d t v → ⊥
no_component_lem e = let z : ◌≡◌ {A = ℕ} 0 1 = cc in omega arith

-- what holds of a component holds of the same component
pub same_component {ℓ} : (P : (mark default : ℕ) → Ty → Val → Type ℓ) {m d m' d' : ℕ} {t t' : Ty} {v v' : Val}
    → child m d t v ≡ child m' d' t' v' → P m d t v → P m' d' t' v'
same_component P {m} {d} {m'} {d'} {t} {t'} {v} {v'} e h =
    let a : m ≡ m' = cc in
    let b : d ≡ d' = cc in
    let c : t ≡ t' = cc in
    let f : v ≡ v' = cc in
    rw (← a, ← b, ← c, ← f) h

-- ---- the component that a step leads to
record Held (at : Vals → Child) (vs : Vals) (i m d : ℕ) (u : Ty) (x : Val) : Type 0 where
  there : i < value_count vs
  its : value_at i vs ≡ x
  new : (y : Val) → at (replace_at i y vs) ≡ child m d u y

component_held : (is : Items) (vs : Vals) (i : ℕ) {m d : ℕ} {u : Ty} {x : Val} → component_at is vs i ≡ child m d u x
    → Held (λ ws. component_at is ws i) vs i m d u x
unfolding component_at value_count value_at replace_at
component_held no_items vs i e = absurd (no_component_lem e)
component_held (item m d t is) no_values i e = absurd (no_component_lem e)
component_held (item m d t is) (value v vs) zero e =
    same_component (Held _ _ 0) e (record { there = omega arith; its = refl; new = λ y. refl })
component_held (item m d t is) (value v vs) (suc i) e =
    let h = component_held is vs i e in
    record { there = omega arith; its = h.its; new = h.new }

element_held : (t : Ty) (vs : Vals) (i : ℕ) {m d : ℕ} {u : Ty} {x : Val} → element_at t vs i ≡ child m d u x
    → Held (λ ws. element_at t ws i) vs i m d u x
unfolding element_at value_count value_at replace_at
element_held t no_values i e = absurd (no_component_lem e)
element_held t (value v vs) zero e =
    same_component (Held _ _ 0) e (record { there = omega arith; its = refl; new = λ y. refl })
element_held t (value v vs) (suc i) e =
    let h = element_held t vs i e in
    record { there = omega arith; its = h.its; new = h.new }

alternative_held : (is : Items) (n : ℕ) (vs : Vals) (i : ℕ) {m d : ℕ} {u : Ty} {x : Val}
    → alternative_at is n vs i ≡ child m d u x → Held (λ ws. alternative_at is n ws i) vs i m d u x
unfolding alternative_at value_count value_at replace_at
alternative_held no_items n vs i e = absurd (no_component_lem e)
alternative_held (item a b t is) n no_values i e = absurd (no_component_lem e)
alternative_held (item a b t is) zero (value v vs) zero e =
    same_component (Held _ _ 0) e (record { there = omega arith; its = refl; new = λ y. refl })
alternative_held (item a b t is) zero (value v vs) (suc i) e = absurd (no_component_lem e)
alternative_held (item a b t is) (suc n) (value v vs) zero e =
    let h = alternative_held is n (value v vs) 0 e in
    record { there = h.there; its = h.its; new = h.new }
alternative_held (item a b t is) (suc n) (value v vs) (suc i) e =
    let h = alternative_held is n (value v vs) (suc i) e in
    record { there = h.there; its = h.its; new = h.new }

child_held : (t : Ty) (k n : ℕ) (os : List ℕ) (vs : Vals) (i : ℕ) {m d : ℕ} {u : Ty} {x : Val}
    → child_at t (node k n os vs) i ≡ child m d u x → Held (λ ws. child_at t (node k n os ws) i) vs i m d u x
unfolding child_at
child_held (leaf l) k n os vs i e = absurd (no_component_lem e)
child_held (sequence is) k n os vs i e = component_held is vs i e
child_held (sequence_of t) k n os vs i e = element_held t vs i e
child_held (choice is) k n os vs i e = alternative_held is n vs i e

pub child_value_lem : (t : Ty) (v : Val) (i : ℕ) {m d : ℕ} {u : Ty} {x : Val} → child_at t v i ≡ child m d u x
    → child_value i v ≡ x
unfolding child_value
child_value_lem t (node k n os vs) i e = (child_held t k n os vs i e).its

pub child_replaced : (t : Ty) (v : Val) (i : ℕ) {m d : ℕ} {u : Ty} {x : Val} → child_at t v i ≡ child m d u x
    → (y : Val) → child_at t (replace_child i y v) i ≡ child m d u y
unfolding replace_child
child_replaced t (node k n os vs) i e = (child_held t k n os vs i e).new

sizes_replaced : (i : ℕ) (y : Val) (vs : Vals) → i < value_count vs
    → sizes (replace_at i y vs) + size (value_at i vs) ≡ sizes vs + size y
unfolding sizes value_count value_at replace_at
sizes_replaced i y no_values h = absurd (omega arith)
sizes_replaced zero y (value v vs) h = omega arith
sizes_replaced (suc i) y (value v vs) h = let g = sizes_replaced i y vs (omega arith) in omega arith

pub size_child : (t : Ty) (v : Val) (i : ℕ) {m d : ℕ} {u : Ty} {x : Val} → child_at t v i ≡ child m d u x
    → (y : Val) → size (replace_child i y v) + size x ≡ size v + size y
unfolding size replace_child
size_child t (node k n os vs) i e y =
    let h = child_held t k n os vs i e in
    let g = sizes_replaced i y vs h.there in
    rw (← h.its) (omega arith)

-- ---- every other step
components_stay : (is : Items) (vs : Vals) (i j : ℕ) (y : Val) → i ≢ j
    → component_at is (replace_at i y vs) j ≡ component_at is vs j
unfolding component_at replace_at
components_stay no_items vs i j y h = refl
components_stay (item m d t is) no_values i j y h = refl
components_stay (item m d t is) (value v vs) zero zero y h = absurd (h refl)
components_stay (item m d t is) (value v vs) zero (suc j) y h = refl
components_stay (item m d t is) (value v vs) (suc i) zero y h = refl
components_stay (item m d t is) (value v vs) (suc i) (suc j) y h = components_stay is vs i j y (λ e. h (ap suc e))

elements_stay : (t : Ty) (vs : Vals) (i j : ℕ) (y : Val) → i ≢ j → element_at t (replace_at i y vs) j ≡ element_at t vs j
unfolding element_at replace_at
elements_stay t no_values i j y h = refl
elements_stay t (value v vs) zero zero y h = absurd (h refl)
elements_stay t (value v vs) zero (suc j) y h = refl
elements_stay t (value v vs) (suc i) zero y h = refl
elements_stay t (value v vs) (suc i) (suc j) y h = elements_stay t vs i j y (λ e. h (ap suc e))

alternatives_stay : (is : Items) (n : ℕ) (vs : Vals) (i j : ℕ) (y : Val) → i ≢ j
    → alternative_at is n (replace_at i y vs) j ≡ alternative_at is n vs j
unfolding alternative_at replace_at
alternatives_stay no_items n vs i j y h = refl
alternatives_stay (item a b t is) n no_values i j y h = refl
alternatives_stay (item a b t is) zero (value v vs) zero zero y h = absurd (h refl)
alternatives_stay (item a b t is) zero (value v vs) zero (suc j) y h = refl
alternatives_stay (item a b t is) zero (value v vs) (suc i) zero y h = refl
alternatives_stay (item a b t is) zero (value v vs) (suc i) (suc j) y h = refl
alternatives_stay (item a b t is) (suc n) (value v vs) zero j y h = alternatives_stay is n (value v vs) zero j y h
alternatives_stay (item a b t is) (suc n) (value v vs) (suc i) j y h = alternatives_stay is n (value v vs) (suc i) j y h

pub children_stay : (t : Ty) (v : Val) (i j : ℕ) (y : Val) → i ≢ j → child_at t (replace_child i y v) j ≡ child_at t v j
unfolding child_at replace_child
children_stay (leaf l) v i j y h = refl
children_stay (sequence is) (node k n os vs) i j y h = components_stay is vs i j y h
children_stay (sequence_of t) (node k n os vs) i j y h = elements_stay t vs i j y h
children_stay (choice is) (node k n os vs) i j y h = alternatives_stay is n vs i j y h

-- ---- replaced by itself, and replaced twice
replace_at_same : (i : ℕ) (vs : Vals) → replace_at i (value_at i vs) vs ≡ vs
unfolding replace_at value_at
replace_at_same i no_values = refl
replace_at_same zero (value v vs) = refl
replace_at_same (suc i) (value v vs) = ap (value v) (replace_at_same i vs)

pub child_same : (t : Ty) (v : Val) (i : ℕ) {m d : ℕ} {u : Ty} {x : Val} → child_at t v i ≡ child m d u x
    → replace_child i x v ≡ v
unfolding replace_child
child_same t (node k n os vs) i e = rw (← (child_held t k n os vs i e).its) (ap (node k n os) (replace_at_same i vs))

-- f is what is made of the child
replace_at_twice : (f : Val → Val) (i : ℕ) (y : Val) (vs : Vals)
    → replace_at i (f (value_at i (replace_at i y vs))) (replace_at i y vs) ≡ replace_at i (f y) vs
unfolding replace_at value_at
replace_at_twice f i y no_values = refl
replace_at_twice f zero y (value v vs) = refl
replace_at_twice f (suc i) y (value v vs) = ap (value v) (replace_at_twice f i y vs)

pub child_twice : (f : Val → Val) (i : ℕ) (y v : Val)
    → replace_child i (f (child_value i (replace_child i y v))) (replace_child i y v) ≡ replace_child i (f y) v
unfolding replace_child child_value
child_twice f i y (node k n os vs) = ap (node k n os) (replace_at_twice f i y vs)

-- ---- a value with a component is carried, whatever the component is
childless : (t : Ty) (k n : ℕ) (os : List ℕ) (i : ℕ) → child_at t (node k n os no_values) i ≡ no_child
unfolding child_at component_at element_at alternative_at
childless (leaf l) k n os i = refl
childless (sequence no_items) k n os i = refl
childless (sequence (item m d t is)) k n os i = refl
childless (sequence_of t) k n os i = refl
childless (choice no_items) k n os i = refl
childless (choice (item a b t is)) k n os i = refl

pub missing_childless : (m d : ℕ) (t : Ty) (i : ℕ) → child_at t (missing m d t) i ≡ no_child
unfolding missing
missing_childless zero d t i = childless t 0 0 _ i
missing_childless (suc zero) d t i = childless t 0 0 _ i
missing_childless (suc (suc m)) d t i = childless t _ d _ i

pub with_child_differs : (m d : ℕ) (t : Ty) (v : Val) (i : ℕ) {m' d' : ℕ} {u : Ty} {x : Val}
    → child_at t v i ≡ child m' d' u x → same v (missing m d t) ≡ false
with_child_differs m d t v i e =
    cases (same v (missing m d t))
    (λ s. absurd (no_component_lem (sym (missing_childless m d t i) ∙ (rw (same_eq v (missing m d t) s) at e))))
    (λ s. s)
