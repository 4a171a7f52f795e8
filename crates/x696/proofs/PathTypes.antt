-- The type of a component is well formed, and its default fits, if the type that holds it is well formed.
-- Assumes nothing.
use Rattle.std.specs.Prelude.{◌≡◌, List, [], ◌∷◌, ℕ, zero, suc}
use Rattle.x696.specs.Value.{Val, node, Vals, no_values, value}
use Rattle.x696.specs.Types.{Ty, leaf, sequence, sequence_of, choice, Items, no_items, item}
use Rattle.x696.specs.WellFormed.{DefaultFits, WellFormed, WellFormedComponents, WellFormedAlternatives}
use Rattle.x696.specs.Path.{child, component_at, element_at, alternative_at, child_at, found, find_from, find}
use Rattle.x696.proofs.ChildLaws.{no_component_lem, same_component}
use Rattle.x696.proofs.PathLaws.{same_found, step_inv}

-- a well_formed type, and a default that fits
abbrev pub Formed : (mark default : ℕ) → Ty → Val → Type 0
Formed m d t v = WellFormed t × DefaultFits m d t

component_formed : (is : Items) (vs : Vals) (i : ℕ) {m d : ℕ} {u : Ty} {x : Val} → component_at is vs i ≡ child m d u x
    → WellFormedComponents is → Formed m d u x
unfolding component_at
component_formed no_items vs i e w = absurd (no_component_lem e)
component_formed (item m d t is) no_values i e w = absurd (no_component_lem e)
component_formed (item m d t is) (value v vs) zero e w = same_component Formed e (w.0, w.1)
component_formed (item m d t is) (value v vs) (suc i) e w = component_formed is vs i e w.2

element_formed : (t : Ty) (vs : Vals) (i : ℕ) {m d : ℕ} {u : Ty} {x : Val} → element_at t vs i ≡ child m d u x
    → WellFormed t → Formed m d u x
unfolding element_at
element_formed t no_values i e w = absurd (no_component_lem e)
element_formed t (value v vs) zero e w = same_component Formed e (w, tt)
element_formed t (value v vs) (suc i) e w = element_formed t vs i e w

alternative_formed : (is : Items) (n : ℕ) (vs : Vals) (i : ℕ) {m d : ℕ} {u : Ty} {x : Val}
    → alternative_at is n vs i ≡ child m d u x → WellFormedAlternatives is → Formed m d u x
unfolding alternative_at
alternative_formed no_items n vs i e w = absurd (no_component_lem e)
alternative_formed (item a b t is) n no_values i e w = absurd (no_component_lem e)
alternative_formed (item a b t is) zero (value v vs) zero e w = same_component Formed e (w.1, tt)
alternative_formed (item a b t is) zero (value v vs) (suc i) e w = absurd (no_component_lem e)
alternative_formed (item a b t is) (suc n) (value v vs) i e w = alternative_formed is n (value v vs) i e w.2

child_formed : (t : Ty) (v : Val) (i : ℕ) {m d : ℕ} {u : Ty} {x : Val} → child_at t v i ≡ child m d u x
    → WellFormed t → Formed m d u x
unfolding child_at
child_formed (leaf l) v i e w = absurd (no_component_lem e)
child_formed (sequence is) (node k n os vs) i e w = component_formed is vs i e w
child_formed (sequence_of t) (node k n os vs) i e w = element_formed t vs i e w
child_formed (choice is) (node k n os vs) i e w = alternative_formed is n vs i e w.0

inner_formed : (m d : ℕ) (t : Ty) (v : Val) (p : List ℕ) {m' d' : ℕ} {u : Ty} {x : Val}
    → find_from m d t v p ≡ found m' d' u x → Formed m d t v → Formed m' d' u x
unfolding find_from
inner_formed m d t v [] e w = same_found Formed e w
inner_formed m d t v (i ∷ p) e w =
    step_inv m d t v i p e λ m₁ d₁ t₁ v₁ c q. inner_formed m₁ d₁ t₁ v₁ p q (child_formed t v i c w.0)

-- the component that a path finds in a value
pub find_formed : (t : Ty) (v : Val) (p : List ℕ) {m d : ℕ} {u : Ty} {x : Val} → find t v p ≡ found m d u x
    → WellFormed t → WellFormed u × DefaultFits m d u
unfolding find
find_formed t v p e w = inner_formed 0 0 t v p e (w, tt)
