-- One step of a path: a component of a value that fits its type fits its own mark and type, and another that does may
-- take its place.
-- Assumes nothing.
use Rattle.std.specs.Prelude.{◌≡◌, refl, ℕ, zero, suc}
use Rattle.std.proofs.Common.{ap, sym, ◌∙◌}
use Rattle.x696.specs.Value.{Val, Vals, no_values, value, only, value_count}
use Rattle.x696.specs.Types.{Ty, Items}
use Rattle.x696.specs.Fits.{Fits, leaf_fits, sequence_fits, sequence_of_fits, choice_fits}
use Rattle.x696.specs.Fits.{FitsComponent, plain, carried, left_out, FitComponents, no_components, component}
use Rattle.x696.specs.Fits.{FitAll, no_elements, element, FitsAlternative, this, later}
use Rattle.x696.specs.Path.{child, component_at, element_at, alternative_at, child_at, replace_at, replace_child}
use Rattle.x696.proofs.ChildLaws.{no_component_lem, same_component, missing_childless, with_child_differs}

-- a component, and a whole with any other in its place
abbrev pub FitsIn : (whole : Val → Type 0) → (mark default : ℕ) → Ty → Val → Type 0
FitsIn whole m d u x = FitsComponent m d u x × ((y : Val) → FitsComponent m d u y → whole y)

pub unplain : {d : ℕ} {t : Ty} {v : Val} → FitsComponent 0 d t v → Fits t v
unplain (plain f) = f

components_fit : {is : Items} {vs : Vals} → FitComponents is vs → (i : ℕ) {m d : ℕ} {u : Ty} {x : Val}
    → component_at is vs i ≡ child m d u x → FitsIn (λ y. FitComponents is (replace_at i y vs)) m d u x
unfolding component_at replace_at
components_fit no_components i e = absurd (no_component_lem e)
components_fit (component f h) zero e = same_component (FitsIn _) e (f, λ y g. component g h)
components_fit (component f h) (suc i) e = let k = components_fit h i e in (k.0, λ y g. component f (k.1 y g))

elements_fit : {t : Ty} {vs : Vals} → FitAll t vs → (i : ℕ) {m d : ℕ} {u : Ty} {x : Val}
    → element_at t vs i ≡ child m d u x → FitsIn (λ y. FitAll t (replace_at i y vs)) m d u x
unfolding element_at replace_at
elements_fit no_elements i e = absurd (no_component_lem e)
elements_fit (element f h) zero e = same_component (FitsIn _) e (plain f, λ y g. element (unplain g) h)
elements_fit (element f h) (suc i) e = let k = elements_fit h i e in (k.0, λ y g. element f (k.1 y g))

alternative_fits : {is : Items} {n : ℕ} {v : Val} → FitsAlternative is n v → (i : ℕ) {m d : ℕ} {u : Ty} {x : Val}
    → alternative_at is n (only v) i ≡ child m d u x → (0 ≡ i) × FitsIn (FitsAlternative is n) m d u x
unfolding alternative_at
alternative_fits (this f) zero e = (refl, same_component (FitsIn _) e (plain f, λ y g. this (unplain g)))
alternative_fits (this f) (suc i) e = absurd (no_component_lem e)
alternative_fits (later h) i e = let k = alternative_fits h i e in (k.0, (k.1.0, λ y g. later (k.1.1 y g)))

count_replaced : (i : ℕ) (y : Val) (vs : Vals) → value_count (replace_at i y vs) ≡ value_count vs
unfolding value_count replace_at
count_replaced i y no_values = refl
count_replaced zero y (value v vs) = refl
count_replaced (suc i) y (value v vs) = ap suc (count_replaced i y vs)

pub child_fits : {t : Ty} {v : Val} → Fits t v → (i : ℕ) {m d : ℕ} {u : Ty} {x : Val}
    → child_at t v i ≡ child m d u x → FitsIn (λ y. Fits t (replace_child i y v)) m d u x
unfolding child_at replace_child replace_at
child_fits (leaf_fits k h) i e = absurd (no_component_lem e)
child_fits (sequence_fits n h) i e = let k = components_fit h i e in (k.0, λ y g. sequence_fits n (k.1 y g))
child_fits (sequence_of_fits {vs = vs} n l h) i e =
    let k = elements_fit h i e in
    (k.0, λ y g. sequence_of_fits (n ∙ sym (count_replaced i y vs)) l (k.1 y g))
child_fits (choice_fits a h) i e =
    let k = alternative_fits h i e in
    rw (← k.0) (k.1.0, λ y g. choice_fits a (k.1.1 y g))

-- a value with a component, as a component itself: it fits its type
pub with_child_fits : {m d : ℕ} {t : Ty} {v : Val} → FitsComponent m d t v → (i : ℕ) {m' d' : ℕ} {u : Ty} {x : Val}
    → child_at t v i ≡ child m' d' u x → Fits t v
with_child_fits (plain f) i e = f
with_child_fits (carried f h) i e = f
with_child_fits (left_out {m = m} {d = d} {t = t} q) i e =
    absurd (no_component_lem (sym (missing_childless (suc m) d t i) ∙ (rw q at e)))

pub fits_with_child : (m : ℕ) {d : ℕ} {t : Ty} {v : Val} → Fits t v → (i : ℕ) {m' d' : ℕ} {u : Ty} {x : Val}
    → child_at t v i ≡ child m' d' u x → FitsComponent m d t v
fits_with_child zero f i e = plain f
fits_with_child (suc m) {d} {t} {v} f i e = carried f (with_child_differs (suc m) d t v i e)
