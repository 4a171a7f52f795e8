-- What replacing a component does to the value that holds it: the path finds the new one, the value keeps its type, the
-- size changes by the component's own, the old component undoes it, and every path apart from it finds what it found.
-- Assumes nothing.
use Rattle.std.specs.Prelude.{◌≡◌, ℕ, ◌+◌}
use Rattle.std.proofs.Math.Path.{refl}
use Rattle.std.proofs.Common.{◌∙◌, arith}
use mathlib.Core.List.{List, [], ◌∷◌}
use Rattle.x696.specs.Value.{Val, size}
use Rattle.x696.specs.Types.{Ty}
use Rattle.x696.specs.Fits.{Fits, FitsComponent, plain}
use Rattle.x696.specs.Path.{Child, no_child, child, child_at, through, Found, nowhere, found, onward}
use Rattle.x696.specs.Path.{find_from, find, child_value, replace}
use Rattle.x696.specs.Apart.{Apart, parting, alongside}
use Rattle.x696.proofs.ChildLaws.{same_component, child_value_lem, child_replaced, size_child, children_stay}
use Rattle.x696.proofs.ChildLaws.{child_same, child_twice}
use Rattle.x696.proofs.ChildFits.{unplain, child_fits, with_child_fits, fits_with_child}

-- ---- a path that was found, backwards
nowhere_never : {n m d : ℕ} {t : Ty} {v : Val} → nowhere n ≡ found m d t v → ⊥
nowhere_never e = let z : ◌≡◌ {A = ℕ} 0 1 = cc in omega arith

-- what holds of a component that was found holds of the same component
pub same_found {ℓ} : (P : (mark default : ℕ) → Ty → Val → Type ℓ) {m d m' d' : ℕ} {t t' : Ty} {v v' : Val}
    → found m d t v ≡ found m' d' t' v' → P m d t v → P m' d' t' v'
same_found P e h = same_component P (cc) h

onward_inv : (f : Found) {m d : ℕ} {t : Ty} {v : Val} → onward f ≡ found m d t v → f ≡ found m d t v
unfolding onward
onward_inv (nowhere n) e = absurd (nowhere_never e)
onward_inv (found m d t v) e = e

through_inv {ℓ} : (c : Child) (p : List ℕ) {m d : ℕ} {u : Ty} {x : Val} {X : Type ℓ}
    → through c (nowhere 0) (λ m d t v. onward (find_from m d t v p)) ≡ found m d u x
    → ((m₁ d₁ : ℕ) (t₁ : Ty) (v₁ : Val) → c ≡ child m₁ d₁ t₁ v₁ → find_from m₁ d₁ t₁ v₁ p ≡ found m d u x → X) → X
unfolding through
through_inv no_child p e k = absurd (nowhere_never e)
through_inv (child m₁ d₁ t₁ v₁) p e k = k m₁ d₁ t₁ v₁ refl (onward_inv (find_from m₁ d₁ t₁ v₁ p) e)

pub step_inv {ℓ} : (m d : ℕ) (t : Ty) (v : Val) (i : ℕ) (p : List ℕ) {m' d' : ℕ} {u : Ty} {x : Val} {X : Type ℓ}
    → find_from m d t v (i ∷ p) ≡ found m' d' u x
    → ((m₁ d₁ : ℕ) (t₁ : Ty) (v₁ : Val)
    → child_at t v i ≡ child m₁ d₁ t₁ v₁ → find_from m₁ d₁ t₁ v₁ p ≡ found m' d' u x → X) → X
unfolding find_from
step_inv m d t v i p e k = through_inv (child_at t v i) p e k

-- ---- a component inside a component
module _ {m' d' : ℕ} {u : Ty} {x : Val} where
  inner_fits : {m d : ℕ} {t : Ty} {v : Val} (p : List ℕ) → find_from m d t v p ≡ found m' d' u x
      → FitsComponent m d t v → FitsComponent m' d' u x
  unfolding find_from
  inner_fits [] e f = same_found FitsComponent e f
  inner_fits {m} {d} {t} {v} (i ∷ p) e f =
      step_inv m d t v i p e λ m₁ d₁ t₁ v₁ c q. inner_fits p q (child_fits (with_child_fits f i c) i c).0

  inner_replaced_fits : {m d : ℕ} {t : Ty} {v : Val} (p : List ℕ) → find_from m d t v p ≡ found m' d' u x
      → FitsComponent m d t v → (y : Val) → FitsComponent m' d' u y → FitsComponent m d t (replace p y v)
  unfolding find_from replace
  inner_replaced_fits {m} {d} {t} [] e f y g =
      same_found (λ m' d' u x. FitsComponent m' d' u y → FitsComponent m d t y) e (λ h. h) g
  inner_replaced_fits {m} {d} {t} {v} (i ∷ p) e f y g =
      step_inv m d t v i p e λ m₁ d₁ t₁ v₁ c q.
      let k = child_fits (with_child_fits f i c) i c in
      let z = inner_replaced_fits p q k.0 y g in
      rw (child_value_lem t v i c) (fits_with_child m (k.1 _ z) i (child_replaced t v i c _))

  inner_found : (m d : ℕ) (t : Ty) (v : Val) (p : List ℕ) → find_from m d t v p ≡ found m' d' u x
      → (y : Val) → find_from m d t (replace p y v) p ≡ found m' d' u y
  unfolding find_from through onward replace
  inner_found m d t v [] e y = same_found (λ m' d' u x. found m d t y ≡ found m' d' u y) e refl
  inner_found m d t v (i ∷ p) e y =
      step_inv m d t v i p e λ m₁ d₁ t₁ v₁ c q.
      rw (child_value_lem t v i c, child_replaced t v i c (replace p y v₁), inner_found m₁ d₁ t₁ v₁ p q y)

  pub inner_same : (m d : ℕ) (t : Ty) (v : Val) (p : List ℕ) → find_from m d t v p ≡ found m' d' u x → replace p x v ≡ v
  unfolding find_from replace
  inner_same m d t v [] e = cc
  inner_same m d t v (i ∷ p) e =
      step_inv m d t v i p e λ m₁ d₁ t₁ v₁ c q.
      rw (child_value_lem t v i c, inner_same m₁ d₁ t₁ v₁ p q) (child_same t v i c)

  inner_size : (m d : ℕ) (t : Ty) (v : Val) (p : List ℕ) → find_from m d t v p ≡ found m' d' u x
      → (y : Val) → size (replace p y v) + size x ≡ size v + size y
  unfolding find_from replace
  inner_size m d t v [] e y = same_found (λ m' d' u x. size y + size x ≡ size v + size y) e (omega arith)
  inner_size m d t v (i ∷ p) e y =
      step_inv m d t v i p e λ m₁ d₁ t₁ v₁ c q.
      let h = inner_size m₁ d₁ t₁ v₁ p q y in
      let g = size_child t v i c (replace p y v₁) in
      rw (child_value_lem t v i c) (omega arith)

  inner_others : (m d : ℕ) (t : Ty) (v : Val) {p q : List ℕ} → Apart p q → find_from m d t v p ≡ found m' d' u x
      → (y : Val) → find_from m d t (replace p y v) q ≡ find_from m d t v q
  unfolding find_from through replace
  inner_others m d t v (parting {i = i} {j = j} h) e y = rw (children_stay t v i j _ h)
  inner_others m d t v (alongside {i = i} {p = p} a) e y =
      step_inv m d t v i p e λ m₁ d₁ t₁ v₁ c h.
      rw (child_value_lem t v i c, child_replaced t v i c (replace p y v₁), c, inner_others m₁ d₁ t₁ v₁ a h y)

-- of two replacements the last one stands
pub replace_twice : (p : List ℕ) (y z v : Val) → replace p z (replace p y v) ≡ replace p z v
unfolding replace
replace_twice [] y z v = refl
replace_twice (i ∷ p) y z v =
    let h = replace_twice p y z (child_value i v) in
    rw (child_twice (λ w. replace p z w) i (replace p y (child_value i v)) v, h)

-- ---- the component that a path finds in a value
module _ (t : Ty) (v : Val) (p : List ℕ) {m d : ℕ} {u : Ty} {x : Val} (e : find t v p ≡ found m d u x) where
  -- it fits its mark and type, if the value fits its own
  pub find_fits : Fits t v → FitsComponent m d u x
  unfolding find
  find_fits f = inner_fits p e (plain f)

  -- replacing it keeps the type
  pub replace_fits : Fits t v → (y : Val) → FitsComponent m d u y → Fits t (replace p y v)
  unfolding find
  replace_fits f y g = unplain (inner_replaced_fits p e (plain f) y g)

  -- the path then finds the new component
  pub find_replaced : (y : Val) → find t (replace p y v) p ≡ found m d u y
  unfolding find
  find_replaced y = inner_found 0 0 t v p e y

  -- the component itself in its place changes nothing
  pub replace_same : replace p x v ≡ v
  unfolding find
  replace_same = inner_same 0 0 t v p e

  -- so it undoes a replacement
  pub replace_undone : (y : Val) → replace p x (replace p y v) ≡ v
  replace_undone y = replace_twice p y x v ∙ replace_same

  -- the size changes by the component's own
  pub size_replaced : (y : Val) → size (replace p y v) + size x ≡ size v + size y
  unfolding find
  size_replaced y = inner_size 0 0 t v p e y

  -- every path apart from it finds what it found, or leads nowhere at the same step
  pub others_keep : {q : List ℕ} → Apart p q → (y : Val) → find t (replace p y v) q ≡ find t v q
  unfolding find
  others_keep a y = inner_others 0 0 t v a e y
