-- Where components stand: in the order of their paths, one behind the other; and an edit moves those behind the edited
-- component by the change of its length, and those ahead of it not at all.
-- Assumes nothing.
use Rattle.std.specs.Prelude.{◌≡◌, List, ◌∷◌, ◌++◌, ℕ, zero, suc, ◌+◌, ◌<◌, ◌≤◌, length}
use Rattle.std.proofs.Common.{ap, sym, ◌∙◌, arith}
use Rattle.std.proofs.Math.ListN.{length-append}
use Rattle.x696.specs.Variable.{variable_unsigned}
use Rattle.x696.specs.Value.{Val, node, Vals, no_values, value}
use Rattle.x696.specs.Types.{Ty, leaf, sequence, sequence_of, choice, Items, no_items, item, mark_count}
use Rattle.x696.specs.Encode.{presence, carried_octets, encode, own_octets}
use Rattle.x696.specs.Path.{child, component_at, element_at, alternative_at, child_at, found, find_from, find}
use Rattle.x696.specs.Path.{replace_at, replace_child, replace, components_before, elements_before}
use Rattle.x696.specs.Path.{child_before, octets_before}
use Rattle.x696.specs.PathOrder.{Ahead, sooner, together}
use Rattle.x696.proofs.ChildLaws.{no_component_lem, same_component, child_value_lem, child_replaced, children_stay}
use Rattle.x696.proofs.PathLaws.{step_inv}
use Rattle.x696.proofs.BeforeLaws.{preamble_before, child_before_length, before_step}
use Rattle.x696.proofs.Locality.{inner_stands, inner_length}

-- ---- one step: a component x, with y in its place, and a later one. The numbers are those of the octets before the
-- first, before the later one, and before the later one with y there.
record Later (y : Val) (first later new m d : ℕ) (u : Ty) (x : Val) : Type 0 where
  behind : first + length (own_octets m d u x) ≤ later
  moves : new + length (own_octets m d u x) ≡ later + length (own_octets m d u y)

-- the same behind k octets
shifted : {m d : ℕ} {u : Ty} {x y : Val} {a b c : ℕ} (k a' b' c' : ℕ) → Later y a b c m d u x
    → a' ≡ k + a → b' ≡ k + b → c' ≡ k + c → Later y a' b' c' m d u x
shifted k a' b' c' h ea eb ec =
    record { behind = omega (arith, h.behind, ea, eb); moves = omega (arith, h.moves, eb, ec) }

-- right behind the first
next_later : (m d : ℕ) (u : Ty) (x y : Val) (rest : List ℕ)
    → Later y 0 (length (own_octets m d u x ++ rest)) (length (own_octets m d u y ++ rest)) m d u x
next_later m d u x y rest =
    let a = length-append (own_octets m d u x) rest in
    let b = length-append (own_octets m d u y) rest in
    record { behind = omega (arith, a); moves = omega (arith, a, b) }

components_later : (is : Items) (vs : Vals) (i j : ℕ) {m d : ℕ} {u : Ty} {x : Val} → component_at is vs i ≡ child m d u x
    → (y : Val) → i < j
    → Later y (length (components_before is vs i)) (length (components_before is vs j))
    (length (components_before is (replace_at i y vs) j)) m d u x
unfolding component_at replace_at components_before
components_later no_items vs i j e y h = absurd (no_component_lem e)
components_later (item m d t is) no_values i j e y h = absurd (no_component_lem e)
components_later (item m d t is) (value v vs) i zero e y h = absurd (omega arith)
components_later (item m d t is) (value v vs) zero (suc j) e y h =
    same_component (Later y 0 _ _) e (next_later m d t v y (components_before is vs j))
components_later (item m d t is) (value v vs) (suc i) (suc j) e y h =
    let front = length-append (own_octets m d t v) in
    let rest = components_later is vs i j e y (omega arith) in
    shifted (length (own_octets m d t v)) _ _ _ rest (front _) (front _) (front _)

elements_later : (t : Ty) (vs : Vals) (i j : ℕ) {m d : ℕ} {u : Ty} {x : Val} → element_at t vs i ≡ child m d u x
    → (y : Val) → i < j
    → Later y (length (elements_before t vs i)) (length (elements_before t vs j))
    (length (elements_before t (replace_at i y vs) j)) m d u x
unfolding element_at replace_at elements_before own_octets carried_octets
elements_later t no_values i j e y h = absurd (no_component_lem e)
elements_later t (value v vs) i zero e y h = absurd (omega arith)
elements_later t (value v vs) zero (suc j) e y h =
    same_component (Later y 0 _ _) e (next_later 0 0 t v y (elements_before t vs j))
elements_later t (value v vs) (suc i) (suc j) e y h =
    let front = length-append (encode t v) in
    let rest = elements_later t vs i j e y (omega arith) in
    shifted (length (encode t v)) _ _ _ rest (front _) (front _) (front _)

alternative_first : (is : Items) (n : ℕ) (vs : Vals) (i : ℕ) {m d : ℕ} {u : Ty} {x : Val}
    → alternative_at is n vs (suc i) ≡ child m d u x → ⊥
unfolding alternative_at
alternative_first no_items n vs i e = no_component_lem e
alternative_first (item a b t is) n no_values i e = no_component_lem e
alternative_first (item a b t is) zero (value v vs) i e = no_component_lem e
alternative_first (item a b t is) (suc n) (value v vs) i e = alternative_first is n (value v vs) i e

child_later : (t : Ty) (v : Val) (i j : ℕ) {m d m' d' : ℕ} {u u' : Ty} {x x' : Val} → child_at t v i ≡ child m d u x
    → child_at t v j ≡ child m' d' u' x' → (y : Val) → i < j
    → Later y (length (child_before t v i)) (length (child_before t v j))
    (length (child_before t (replace_child i y v) j)) m d u x
unfolding child_at replace_child child_before
child_later (leaf l) v i j e q y h = absurd (no_component_lem e)
child_later (sequence is) (node k n os vs) i j e q y h =
    let front = preamble_before (mark_count is) in
    shifted _ _ _ _ (components_later is vs i j e y h) (front (presence is vs) _) (front (presence is vs) _)
    (front (presence is (replace_at i y vs)) _)
child_later (sequence_of t) (node k n os vs) i j e q y h =
    let front = length-append (variable_unsigned n) in
    shifted (length (variable_unsigned n)) _ _ _ (elements_later t vs i j e y h) (front _) (front _) (front _)
child_later (choice is) (node k n os vs) i zero e q y h = absurd (omega arith)
child_later (choice is) (node k n os vs) i (suc j) e q y h = absurd (alternative_first is n vs j q)

-- ---- paths
-- two paths by one step lead on from one component
joined : (m d : ℕ) (t : Ty) (v : Val) (i : ℕ) (q : List ℕ) {m₁ d₁ m₂ d₂ : ℕ} {t₁ u₂ : Ty} {v₁ x₂ : Val}
    → child_at t v i ≡ child m₁ d₁ t₁ v₁ → find_from m d t v (i ∷ q) ≡ found m₂ d₂ u₂ x₂
    → find_from m₁ d₁ t₁ v₁ q ≡ found m₂ d₂ u₂ x₂
joined m d t v i q {m₂ = m₂} {d₂ = d₂} {u₂ = u₂} {x₂ = x₂} c e =
    step_inv m d t v i q e λ m' d' t' v' c' e'.
    same_component (λ m d t v. find_from m d t v q ≡ found m₂ d₂ u₂ x₂) (sym c' ∙ c) e'

-- a component stands behind every one that is ahead of it
inner_order : (m d : ℕ) (t : Ty) (v : Val) {p q : List ℕ} {m₁ d₁ m₂ d₂ : ℕ} {u₁ u₂ : Ty} {x₁ x₂ : Val} → Ahead p q
    → find_from m d t v p ≡ found m₁ d₁ u₁ x₁ → find_from m d t v q ≡ found m₂ d₂ u₂ x₂
    → length (octets_before t v p) + length (own_octets m₁ d₁ u₁ x₁) ≤ length (octets_before t v q)
unfolding find_from
inner_order m d t v {m₁ = m₁} {d₁ = d₁} {u₁ = u₁} {x₁ = x₁} (sooner {i = i} {j = j} {p = p} {q = q} h) e f =
    step_inv m d t v i p e λ mi di ti vi ci ei.
    step_inv m d t v j q f λ mj dj tj vj cj ej.
    let (after, stands) = inner_stands mi di ti vi p ei in
    let a = length-append (octets_before ti vi p) (own_octets m₁ d₁ u₁ x₁ ++ after) in
    let b = length-append (own_octets m₁ d₁ u₁ x₁) after in
    let later = child_later t v i j ci cj vi h in
    rw (
      before_step t v i ci p,
      before_step t v j cj q,
      length-append (child_before t v i) (octets_before ti vi p),
      length-append (child_before t v j) (octets_before tj vj q),
    ) (omega (arith, ap length stands, a, b, later.behind))
inner_order m d t v (together {i = i} {p = p} {q = q} h) e f =
    step_inv m d t v i p e λ mi di ti vi ci ei.
    rw (
      before_step t v i ci p,
      before_step t v i ci q,
      length-append (child_before t v i) (octets_before ti vi p),
      length-append (child_before t v i) (octets_before ti vi q),
    ) (omega (arith, inner_order mi di ti vi h ei (joined m d t v i q ci f)))

-- a component that is edited, with y in its place: those ahead of it stand where they stood
module _ {m₁ d₁ m₂ d₂ : ℕ} {u₁ u₂ : Ty} {x₁ x₂ : Val} (y : Val) where
  inner_ahead : (m d : ℕ) (t : Ty) (v : Val) {p q : List ℕ} → Ahead q p → find_from m d t v p ≡ found m₁ d₁ u₁ x₁
      → find_from m d t v q ≡ found m₂ d₂ u₂ x₂
      → length (octets_before t (replace p y v) q) ≡ length (octets_before t v q)
  unfolding replace
  inner_ahead m d t v (sooner {i = j} {j = i} {p = q} {q = p} h) e f =
      step_inv m d t v i p e λ mi di ti vi ci ei.
      step_inv m d t v j q f λ mj dj tj vj cj ej.
      let w = replace p y vi in
      rw (
        child_value_lem t v i ci,
        before_step t (replace_child i w v) j (children_stay t v i j w (λ z. omega (arith, z, h)) ∙ cj) q,
        before_step t v j cj q,
        length-append (child_before t (replace_child i w v) j) (octets_before tj vj q),
        length-append (child_before t v j) (octets_before tj vj q),
        child_before_length t v i j w (omega arith),
      )
  inner_ahead m d t v (together {i = i} {p = q} {q = p} h) e f =
      step_inv m d t v i p e λ mi di ti vi ci ei.
      let w = replace p y vi in
      rw (
        child_value_lem t v i ci,
        before_step t (replace_child i w v) i (child_replaced t v i ci w) q,
        before_step t v i ci q,
        length-append (child_before t (replace_child i w v) i) (octets_before ti w q),
        length-append (child_before t v i) (octets_before ti vi q),
        child_before_length t v i i w (omega arith),
        inner_ahead mi di ti vi h ei (joined m d t v i q ci f),
      )

  -- those behind it move by the change of its length
  inner_behind : (m d : ℕ) (t : Ty) (v : Val) {p q : List ℕ} → Ahead p q → find_from m d t v p ≡ found m₁ d₁ u₁ x₁
      → find_from m d t v q ≡ found m₂ d₂ u₂ x₂
      → length (octets_before t (replace p y v) q) + length (own_octets m₁ d₁ u₁ x₁)
      ≡ length (octets_before t v q) + length (own_octets m₁ d₁ u₁ y)
  unfolding replace
  inner_behind m d t v (sooner {i = i} {j = j} {p = p} {q = q} h) e f =
      step_inv m d t v i p e λ mi di ti vi ci ei.
      step_inv m d t v j q f λ mj dj tj vj cj ej.
      let w = replace p y vi in
      let later = child_later t v i j ci cj w h in
      let own = inner_length mi di ti vi p ei y in
      rw (
        child_value_lem t v i ci,
        before_step t (replace_child i w v) j (children_stay t v i j w (λ z. omega (arith, z, h)) ∙ cj) q,
        before_step t v j cj q,
        length-append (child_before t (replace_child i w v) j) (octets_before tj vj q),
        length-append (child_before t v j) (octets_before tj vj q),
      ) (omega (arith, later.moves, own))
  inner_behind m d t v (together {i = i} {p = p} {q = q} h) e f =
      step_inv m d t v i p e λ mi di ti vi ci ei.
      let w = replace p y vi in
      let inner = inner_behind mi di ti vi h ei (joined m d t v i q ci f) in
      rw (
        child_value_lem t v i ci,
        before_step t (replace_child i w v) i (child_replaced t v i ci w) q,
        before_step t v i ci q,
        length-append (child_before t (replace_child i w v) i) (octets_before ti w q),
        length-append (child_before t v i) (octets_before ti vi q),
        child_before_length t v i i w (omega arith),
      ) (omega (arith, inner))

-- ---- two components that paths find in a value
module _ (t : Ty) (v : Val) {p q : List ℕ} {m₁ d₁ m₂ d₂ : ℕ} {u₁ u₂ : Ty} {x₁ x₂ : Val}
    (e : find t v p ≡ found m₁ d₁ u₁ x₁) (f : find t v q ≡ found m₂ d₂ u₂ x₂) where
  -- the first one's octets end before the second one's begin, if its path is ahead
  pub paths_ordered : Ahead p q
      → length (octets_before t v p) + length (own_octets m₁ d₁ u₁ x₁) ≤ length (octets_before t v q)
  unfolding find
  paths_ordered h = inner_order 0 0 t v h e f

  -- where the second one stands with another component in place of the first
  pub ahead_stays : Ahead q p → (y : Val) → length (octets_before t (replace p y v) q) ≡ length (octets_before t v q)
  unfolding find
  ahead_stays h y = inner_ahead y 0 0 t v h e f

  pub behind_moves : Ahead p q → (y : Val)
      → length (octets_before t (replace p y v) q) + length (own_octets m₁ d₁ u₁ x₁)
      ≡ length (octets_before t v q) + length (own_octets m₁ d₁ u₁ y)
  unfolding find
  behind_moves h y = inner_behind y 0 0 t v h e f
