-- A component that is not carried, told from its node: ABSENT or its DEFAULT, which the walk accepts as they stand.
-- Any other node is that of a value that differs, so it is carried (31.9). Premises are the callees' `ensures` and
-- the tests as they went. Assumes nothing.
use mathlib.Core.Path.{◌≡◌, refl, sym, ◌∙◌}
use mathlib.Core.Bool.{Bool, true, false, false≢true, cond, ◌&&◌}
use mathlib.Core.List.{List, [], ◌∷◌}
use Prim.Native.Nat.{ℕ, zero, suc, ◌*◌, ◌/◌, ◌<◌, ◌≤◌}
use native.Mathlib.Omega.{arith}
use lib.ListN.{length, drop}
use lib.Dec.{ltb, eqb}
use borrow.Author.Tests.{lt-ltb, le-ltb, eq-eqb, ne_eqb, ltb-true, eqb-true, eqb-false}
use Rattle.x696.specs.Outcome.{refused, got, next, must, choose}
use Rattle.x696.proofs.OutcomeLaws.{next_inv, must_inv, refused_never, cases, cases_lt, and_both}
use Rattle.x696.specs.Value.{Val, node, Vals, no_values, node_width, same}
use Rattle.x696.proofs.ValueLaws.{same_refl}
use Rattle.x696.specs.Leaf.{Leaf, boolean, null, integer, enumerated, real, octet_string, bit_string, visible_string}
use Rattle.x696.specs.Leaf.{leaf_kind}
use Rattle.x696.specs.Types.{Ty, leaf, sequence, sequence_of, choice, kind_of, missing}
use Rattle.x696.specs.Encode.{bit, presence_bits, carried_octets, encode, own_octets}
use Rattle.x696.specs.Read.{times}
use Rattle.x696.specs.Walk.{Listed, node_in, number_if, node_at, walk_leaf, is_absent, walk_absent, component_walk, walk}
use Rattle.x696.specs.Walk.{walk_component}
use Rattle.x696.specs.TableCheck.{default_sound}
use Rattle.x696.proofs.WalkSound.{got_same}
use Rattle.pens.specs.Put.{listed_at, walk_behind}
use Rattle.writing.specs.Noted.{missing_at}
use Rattle.writing.proofs.NodeTests.{kind_at, number_at, node_none, node_words, value_lacks, value_other}
use Rattle.writing.proofs.NodeTests.{value_behind}

-- ---- the walk accepts a DEFAULT's node by itself
pub default_walks : (t : Ty) (p d : ℕ) (s : Listed) → default_sound t d ≡ true
    → walk_behind t p d s ≡ got (node (kind_of t) d [] no_values) s
unfolding default_sound walk_behind walk_leaf kind_of leaf_kind must next times
default_walks (leaf boolean) p d s e = rw e
default_walks (leaf null) p d s e = absurd (false≢true e)
default_walks (leaf (integer f a b)) p d s e = rw e
default_walks (leaf (enumerated ns)) p d s e = rw e
default_walks (leaf (real w)) p d s e = absurd (false≢true e)
default_walks (leaf (octet_string f a b)) p d s e = absurd (false≢true e)
default_walks (leaf (bit_string f a b)) p d s e = absurd (false≢true e)
default_walks (leaf (visible_string f a b)) p d s e = absurd (false≢true e)
default_walks (sequence is) p d s e = absurd (false≢true e)
default_walks (sequence_of t) p d s e = let z : d ≡ 0 = eqb-true d 0 e in rw z
default_walks (choice is) p d s e = absurd (false≢true e)

-- ---- what is walked has its node's kind and number
abbrev HasNode : (kind number : ℕ) → Val → Listed → Type 0
HasNode k n v r = (os : List ℕ) × (vs : Vals) × (v ≡ node k n os vs)

leaf_node : (l : Leaf) (p n : ℕ) (s : Listed) {v : Val} {r : Listed} → walk_leaf l p n s ≡ got v r
    → HasNode (leaf_kind l) n v r
unfolding walk_leaf leaf_kind
leaf_node boolean p n s e = must_inv _ _ _ _ e λ t q. got_same (HasNode 1 n) q ([], no_values, refl)
leaf_node null p n s e = must_inv _ _ _ _ e λ t q. got_same (HasNode 6 n) q ([], no_values, refl)
leaf_node (integer f a b) p n s e = must_inv _ _ _ _ e λ t q. got_same (HasNode 2 n) q ([], no_values, refl)
leaf_node (enumerated ns) p n s e = must_inv _ _ _ _ e λ t q. got_same (HasNode 3 n) q ([], no_values, refl)
leaf_node (real w) p n s e =
    must_inv _ _ _ _ e λ t g. must_inv _ _ _ _ g λ u q. got_same (HasNode (leaf_kind (real w)) n) q (
      [],
      no_values,
      refl,
    )
leaf_node (octet_string f a b) p n s e =
    next_inv _ _ e λ os r was then. must_inv _ _ _ _ then λ t q. got_same (HasNode 7 n) q (os, no_values, refl)
leaf_node (bit_string f a b) p n s e =
    next_inv _ _ e λ os r was then. must_inv _ _ _ _ then λ t g. must_inv _ _ _ _ g λ u q.
    got_same (HasNode 8 n) q (os, no_values, refl)
leaf_node (visible_string f a b) p n s e =
    next_inv _ _ e λ os r was then. must_inv _ _ _ _ then λ t g. must_inv _ _ _ _ g λ u q.
    got_same (HasNode 9 n) q (os, no_values, refl)

behind_node : (t : Ty) (p n : ℕ) (s : Listed) {v : Val} {r : Listed} → walk_behind t p n s ≡ got v r
    → HasNode (kind_of t) n v r
unfolding walk_behind kind_of
behind_node (leaf l) p n s e = leaf_node l p n s e
behind_node (sequence is) p n s e =
    must_inv _ _ _ _ e λ t g. next_inv _ _ g λ vs r was q. got_same (HasNode 10 n) q ([], vs, refl)
behind_node (sequence_of t) p n s e = next_inv _ _ e λ vs r was q. got_same (HasNode 11 n) q ([], vs, refl)
behind_node (choice is) p n s e =
    must_inv _ _ _ _ e λ t g. next_inv _ _ g λ v r was q. got_same (HasNode 12 n) q ([], _, refl)

-- ---- a component's node
module _ (t : Ty) (ws cs : List ℕ) (n u : ℕ) (d : ℕ) where
  abbrev here : Listed
  here = listed_at ws cs n u

  abbrev after : Listed
  after = listed_at ws cs (suc n) u

  -- ABSENT, where it is looked for
  absent_got : n < length ws / 2 → kind_at ws n ≡ 0 → number_at ws n ≡ 0 → walk_component 1 t here ≡ got (missing 1 d t)
      after
  unfolding walk_component component_walk is_absent walk_absent node_at node_in number_if next must choose missing
  absent_got h e f = rw (node_words ws (drop u cs) n h, e, f)

  default_got : (m : ℕ) → n < length ws / 2 → kind_at ws n ≡ kind_of t → number_at ws n ≡ d → default_sound t d ≡ true
      → walk_component (suc (suc m)) t here ≡ got (missing (suc (suc m)) d t) after
  unfolding walk_component component_walk missing
  default_got m h e f s = value_behind t ws cs n u h e ∙ rw f (default_walks t n d after s)

  -- a node of kind 0 that is not ABSENT is refused as any other
  absent_lacks : length ws / 2 ≤ n → walk_component 1 t here ≡ walk t here
  unfolding walk_component component_walk walk_absent node_at next choose
  absent_lacks h =
      cases (is_absent (drop (n * node_width) ws))
      (λ e. rw (e, node_none ws (drop u cs) n h) (sym (value_lacks t ws cs n u h)))
      (λ e. rw e)

  absent_wrong : n < length ws / 2 → kind_at ws n ≡ 0 → (number_at ws n ≡ 0 → ⊥) → walk_component 1 t here ≡ refused 11 n
  unfolding walk_component component_walk walk_absent node_at node_in number_if next must choose is_absent
  absent_wrong h e f = rw (node_words ws (drop u cs) n h, e, ne_eqb (number_at ws n) 0 f)

  not_absent : n < length ws / 2 → (kind_at ws n ≡ 0 → ⊥) → walk_component 1 t here ≡ walk t here
  unfolding walk_component component_walk choose is_absent
  not_absent h f = rw (node_words ws (drop u cs) n h, ne_eqb (kind_at ws n) 0 f)

  absent_other : n < length ws / 2 → (kind_of t ≡ 0 → ⊥) → (kind_at ws n ≡ 0 → number_at ws n ≡ 0 → ⊥)
      → walk_component 1 t here ≡ walk t here
  absent_other h k f =
      cases (eqb (kind_at ws n) 0)
      (λ e.
      let z = eqb-true (kind_at ws n) 0 e in
      absent_wrong h z (f z) ∙ sym (value_other t ws cs n u h (λ q. k (sym q ∙ z))))
      (λ e. not_absent h (eqb-false (kind_at ws n) 0 e))

-- ---- the test of the code
module _ (ws : List ℕ) (n k m d : ℕ) where
  abbrev Stands : Type 0
  Stands = (n < length ws / 2) × (kind_at ws n ≡ cond (eqb m 1) 0 k) × (number_at ws n ≡ cond (eqb m 1) 0 d)

  pub test_lacks : length ws / 2 ≤ n → false ≡ missing_at ws n k m d
  unfolding missing_at
  test_lacks h = rw (le-ltb n (length ws / 2) h)

  pub test_absent : {r : Bool} → n < length ws / 2 → m ≡ 1 → r ≡ eqb (kind_at ws n) 0 && eqb (number_at ws n) 0
      → r ≡ missing_at ws n k m d
  unfolding missing_at
  test_absent h e f = rw (lt-ltb n (length ws / 2) h, eq-eqb m 1 e) f

  pub test_default : {r : Bool} → n < length ws / 2 → (m ≡ 1 → ⊥) → r ≡ eqb (kind_at ws n) k && eqb (number_at ws n) d
      → r ≡ missing_at ws n k m d
  unfolding missing_at
  test_default h e f = rw (lt-ltb n (length ws / 2) h, ne_eqb m 1 e) f

  stands_yes : missing_at ws n k m d ≡ true → Stands
  unfolding missing_at
  stands_yes e =
      let (a, b) = and_both (ltb n (length ws / node_width)) _ e in
      let (x, y) = and_both (eqb (kind_at ws n) (cond (eqb m 1) 0 k)) _ b in
      (ltb-true n (length ws / node_width) a, eqb-true _ (cond (eqb m 1) 0 k) x, eqb-true _ (cond (eqb m 1) 0 d) y)

  pub stands_there : missing_at ws n k m d ≡ true → n < length ws / 2
  stands_there e = (stands_yes e).0

  stands_no : missing_at ws n k m d ≡ false → Stands → ⊥
  unfolding missing_at
  stands_no e h =
      let z = rw (
        lt-ltb n (length ws / node_width) h.0,
        eq-eqb (kind_at ws n) (cond (eqb m 1) 0 k) h.1,
        eq-eqb (number_at ws n) (cond (eqb m 1) 0 d) h.2,
      ) at e in
      false≢true (sym z)

module _ (t : Ty) (ws cs : List ℕ) (n u k d : ℕ) (ek : k ≡ kind_of t) where
  -- the node stands for the component
  pub missing_got : (m : ℕ) → (m ≡ 0 → ⊥) → missing_at ws n k m d ≡ true → (1 < m → default_sound t d ≡ true)
      → walk_component m t (listed_at ws cs n u) ≡ got (missing m d t) (listed_at ws cs (suc n) u)
  missing_got zero h e s = absurd (h refl)
  missing_got (suc zero) h e s =
      let w = stands_yes ws n k 1 d e in
      absent_got t ws cs n u d w.0 w.1 w.2
  missing_got (suc (suc m)) h e s =
      let w = stands_yes ws n k (suc (suc m)) d e in
      let two = ne_eqb (suc (suc m)) 1 (λ z. omega arith) in
      default_got t ws cs n u d m w.0 (rw two at w.1 ∙ ek) (rw two at w.2) (s (omega arith))

  module _ (known : 0 < k) where
    -- it does not: a value of the type is due
    pub carried_walk : (m : ℕ) → (m ≡ 0 → ⊥) → missing_at ws n k m d ≡ false
        → walk_component m t (listed_at ws cs n u) ≡ walk t (listed_at ws cs n u)
    unfolding walk_component component_walk
    carried_walk zero h e = absurd (h refl)
    carried_walk (suc zero) h e =
        cases_lt n (length ws / 2)
        (λ _ there. absent_other t ws cs n u d there (λ z. omega arith) (λ x y. stands_no ws n k 1 d e (there, x, y)))
        (λ _ lacks. absent_lacks t ws cs n u d lacks)
    carried_walk (suc (suc m)) h e = refl

    -- which then differs from what stands for it
    walked_node : {v : Val} {r : Listed} → walk t (listed_at ws cs n u) ≡ got v r
        → (n < length ws / 2) × (kind_at ws n ≡ k) × HasNode k (number_at ws n) v r
    walked_node e =
        cases_lt n (length ws / 2)
        (λ _ there.
        cases (eqb (kind_at ws n) (kind_of t))
        (λ y.
        let is = eqb-true (kind_at ws n) (kind_of t) y in
        (there, is ∙ sym ek, rw ek (behind_node t n _ _ (sym (value_behind t ws cs n u there is) ∙ e))))
        (λ y. absurd (refused_never (sym (value_other t ws cs n u there (eqb-false (kind_at ws n) (kind_of t) y)) ∙
        e))))
        (λ _ lacks. absurd (refused_never (sym (value_lacks t ws cs n u lacks) ∙ e)))

    pub carried_differs : (m : ℕ) → (m ≡ 0 → ⊥) → missing_at ws n k m d ≡ false → {v : Val} {r : Listed}
        → walk t (listed_at ws cs n u) ≡ got v r → same v (missing m d t) ≡ false
    unfolding same missing
    carried_differs zero h e g = absurd (h refl)
    carried_differs (suc zero) h e g =
        let (there, is, has) = walked_node g in
        rw (has.2, ne_eqb k 0 (λ z. omega arith))
    carried_differs (suc (suc m)) h e g =
        let (there, is, has) = walked_node g in
        let two = ne_eqb (suc (suc m)) 1 (λ z. omega arith) in
        let other : number_at ws n ≡ d → ⊥ = λ z. stands_no ws n k (suc (suc m)) d e (there, rw two is, rw two z) in
        rw (has.2, ← ek, eq-eqb k k refl, ne_eqb (number_at ws n) d other)

-- ---- octets and presence bits
module _ (d : ℕ) (t : Ty) where
  pub missing_octets : (m : ℕ) → (m ≡ 0 → ⊥) → own_octets m d t (missing m d t) ≡ []
  unfolding own_octets carried_octets choose
  missing_octets zero h = absurd (h refl)
  missing_octets (suc m) h = rw (same_refl (missing (suc m) d t))

  pub missing_bits : (m : ℕ) → (m ≡ 0 → ⊥) → presence_bits m d t (missing m d t) ≡ 0 ∷ []
  unfolding presence_bits bit
  missing_bits zero h = absurd (h refl)
  missing_bits (suc m) h = rw (same_refl (missing (suc m) d t))

  pub carried_octets_lem : (m : ℕ) (v : Val) → same v (missing m d t) ≡ false → own_octets m d t v ≡ encode t v
  unfolding own_octets carried_octets choose
  carried_octets_lem zero v e = refl
  carried_octets_lem (suc m) v e = rw e

  pub carried_bits : (m : ℕ) (v : Val) → (m ≡ 0 → ⊥) → same v (missing m d t) ≡ false → presence_bits m d t v ≡ 1 ∷ []
  unfolding presence_bits bit
  carried_bits zero v h e = absurd (h refl)
  carried_bits (suc m) v h e = rw e

  pub plain_octets : (m : ℕ) (v : Val) → m ≡ 0 → own_octets m d t v ≡ encode t v
  unfolding own_octets carried_octets
  plain_octets m v e = rw e

  pub plain_bits : (m : ℕ) (v : Val) → m ≡ 0 → presence_bits m d t v ≡ []
  unfolding presence_bits
  plain_bits m v e = rw e

  pub plain_walk : (m : ℕ) (s : Listed) → m ≡ 0 → walk_component m t s ≡ walk t s
  unfolding walk_component component_walk
  plain_walk m s e = rw e
