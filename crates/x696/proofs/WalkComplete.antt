-- The walk of a value list accepts every value that fits its type, and takes exactly its nodes and contents.
-- Assumes nothing.
use Rattle.std.specs.Prelude.{◌≡◌, refl, false, List, [], ◌∷◌, ◌++◌, ℕ, zero, suc, ◌+◌, ◌*◌, ◌^◌, ◌<◌, length, eqb}
use Rattle.std.proofs.Common.{ap, append-nil, append_assoc, arith, length-append, lt-ltb, le-leb, eq-eqb}
use Rattle.std.proofs.Math.Seq.{take-append_seam, drop-append_seam}
use Rattle.x696.specs.Outcome.{Outcome, got, next, must, choose}
use Rattle.x696.specs.Bits.{bit_octets}
use Rattle.x696.specs.Real.{binary32, binary64, real_octets}
use Rattle.x696.specs.Value.{Val, node, Vals, no_values, value, value_count, size, sizes, nodes, nodes_of, contents}
use Rattle.x696.specs.Value.{contents_of}
use Rattle.x696.specs.Leaf.{Leaf, boolean, null, integer, enumerated, real, octet_string, bit_string, visible_string}
use Rattle.x696.specs.Leaf.{leaf_kind, real_kind, LeafFits, boolean_fits, null_fits, integer_fits, enumerated_fits}
use Rattle.x696.specs.Leaf.{real_fits, octets_fit, visible_fits, bits_fit}
use Rattle.x696.specs.Types.{Ty, leaf, sequence, sequence_of, choice, Items, no_items, item, item_count, missing}
use Rattle.x696.specs.Fits.{Fits, leaf_fits, sequence_fits, sequence_of_fits, choice_fits, FitsComponent, plain}
use Rattle.x696.specs.Fits.{carried, left_out, FitComponents, no_components, component, FitAll, no_elements}
use Rattle.x696.specs.Fits.{element, FitsAlternative, this, later}
use Rattle.x696.specs.Read.{times}
use Rattle.x696.specs.Walk.{Listed, list_at, node_in, number_if, node_at, contents_at, walk_leaf, is_absent, walk_absent}
use Rattle.x696.specs.Walk.{component_walk, walk, walk_components, walk_alternative, walk_component}
use Rattle.x696.specs.WellFormed.{DefaultFits, WellFormed, WellFormedComponents, WellFormedAlternatives}

node_walks : (kind n : ℕ) (ws cs : List ℕ) (at : ℕ)
    → node_at kind (list_at (kind ∷ n ∷ ws) cs at) ≡ got n (list_at ws cs (suc at))
unfolding node_at node_in number_if next must
node_walks kind n ws cs at = rw (eq-eqb kind kind refl)

contents_walk : (p : ℕ) (os ws cs : List ℕ) (at k : ℕ) → length os ≡ k
    → contents_at p k (list_at ws (os ++ cs) at) ≡ got os (list_at ws cs at)
unfolding contents_at must
contents_walk p os ws cs at k e =
    let enough = le-leb (length os) (length (os ++ cs)) (omega (arith, length-append os cs)) in
    rw (← e, enough, take-append_seam os cs, drop-append_seam os cs)

leaf_walks : {l : Leaf} {n : ℕ} {os : List ℕ} → LeafFits l n os → (p : ℕ) (ws cs : List ℕ) (at : ℕ)
    → walk_leaf l p n (list_at ws (os ++ cs) at) ≡ got (node (leaf_kind l) n os no_values) (list_at ws cs at)
unfolding walk_leaf leaf_kind next must
leaf_walks (boolean_fits {n = n} h) p ws cs at = rw (lt-ltb n 2 h)
leaf_walks null_fits p ws cs at = refl
leaf_walks (integer_fits h e) p ws cs at = rw e
leaf_walks (enumerated_fits h e) p ws cs at = rw e
leaf_walks (real_fits {w = w} {n = n} h e) p ws cs at = rw (lt-ltb n (2 ^ (8 * real_octets w)) h, e)
leaf_walks (octets_fit {n = n} {os = os} b l e) p ws cs at = rw (contents_walk _ os ws cs at n l, e)
leaf_walks (visible_fits {n = n} {os = os} b l e c) p ws cs at = rw (contents_walk _ os ws cs at n l, e, c)
leaf_walks (bits_fit {n = n} {os = os} b l c e) p ws cs at = rw (contents_walk _ os ws cs at (bit_octets n) l, c, e)

-- this walk accepts this value, and these values
abbrev pub Accepts : (Listed → Outcome Listed Val) → Val → Type 0
Accepts f v =
    (ws cs : List ℕ) (n n' : ℕ) → n' ≡ n + size v
    → f (list_at (nodes v ++ ws) (contents v ++ cs) n) ≡ got v (list_at ws cs n')

abbrev AcceptsAll : (Listed → Outcome Listed Vals) → Vals → Type 0
AcceptsAll f vs =
    (ws cs : List ℕ) (n n' : ℕ) → n' ≡ n + sizes vs
    → f (list_at (nodes_of vs ++ ws) (contents_of vs ++ cs) n) ≡ got vs (list_at ws cs n')

-- one after another
more_walk : (f : Listed → Outcome Listed Val) (g : Listed → Outcome Listed Vals) {v : Val} {vs : Vals}
    → Accepts f v → AcceptsAll g vs
    → AcceptsAll (λ s. next (f s) λ v r. next (g r) λ vs r. got (value v vs) r) (value v vs)
unfolding nodes contents size next
more_walk f g {v} {vs} one others ws cs n n' e =
    rw (
      append_assoc (nodes v) (nodes_of vs) ws,
      append_assoc (contents v) (contents_of vs) cs,
      one (nodes_of vs ++ ws) (contents_of vs ++ cs) n (n + size v) refl,
      others ws cs (n + size v) n' (omega arith),
    )

none_walk : AcceptsAll (λ s. got no_values s) no_values
unfolding nodes contents size
none_walk ws cs n n' e = let q : n' ≡ n = omega arith in rw q

times_walk : (t : Ty) (f : Listed → Outcome Listed Val) → ((v : Val) → Fits t v → Accepts f v)
    → {vs : Vals} → FitAll t vs → AcceptsAll (λ s. times f (value_count vs) s) vs
unfolding times value_count
times_walk t f one no_elements = none_walk
times_walk t f one (element {vs = vs} h hs) =
    more_walk f (λ s. times f (value_count vs) s) (one _ h) (times_walk t f one hs)

-- no value of a type is of kind 0
leaf_not_absent : (l : Leaf) → eqb (leaf_kind l) 0 ≡ false
unfolding leaf_kind real_kind
leaf_not_absent boolean = refl
leaf_not_absent null = refl
leaf_not_absent (integer f a b) = refl
leaf_not_absent (enumerated ns) = refl
leaf_not_absent (real binary32) = refl
leaf_not_absent (real binary64) = refl
leaf_not_absent (octet_string f a b) = refl
leaf_not_absent (bit_string f a b) = refl
leaf_not_absent (visible_string f a b) = refl

not_absent : {t : Ty} {v : Val} → Fits t v → (ws : List ℕ) → is_absent (nodes v ++ ws) ≡ false
unfolding nodes is_absent
not_absent (leaf_fits {l = l} k h) ws = rw (k, leaf_not_absent l)
not_absent (sequence_fits k h) ws = refl
not_absent (sequence_of_fits k l h) ws = refl
not_absent (choice_fits k h) ws = refl

component_walks : (f : Listed → Outcome Listed Val) {m d : ℕ} {t : Ty} {v : Val}
    → ((v : Val) → Fits t v → Accepts f v) → DefaultFits m d t → FitsComponent m d t v
    → Accepts (λ s. component_walk f m s) v
unfolding component_walk choose nodes contents size walk_absent is_absent next must missing
component_walks f one w (plain h) ws cs n n' e = one _ h ws cs n n' e
component_walks f one w (carried {m = zero} h k) ws cs n n' e = rw (not_absent h ws) (one _ h ws cs n n' e)
component_walks f one w (carried {m = suc m} h k) ws cs n n' e = one _ h ws cs n n' e
component_walks f one w (left_out {m = zero} k) ws cs n n' e =
    let z = ap size k in
    let q : n' ≡ suc n = omega arith in
    rw (k, node_walks 0 0 ws cs n, q)
component_walks f one w (left_out {m = suc m} k) ws cs n n' e = rw k (one _ w ws cs n n' (omega (arith, ap size k)))

place_below : {is : Items} {n : ℕ} {v : Val} → FitsAlternative is n v → n < item_count is
unfolding item_count
place_below (this h) = omega arith
place_below (later h) = let below = place_below h in omega arith

mutual
  unfolding walk nodes contents size next must

  pub walk_complete : {t : Ty} {v : Val} → Fits t v → WellFormed t → Accepts (λ s. walk t s) v
  walk_complete {t = leaf l} (leaf_fits {n = m} {os = os} k h) w ws cs n n' e =
      let q : n' ≡ suc n = omega arith in
      rw (k, node_walks (leaf_kind l) m ws (os ++ [] ++ cs) n, append-nil os, leaf_walks h _ ws cs (suc n), q)
  walk_complete {t = sequence is} (sequence_fits {n = m} {vs = vs} k h) w ws cs n n' e =
      rw (
        node_walks 10 m (nodes_of vs ++ ws) (contents_of vs ++ cs) n,
        eq-eqb m _ k,
        walk_components_complete is h w ws cs (suc n) n' (omega arith),
      )
  walk_complete {t = sequence_of t} (sequence_of_fits {n = m} {vs = vs} k l h) w ws cs n n' e =
      rw (
        node_walks 11 m (nodes_of vs ++ ws) (contents_of vs ++ cs) n,
        k,
        times_walk t (λ s. walk t s) (λ v h ws cs n n' e. walk_complete {t = t} h w ws cs n n' e)
            h ws cs (suc n) n' (omega arith),
      )
  walk_complete {t = choice is} (choice_fits {n = m} {v = v} k h) w ws cs n n' e =
      rw (
        append-nil (nodes v),
        append-nil (contents v),
        node_walks 12 m (nodes v ++ ws) (contents v ++ cs) n,
        lt-ltb m (item_count is) (place_below h),
        walk_alternative_complete is h w.0 ws cs (suc n) n' (omega arith),
      )

  walk_components_complete : (is : Items) {vs : Vals} → FitComponents is vs → WellFormedComponents is
      → AcceptsAll (λ s. walk_components is s) vs
  walk_components_complete no_items no_components w ws cs n n' e = none_walk ws cs n n' e
  walk_components_complete (item m d t is) (component h hs) w ws cs n n' e =
      more_walk (λ s. component_walk (λ s. walk t s) m s) (λ s. walk_components is s)
      (component_walks (λ s. walk t s) (λ v h ws cs n n' e. walk_complete {t = t} h w.0 ws cs n n' e) w.1 h)
      (λ ws cs n n' e. walk_components_complete is hs w.2 ws cs n n' e) ws cs n n' e

  walk_alternative_complete : (is : Items) {place : ℕ} {v : Val} → FitsAlternative is place v → WellFormedAlternatives is
      → Accepts (λ s. walk_alternative is place s) v
  walk_alternative_complete no_items h w ws cs n n' e = elim h [ ]
  walk_alternative_complete (item a b t is) (this h) w ws cs n n' e = walk_complete {t = t} h w.1 ws cs n n' e
  walk_alternative_complete (item a b t is) (later h) w ws cs n n' e = walk_alternative_complete is h w.2 ws cs n n' e

-- one component, by its mark
pub walk_component_complete : {m d : ℕ} {t : Ty} {v : Val} → FitsComponent m d t v → WellFormed t → DefaultFits m d t
    → Accepts (λ s. walk_component m t s) v
unfolding walk_component
walk_component_complete {t = t} h w d = component_walks (λ s. walk t s) (λ v h. walk_complete {t = t} h w) d h
