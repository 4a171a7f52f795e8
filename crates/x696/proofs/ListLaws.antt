-- A whole value list is accepted exactly if it is that of a value that fits; no two values of a type have one list.
-- Assumes nothing.
use Rattle.std.specs.Prelude.{◌≡◌, refl, ◌↔◌, List, [], ◌∷◌, ℕ, zero, suc, ◌*◌, ◌/◌, ◌%◌, ◌≤◌, length}
use Rattle.std.proofs.Common.{ap, append-nil, arith, length-append, leb-true, eqb-true, le-leb, eq-eqb}
use Rattle.x696.specs.Outcome.{got, next, must}
use Rattle.x696.proofs.OutcomeLaws.{next_inv, must_inv}
use Rattle.x696.specs.Digits.{Below}
use Rattle.x696.proofs.DigitsLaws.{below_append}
use Rattle.x696.specs.Value.{Val, node, Vals, no_values, value, size, sizes, nodes, nodes_of, contents, contents_of}
use Rattle.x696.specs.Leaf.{Leaf, LeafFits, boolean_fits, null_fits, integer_fits, enumerated_fits, real_fits}
use Rattle.x696.specs.Leaf.{octets_fit, visible_fits, bits_fit}
use Rattle.x696.specs.Types.{Ty, Items, missing}
use Rattle.x696.specs.Fits.{Fits, leaf_fits, sequence_fits, sequence_of_fits, choice_fits, FitsComponent, plain}
use Rattle.x696.specs.Fits.{carried, left_out, FitComponents, no_components, component, FitAll, no_elements}
use Rattle.x696.specs.Fits.{element, FitsAlternative, this, later}
use Rattle.x696.specs.Walk.{Listed, list_at}
use Rattle.x696.specs.WellFormed.{DefaultFits, WellFormed}
use Rattle.x696.specs.Operations.{node_limit, octet_limit, walk_list}
use Rattle.x696.proofs.WalkSound.{got_same, walk_component_sound}
use Rattle.x696.proofs.WalkComplete.{walk_complete, walk_component_complete}

-- two words a node
mutual
  unfolding nodes size

  pub nodes_length : (v : Val) → length (nodes v) ≡ size v * 2
  nodes_length (node k n os vs) = omega (arith, nodes_of_length vs)

  nodes_of_length : (vs : Vals) → length (nodes_of vs) ≡ sizes vs * 2
  nodes_of_length no_values = refl
  nodes_of_length (value v vs) = omega (arith, length-append (nodes v) (nodes_of vs), nodes_length v, nodes_of_length vs)

-- contents are octets
leaf_octets : {l : Leaf} {n : ℕ} {os : List ℕ} → LeafFits l n os → Below 8 os
leaf_octets (boolean_fits h) = tt
leaf_octets null_fits = tt
leaf_octets (integer_fits h e) = tt
leaf_octets (enumerated_fits h e) = tt
leaf_octets (real_fits h e) = tt
leaf_octets (octets_fit b l e) = b
leaf_octets (visible_fits b l e c) = b
leaf_octets (bits_fit b l c e) = b

missing_octets : (m d : ℕ) (t : Ty) → Below 8 (contents (missing m d t))
unfolding missing contents
missing_octets zero d t = tt
missing_octets (suc zero) d t = tt
missing_octets (suc (suc m)) d t = tt

mutual
  unfolding contents

  pub contents_octets : {t : Ty} {v : Val} → Fits t v → Below 8 (contents v)
  contents_octets (leaf_fits {os = os} k h) = below_append 8 os [] (leaf_octets h) tt
  contents_octets (sequence_fits k h) = components_octets h
  contents_octets (sequence_of_fits k l h) = all_octets h
  contents_octets (choice_fits {v = v} k h) = below_append 8 (contents v) [] (alternative_octets h) tt

  pub component_octets : {m d : ℕ} {t : Ty} {v : Val} → FitsComponent m d t v → Below 8 (contents v)
  component_octets (plain h) = contents_octets h
  component_octets (carried h e) = contents_octets h
  component_octets (left_out {m = m} {d = d} {t = t} e) = rw e (missing_octets (suc m) d t)

  components_octets : {is : Items} {vs : Vals} → FitComponents is vs → Below 8 (contents_of vs)
  components_octets no_components = tt
  components_octets (component {v = v} {vs = vs} h hs) =
      below_append 8 (contents v) (contents_of vs) (component_octets h) (components_octets hs)

  all_octets : {t : Ty} {vs : Vals} → FitAll t vs → Below 8 (contents_of vs)
  all_octets no_elements = tt
  all_octets (element {v = v} {vs = vs} h hs) =
      below_append 8 (contents v) (contents_of vs) (contents_octets h) (all_octets hs)

  alternative_octets : {is : Items} {n : ℕ} {v : Val} → FitsAlternative is n v → Below 8 (contents v)
  alternative_octets (this h) = contents_octets h
  alternative_octets (later h) = alternative_octets h

-- one list, one value
pub list_unique : {t : Ty} {v w : Val} → Fits t v → Fits t w → WellFormed t
    → nodes v ≡ nodes w → contents v ≡ contents w → v ≡ w
list_unique h g f e e' =
    let a = walk_complete h f [] [] 0 _ refl in
    let b = walk_complete g f [] [] 0 _ refl in
    let a' = rw (e, e') at a in
    cc

nothing_left : (s : List ℕ) → length s ≡ 0 → s ≡ []
nothing_left [] e = refl
nothing_left (x ∷ s) e = absurd (omega arith)

-- the value list of a value that fits, within the limits, and where the walk of it ends
abbrev pub ListOf : (mark default : ℕ) → Ty → (ws cs : List ℕ) → Val → Listed → Type 0
ListOf m d t ws cs v r =
    FitsComponent m d t v × (ws ≡ nodes v) × (cs ≡ contents v) × (size v ≤ node_limit)
    × (length (contents v) ≤ octet_limit) × (r ≡ list_at [] [] (size v))

pub walk_list_complete : (m d : ℕ) (t : Ty) (ws cs : List ℕ) (v : Val) (r : Listed) → WellFormed t → DefaultFits m d t
    → ListOf m d t ws cs v r → walk_list m t ws cs ≡ got v r
unfolding walk_list next must
walk_list_complete m d t ws cs v r w f l =
    let (h, e, e', a, b, q) = l in
    let n = nodes_length v in
    let walked = walk_component_complete h w f [] [] 0 (size v) (omega arith) in
    rw (
      e,
      e',
      q,
      eq-eqb (length (nodes v) % 2) 0 (omega arith),
      le-leb (length (nodes v) / 2) node_limit (omega arith),
      le-leb (length (contents v)) octet_limit b,
      rw (append-nil (nodes v), append-nil (contents v)) at walked,
    )

pub walk_list_sound : (m d : ℕ) (t : Ty) (ws cs : List ℕ) (v : Val) (r : Listed) → WellFormed t → Below 64 ws
    → Below 8 cs → walk_list m t ws cs ≡ got v r → ListOf m d t ws cs v r
unfolding walk_list
walk_list_sound m d t ws cs _ _ w b o e =
    must_inv _ _ _ _ e λ even then.
    must_inv _ _ _ _ then λ few then.
    must_inv _ _ _ _ then λ short then.
    next_inv _ _ then λ v r was then.
    must_inv _ _ _ _ then λ no_words then.
    must_inv _ _ _ _ then λ no-contents then.
    let a = walk_component_sound m d t _ w b o was in
    let end = nothing_left r.words (eqb-true _ 0 no_words) in
    let end' = nothing_left r.contents (eqb-true _ 0 no-contents) in
    let is_nodes : ws ≡ nodes v = cc (a.words, end, append-nil (nodes v)) in
    let is_contents : cs ≡ contents v = cc (a.contents, end', append-nil (contents v)) in
    let few_words = leb-true (length ws / 2) node_limit few in
    let few_nodes : size v ≤ node_limit = omega (arith, few_words, nodes_length v, ap length is_nodes) in
    let few-octets = rw is_contents at (leb-true (length cs) octet_limit short) in
    let at_size : r.at ≡ size v = omega (arith, a.at) in
    let is_end : list_at r.words r.contents r.at ≡ list_at [] [] (size v) = rw (end, end', at_size) in
    got_same (ListOf m d t ws cs) then (a.fits, is_nodes, is_contents, few_nodes, few-octets, is_end)

pub walk_list_iff : (m d : ℕ) (t : Ty) (ws cs : List ℕ) (v : Val) (r : Listed) → WellFormed t → DefaultFits m d t
    → Below 64 ws → Below 8 cs → (walk_list m t ws cs ≡ got v r) ↔ ListOf m d t ws cs v r
walk_list_iff m d t ws cs v r w f b o = (walk_list_sound m d t ws cs v r w b o, walk_list_complete m d t ws cs v r w f)
