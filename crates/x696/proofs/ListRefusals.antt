-- Which numbers and places the walk of a value list can refuse with: 11 at most at the number of nodes, 7 at a node.
-- What is kept on the way: the next node's number and the nodes left make up the number of nodes. Assumes nothing.
use Rattle.std.specs.Prelude.{◌≡◌, refl, ◌⊎◌, length}
use Rattle.std.proofs.Common.{inl, inr, zero-add}
use mathlib.Core.List.{List, [], ◌∷◌}
use Prim.Native.Nat.{ℕ, zero, suc, ◌+◌, ◌/◌, ◌<◌, ◌≤◌}
use native.Mathlib.Omega.{arith}
use Rattle.x696.specs.Outcome.{Outcome}
use Rattle.x696.proofs.Ends.{Ends, refuses, reads, next_ends, must_ends, choose_ends}
use Rattle.x696.specs.Value.{Val, node_width}
use Rattle.x696.specs.Leaf.{Leaf, boolean, null, integer, enumerated, real, octet_string, bit_string, visible_string}
use Rattle.x696.specs.Types.{Ty, leaf, sequence, sequence_of, choice, Items, no_items, item}
use Rattle.x696.specs.Read.{times}
use Rattle.x696.specs.Walk.{Listed, list_at, Node, kind_number, node_in, number_if, node_at, contents_at, walk_leaf}
use Rattle.x696.specs.Walk.{walk_absent}
use Rattle.x696.specs.Walk.{component_walk, walk, walk_components, walk_alternative, walk_component}

-- 11 up to the number of nodes, or 7 at one of them
pub record ListFault (nodes number place : ℕ) : Type 0 where
  pub numbered : ((number ≡ 11) × (place ≤ nodes)) ⊎ ((number ≡ 7) × (place < nodes))

module _ (nodes : ℕ) where
  -- the next node's number and the nodes left make up the whole
  pub record Along (s : Listed) : Type 0 where
    pub along : s.at + length s.words / node_width ≡ nodes

  abbrev Walked : {A : Type 0} → Outcome Listed A → Type 0
  Walked o = Ends (ListFault nodes) Along o

  eleven : (p : ℕ) → p ≤ nodes → ListFault nodes 11 p
  eleven p h = record { numbered = inl (refl, h) }

  seven : (p : ℕ) → p < nodes → ListFault nodes 7 p
  seven p h = record { numbered = inr (refl, h) }

  -- a standing, and the node before it
  record Behind (p : ℕ) (s : Listed) : Type 0 where
    node : p < nodes
    stands : Along s

  abbrev Noded : (p : ℕ) → {A : Type 0} → Outcome Listed A → Type 0
  Noded p o = Ends (ListFault nodes) (Behind p) o

  node_walked : (ws cs : List ℕ) (n : ℕ) → n + length ws / node_width ≡ nodes → Noded n (node_in ws cs n)
  unfolding node_in
  node_walked [] cs n e = refuses (eleven n (omega arith))
  node_walked (k ∷ []) cs n e = refuses (eleven n (omega arith))
  node_walked (k ∷ m ∷ ws) cs n e =
      let stands : Along (list_at ws cs (suc n)) = record { along = omega arith } in
      reads (record { node = omega arith; stands = stands })

  number_if_walked : (kind p : ℕ) (x : Node) (s : Listed) → Behind p s → Noded p (number_if kind p x s)
  unfolding number_if
  number_if_walked kind p (kind_number k m) s b = must_ends _ _ _ (eleven p (omega (arith, b.node))) (reads b)

  node_at_walked : (kind : ℕ) (s : Listed) → Along s → Noded s.at (node_at kind s)
  unfolding node_at
  node_at_walked kind s a =
      next_ends _ (node_walked s.words s.contents s.at a.along) λ x r b. number_if_walked kind _ x r b

  contents_walked : (p n : ℕ) (s : Listed) → Behind p s → Noded p (contents_at p n s)
  unfolding contents_at
  contents_walked p n s b =
      must_ends _ _ _ (eleven p (omega (arith, b.node)))
      (reads (record { node = b.node; stands = record { along = b.stands.along } }))

  leaf_walked : (l : Leaf) (p n : ℕ) (s : Listed) → Behind p s → Walked (walk_leaf l p n s)
  unfolding walk_leaf
  leaf_walked boolean p n s b = must_ends _ _ _ (eleven p (omega (arith, b.node))) (reads b.stands)
  leaf_walked null p n s b = must_ends _ _ _ (eleven p (omega (arith, b.node))) (reads b.stands)
  leaf_walked (integer f a c) p n s b = must_ends _ _ _ (seven p b.node) (reads b.stands)
  leaf_walked (enumerated ns) p n s b = must_ends _ _ _ (seven p b.node) (reads b.stands)
  leaf_walked (real w) p n s b =
      must_ends _ _ _ (eleven p (omega (arith, b.node))) (must_ends _ _ _ (seven p b.node) (reads b.stands))
  leaf_walked (octet_string f a c) p n s b =
      next_ends _ (contents_walked p _ s b) λ os r b. must_ends _ _ _ (seven p b.node) (reads b.stands)
  leaf_walked (bit_string f a c) p n s b =
      next_ends _ (contents_walked p _ s b) λ os r b.
      must_ends _ _ _ (eleven p (omega (arith, b.node))) (must_ends _ _ _ (seven p b.node) (reads b.stands))
  leaf_walked (visible_string f a c) p n s b =
      next_ends _ (contents_walked p _ s b) λ os r b.
      must_ends _ _ _ (seven p b.node) (must_ends _ _ _ (seven p b.node) (reads b.stands))

  component_walked : (f : Listed → Outcome Listed Val) → ((s : Listed) → Along s → Walked (f s)) → (m : ℕ) (s : Listed)
      → Along s → Walked (component_walk f m s)
  unfolding component_walk walk_absent
  component_walked f h zero s a = h s a
  component_walked f h (suc zero) s a =
      choose_ends _ _ _
      (next_ends _ (node_at_walked 0 s a) λ n r b.
      must_ends _ _ _ (eleven _ (omega (arith, b.node))) (reads b.stands))
      (h s a)
  component_walked f h (suc (suc m)) s a = h s a

  times_walked : (f : Listed → Outcome Listed Val) → ((s : Listed) → Along s → Walked (f s)) → (n : ℕ) (s : Listed)
      → Along s → Walked (times f n s)
  unfolding times
  times_walked f h zero s a = reads a
  times_walked f h (suc n) s a =
      next_ends _ (h s a) λ v s a. next_ends _ (times_walked f h n s a) λ vs s a. reads a

  mutual
    unfolding walk walk_components walk_alternative

    walk_walked : (t : Ty) (s : Listed) → Along s → Walked (walk t s)
    walk_walked (leaf l) s a = next_ends _ (node_at_walked _ s a) λ n r b. leaf_walked l _ n r b
    walk_walked (sequence is) s a =
        next_ends _ (node_at_walked _ s a) λ n r b.
        must_ends _ _ _ (eleven _ (omega (arith, b.node)))
        (next_ends _ (components_walked is r b.stands) λ vs r a. reads a)
    walk_walked (sequence_of t) s a =
        next_ends _ (node_at_walked _ s a) λ n r b.
        next_ends _ (times_walked _ (λ s a. walk_walked t s a) n r b.stands) λ vs r a. reads a
    walk_walked (choice is) s a =
        next_ends _ (node_at_walked _ s a) λ n r b.
        must_ends _ _ _ (eleven _ (omega (arith, b.node)))
        (next_ends _ (alternative_walked is n r b.stands) λ v r a. reads a)

    components_walked : (is : Items) (s : Listed) → Along s → Walked (walk_components is s)
    components_walked no_items s a = reads a
    components_walked (item m d t is) s a =
        next_ends _ (component_walked _ (λ s a. walk_walked t s a) m s a) λ v r a.
        next_ends _ (components_walked is r a) λ vs r a. reads a

    alternative_walked : (is : Items) (n : ℕ) (s : Listed) → Along s → Walked (walk_alternative is n s)
    alternative_walked no_items n s a = refuses (eleven s.at (omega (arith, a.along)))
    alternative_walked (item c b t is) zero s a = walk_walked t s a
    alternative_walked (item c b t is) (suc n) s a = alternative_walked is n s a

  walk_component_walked : (m : ℕ) (t : Ty) (s : Listed) → Along s → Walked (walk_component m t s)
  unfolding walk_component
  walk_component_walked m t s a = component_walked _ (walk_walked t) m s a

pub walk_component_refusals : (m : ℕ) (t : Ty) (ws cs : List ℕ)
    → Ends (ListFault (length ws / node_width)) (Along (length ws / node_width)) (walk_component m t (list_at ws cs 0))
walk_component_refusals m t ws cs = walk_component_walked _ m t (list_at ws cs 0) (record { along = zero-add _ })
