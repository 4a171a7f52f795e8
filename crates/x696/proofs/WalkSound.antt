-- What the walk of a value list accepts fits its type, and its nodes and contents are what the walk passed in the list.
-- Assumes nothing.
use Rattle.std.specs.Prelude.{◌≡◌, refl, List, [], ◌∷◌, ◌++◌, ℕ, zero, suc, ◌+◌, ◌^◌, ◌<◌, length, take}
use Rattle.std.proofs.Common.{ap, sym, ◌∙◌, append_assoc, arith, take-append-drop, length-take-le, ltb-true, leb-true, eqb-true}
use Rattle.x696.specs.Outcome.{Outcome, got}
use Rattle.x696.proofs.OutcomeLaws.{next_inv, must_inv, choose_inv, refused_never, cases}
use Rattle.x696.specs.Digits.{Below}
use Rattle.x696.proofs.DigitsLaws.{below_split}
use Rattle.x696.specs.Bits.{bit_octets}
use Rattle.x696.specs.Value.{Val, node, Vals, no_values, value_count, size, sizes, nodes, nodes_of, contents}
use Rattle.x696.specs.Value.{contents_of, same}
use Rattle.x696.proofs.ValueLaws.{same_eq}
use Rattle.x696.specs.Leaf.{Leaf, boolean, null, integer, enumerated, real, octet_string, bit_string, visible_string}
use Rattle.x696.specs.Leaf.{leaf_kind, LeafFits, boolean_fits, null_fits, integer_fits, enumerated_fits, real_fits}
use Rattle.x696.specs.Leaf.{octets_fit, visible_fits, bits_fit}
use Rattle.x696.specs.Types.{Ty, leaf, sequence, sequence_of, choice, Items, no_items, item, missing}
use Rattle.x696.specs.Fits.{Fits, leaf_fits, sequence_fits, sequence_of_fits, choice_fits, FitsComponent, plain}
use Rattle.x696.specs.Fits.{carried, left_out, FitComponents, no_components, component, FitAll, no_elements}
use Rattle.x696.specs.Fits.{element, FitsAlternative, this, later}
use Rattle.x696.specs.Read.{times}
use Rattle.x696.specs.Walk.{Listed, list_at, Node, kind_number, node_in, number_if, node_at, contents_at, walk_leaf}
use Rattle.x696.specs.Walk.{walk_absent, component_walk, walk, walk_components, walk_alternative, walk_component}
use Rattle.x696.specs.WellFormed.{WellFormed, WellFormedComponents, WellFormedAlternatives}

-- from s to r the walk passed these words, these contents and this many nodes; A is what holds of what it got
pub record Passed (A : Type 0) (s : Listed) (ws cs : List ℕ) (k : ℕ) (r : Listed) : Type 0 where
  pub fits : A
  pub words : s.words ≡ ws ++ r.words
  pub contents : s.contents ≡ cs ++ r.contents
  pub at : r.at ≡ s.at + k

abbrev pub Walked : Ty → Listed → Val → Listed → Type 0
Walked t s v r = Passed (Fits t v) s (nodes v) (contents v) (size v) r

abbrev pub WalkedComponent : (mark default : ℕ) → Ty → Listed → Val → Listed → Type 0
WalkedComponent m d t s v r = Passed (FitsComponent m d t v) s (nodes v) (contents v) (size v) r

-- a walk that passed nothing, and two one after the other
passed_nothing : {A : Type 0} {s : Listed} → A → Passed A s [] [] 0 s
passed_nothing f = record { fits = f; words = refl; contents = refl; at = omega arith }

passed_next : {A B C : Type 0} {s q r : Listed} {ws ws' cs cs' : List ℕ} {k k' n : ℕ}
    → Passed A s ws cs k q → Passed B q ws' cs' k' r → n ≡ k + k' → C → Passed C s (ws ++ ws') (cs ++ cs') n r
passed_next {r = r} {ws = ws} {ws' = ws'} {cs = cs} {cs' = cs'} a b e f = record {
  fits = f;
  words = cc (a.words, b.words, append_assoc ws ws' r.words);
  contents = cc (a.contents, b.contents, append_assoc cs cs' r.contents);
  at = omega arith;
}

-- nothing came after it
passed_only : {A : Type 0} {s r : Listed} {ws cs : List ℕ} {k : ℕ} → Passed A s ws cs k r
    → Passed A s (ws ++ []) (cs ++ []) (k + 0) r
passed_only a = passed_next a (passed_nothing a.fits) refl a.fits

passed_as : {A B : Type 0} {s r : Listed} {ws cs : List ℕ} {k : ℕ} → Passed A s ws cs k r → B → Passed B s ws cs k r
passed_as a f = record { fits = f; words = a.words; contents = a.contents; at = a.at }

-- what is left is words and octets too
left_below : {A : Type 0} {s r : Listed} {ws cs : List ℕ} {k : ℕ} → Passed A s ws cs k r → Below 64 s.words
    → Below 8 s.contents → Below 64 r.words × Below 8 r.contents
left_below {ws = ws} {cs = cs} a b o = ((below_split 64 ws _ b a.words).1, (below_split 8 cs _ o a.contents).1)

module _ {S A : Type 0} where
  -- what holds of what was read
  pub got_same : (P : A → S → Type 0) {a b : A} {s r : S} → ◌≡◌ {A = Outcome S A} (got a s) (got b r) → P a s → P b r
  got_same P {a} {b} {s} {r} e p = let qa : a ≡ b = cc in let qs : s ≡ r = cc in rw (← qa, ← qs) p

-- a node: its two words
node_in_passed : (ws cs : List ℕ) (at : ℕ) {k n : ℕ} {r : Listed} → Below 64 ws
    → node_in ws cs at ≡ got (kind_number k n) r → Passed (n < 2 ^ 64) (list_at ws cs at) (k ∷ n ∷ []) [] 1 r
unfolding node_in
node_in_passed [] cs at b e = absurd (refused_never e)
node_in_passed (k ∷ []) cs at b e = absurd (refused_never e)
node_in_passed (x ∷ y ∷ ws) cs at {k} {n} {r} b e =
    let qk : x ≡ k = cc in
    let qn : y ≡ n = cc in
    let qr : list_at ws cs (suc at) ≡ r = cc in
    rw (← qk, ← qn, ← qr) (record { fits = b.1.0; words = refl; contents = refl; at = omega arith })

number_is : (kind p : ℕ) (x : Node) (q : Listed) {n : ℕ} {r : Listed} → number_if kind p x q ≡ got n r
    → ◌≡◌ {A = Outcome Listed Node} (got x q) (got (kind_number kind n) r)
unfolding number_if
number_is kind p (kind_number k m) q e = must_inv _ _ _ _ e λ t g. cc (eqb-true k kind t)

node_passed : (kind : ℕ) (s : Listed) {n : ℕ} {r : Listed} → Below 64 s.words → node_at kind s ≡ got n r
    → Passed (n < 2 ^ 64) s (kind ∷ n ∷ []) [] 1 r
unfolding node_at
node_passed kind s b e =
    next_inv _ _ e λ x q was then. node_in_passed s.words s.contents s.at b (was ∙ number_is kind _ x q then)

-- the octets of a string
contents_passed : (p n : ℕ) (s : Listed) {os : List ℕ} {r : Listed} → Below 8 s.contents
    → contents_at p n s ≡ got os r → Passed (Below 8 os × (length os ≡ n)) s [] os 0 r
unfolding contents_at
contents_passed p n s b e =
    must_inv _ _ _ _ e λ t q.
    got_same (λ os r. Passed (Below 8 os × (length os ≡ n)) s [] os 0 r) q
    (let eq = sym (take-append-drop n s.contents) in
    record {
      fits = ((below_split 8 (take n s.contents) _ b eq).0, length-take-le n s.contents (leb-true n _ t));
      words = refl;
      contents = eq;
      at = omega arith;
    })

-- a kind without components, after its node
abbrev LeafWalked : Leaf → (number : ℕ) → Listed → Val → Listed → Type 0
LeafWalked l n s v r = (os : List ℕ) × (v ≡ node (leaf_kind l) n os no_values) × Passed (LeafFits l n os) s [] os 0 r

leaf_passed : (l : Leaf) (p n : ℕ) (s : Listed) {v : Val} {r : Listed} → n < 2 ^ 64 → Below 8 s.contents
    → walk_leaf l p n s ≡ got v r → LeafWalked l n s v r
unfolding walk_leaf leaf_kind
leaf_passed boolean p n s h b e =
    must_inv _ _ _ _ e λ t q.
    got_same (LeafWalked boolean n s) q ([], refl, passed_nothing (boolean_fits (ltb-true n 2 t)))
leaf_passed null p n s h b e =
    must_inv _ _ _ _ e λ t q.
    got_same (LeafWalked null n s) q ([], refl, passed_nothing (rw (eqb-true n 0 t) null_fits))
leaf_passed (integer f a c) p n s h b e =
    must_inv _ _ _ _ e λ t q.
    got_same (LeafWalked (integer f a c) n s) q ([], refl, passed_nothing (integer_fits h t))
leaf_passed (enumerated ns) p n s h b e =
    must_inv _ _ _ _ e λ t q.
    got_same (LeafWalked (enumerated ns) n s) q ([], refl, passed_nothing (enumerated_fits h t))
leaf_passed (real w) p n s h b e =
    must_inv _ _ _ _ e λ t q. must_inv _ _ _ _ q λ u g.
    got_same (LeafWalked (real w) n s) g ([], refl, passed_nothing (real_fits (ltb-true n _ t) u))
leaf_passed (octet_string f a c) p n s h b e =
    next_inv _ _ e λ os q was then. must_inv _ _ _ _ then λ t g.
    let o = contents_passed _ n s b was in
    got_same (LeafWalked (octet_string f a c) n s) g (os, refl, passed_as o (octets_fit o.fits.0 o.fits.1 t))
leaf_passed (bit_string f a c) p n s h b e =
    next_inv _ _ e λ os q was then. must_inv _ _ _ _ then λ t g. must_inv _ _ _ _ g λ u i.
    let o = contents_passed _ (bit_octets n) s b was in
    got_same (LeafWalked (bit_string f a c) n s) i (os, refl, passed_as o (bits_fit o.fits.0 o.fits.1 t u))
leaf_passed (visible_string f a c) p n s h b e =
    next_inv _ _ e λ os q was then. must_inv _ _ _ _ then λ t g. must_inv _ _ _ _ g λ u i.
    let o = contents_passed _ n s b was in
    got_same (LeafWalked (visible_string f a c) n s) i
    (os, refl, passed_as o (visible_fits o.fits.0 o.fits.1 t u))

-- one thing n times over
abbrev WalkedAll : Ty → (count : ℕ) → Listed → Vals → Listed → Type 0
WalkedAll t n s vs r = Passed ((n ≡ value_count vs) × FitAll t vs) s (nodes_of vs) (contents_of vs) (sizes vs) r

times_passed : (t : Ty) (f : Listed → Outcome Listed Val)
    → ((s : Listed) (v : Val) (r : Listed) → Below 64 s.words → Below 8 s.contents → f s ≡ got v r
    → Walked t s v r)
    → (n : ℕ) (s : Listed) {vs : Vals} {r : Listed} → Below 64 s.words → Below 8 s.contents
    → times f n s ≡ got vs r → WalkedAll t n s vs r
unfolding times nodes_of contents_of sizes value_count
times_passed t f one zero s b o e = got_same (WalkedAll t zero s) e (passed_nothing (refl, no_elements))
times_passed t f one (suc n) s b o e =
    next_inv _ _ e λ v q was then. next_inv _ _ then λ vs r was' then'.
    let a = one s v q b o was in
    let h = left_below a b o in
    let c = times_passed t f one n q h.0 h.1 was' in
    got_same (WalkedAll t (suc n) s) then' (passed_next a c refl (ap suc c.fits.0, element a.fits c.fits.1))

-- ABSENT, and a component of any mark
absent_passed : (d : ℕ) (t : Ty) (s : Listed) {v : Val} {r : Listed} → Below 64 s.words → walk_absent s ≡ got v r
    → WalkedComponent 1 d t s v r
unfolding walk_absent missing nodes contents size
absent_passed d t s b e =
    next_inv _ _ e λ n q was then. must_inv _ _ _ _ then λ u g.
    got_same (WalkedComponent 1 d t s) g (passed_as (rw (eqb-true n 0 u) at (node_passed 0 s b was)) (left_out refl))

marked_passed : (m d : ℕ) (t : Ty) (s : Listed) {v : Val} {r : Listed}
    → Walked t s v r → WalkedComponent (suc m) d t s v r
marked_passed m d t s {v} a =
    passed_as a (cases (same v (missing (suc m) d t)) (λ e. left_out (same_eq v _ e)) (λ e. carried a.fits e))

component_passed : (f : Listed → Outcome Listed Val) (m d : ℕ) (t : Ty) (s : Listed) {v : Val} {r : Listed}
    → Below 64 s.words → (f s ≡ got v r → Walked t s v r) → component_walk f m s ≡ got v r
    → WalkedComponent m d t s v r
unfolding component_walk
component_passed f zero d t s b one e = let a = one e in passed_as a (plain a.fits)
component_passed f (suc zero) d t s b one e =
    choose_inv _ _ _ e (λ u g. absent_passed d t s b g) (λ u g. marked_passed 0 d t s (one g))
component_passed f (suc (suc m)) d t s b one e = marked_passed (suc m) d t s (one e)

-- the walk
abbrev WalkedComponents : Items → Listed → Vals → Listed → Type 0
WalkedComponents is s vs r = Passed (FitComponents is vs) s (nodes_of vs) (contents_of vs) (sizes vs) r

abbrev WalkedAlternative : Items → (place : ℕ) → Listed → Val → Listed → Type 0
WalkedAlternative is n s v r = Passed (FitsAlternative is n v) s (nodes v) (contents v) (size v) r

mutual
  unfolding walk nodes contents size

  pub walk_sound : (t : Ty) (s : Listed) {v : Val} {r : Listed} → WellFormed t → Below 64 s.words
      → Below 8 s.contents → walk t s ≡ got v r → Walked t s v r
  walk_sound (leaf l) s w b o e =
      next_inv _ _ e λ n q was then.
      let a = node_passed _ s b was in
      let (os, is, c) = leaf_passed l _ n q a.fits (left_below a b o).1 then in
      rw is (passed_next a (passed_only c) refl (leaf_fits refl c.fits))
  walk_sound (sequence is) s w b o e =
      next_inv _ _ e λ n q was then. must_inv _ _ _ _ then λ u g. next_inv _ _ g λ vs r was' then'.
      let a = node_passed _ s b was in
      let h = left_below a b o in
      let c = walk_components_sound is q w h.0 h.1 was' in
      got_same (Walked (sequence is) s) then' (passed_next a c (omega arith) (sequence_fits (eqb-true n _ u) c.fits))
  walk_sound (sequence_of t) s w b o e =
      next_inv _ _ e λ n q was then. next_inv _ _ then λ vs r was' then'.
      let a = node_passed _ s b was in
      let h = left_below a b o in
      let c = times_passed t _ (λ s v r b o e. walk_sound t s w b o e) n q h.0 h.1 was' in
      got_same (Walked (sequence_of t) s) then'
      (passed_next a c (omega arith) (sequence_of_fits c.fits.0 a.fits c.fits.1))
  walk_sound (choice is) s w b o e =
      next_inv _ _ e λ n q was then. must_inv _ _ _ _ then λ u g. next_inv _ _ g λ v r was' then'.
      let a = node_passed _ s b was in
      let h = left_below a b o in
      let c = walk_alternative_sound is n q w.0 h.0 h.1 was' in
      got_same (Walked (choice is) s) then'
      (passed_next a (passed_only c) (omega arith) (choice_fits (w.1 n (ltb-true n _ u)) c.fits))

  walk_components_sound : (is : Items) (s : Listed) {vs : Vals} {r : Listed} → WellFormedComponents is
      → Below 64 s.words → Below 8 s.contents → walk_components is s ≡ got vs r → WalkedComponents is s vs r
  walk_components_sound no_items s w b o e = got_same (WalkedComponents no_items s) e (passed_nothing no_components)
  walk_components_sound (item m d t is) s w b o e =
      next_inv _ _ e λ v q was then. next_inv _ _ then λ vs r was' then'.
      let a = component_passed _ m d t s b (λ g. walk_sound t s w.0 b o g) was in
      let h = left_below a b o in
      let c = walk_components_sound is q w.2 h.0 h.1 was' in
      got_same (WalkedComponents (item m d t is) s) then' (passed_next a c refl (component a.fits c.fits))

  walk_alternative_sound : (is : Items) (n : ℕ) (s : Listed) {v : Val} {r : Listed} → WellFormedAlternatives is
      → Below 64 s.words → Below 8 s.contents → walk_alternative is n s ≡ got v r → WalkedAlternative is n s v r
  walk_alternative_sound no_items n s w b o e = absurd (refused_never e)
  walk_alternative_sound (item a c t is) zero s w b o e =
      let m = walk_sound t s w.1 b o e in passed_as m (this m.fits)
  walk_alternative_sound (item a c t is) (suc n) s w b o e =
      let m = walk_alternative_sound is n s w.2 b o e in passed_as m (later m.fits)

-- one component, by its mark
pub walk_component_sound : (m d : ℕ) (t : Ty) (s : Listed) {v : Val} {r : Listed} → WellFormed t
    → Below 64 s.words → Below 8 s.contents → walk_component m t s ≡ got v r → WalkedComponent m d t s v r
unfolding walk_component
walk_component_sound m d t s w b o e = component_passed _ m d t s b (λ g. walk_sound t s w b o g) e
