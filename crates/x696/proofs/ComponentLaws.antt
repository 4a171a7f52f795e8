-- The components of a message, and what an edit leaves of those that it does not touch.
-- Assumes nothing.
use Rattle.std.specs.Prelude.{◌≡◌, refl, List, ℕ, ◌+◌, ◌≤◌, length}
use Rattle.std.proofs.Common.{sym, ◌∙◌, arith}
use Rattle.x696.specs.Digits.{Below}
use Rattle.x696.specs.Value.{Val}
use Rattle.x696.specs.Types.{Ty}
use Rattle.x696.specs.Encode.{encode, own_octets}
use Rattle.x696.specs.Table.{type_of}
use Rattle.x696.specs.Path.{found, find, replace, octets_before}
use Rattle.x696.specs.Apart.{Apart}
use Rattle.x696.specs.PathOrder.{Ahead}
use Rattle.x696.specs.Reply.{done}
use Rattle.x696.specs.Operations.{value_in}
use Rattle.x696.specs.Edits.{Edits}
use Rattle.x696.specs.Component.{part, Component, Kept}
use Rattle.x696.proofs.Unique.{read_message_iff}
use Rattle.x696.proofs.AskedLaws.{held_value, same_done}
use Rattle.x696.proofs.PathLaws.{others_keep}
use Rattle.x696.proofs.Locality.{stands}
use Rattle.x696.proofs.OrderLaws.{paths_ordered, ahead_stays, behind_moves}

module _ (rows items : List ℕ) (r : ℕ) where
  abbrev T : Ty
  T = type_of rows items r

  -- the encoding of a value has each component that a path finds
  component_encoded : (s : List ℕ) (v : Val) (p : List ℕ) {m d : ℕ} {u : Ty} {x : Val} → value_in rows items r s ≡ done v
      → s ≡ encode T v → find T v p ≡ found m d u x
      → Component rows items r s p m d u x (length (octets_before T v p))
  unfolding part
  component_encoded s v p reads whole e =
      record { value = v; reads = reads; finds = e; starts = refl; octets = rw whole (stands T v p e).octets }

  -- and a message is such an encoding
  pub component_found : (s : List ℕ) (v : Val) (p : List ℕ) {m d : ℕ} {u : Ty} {x : Val} → Below 64 items → Below 8 s
      → value_in rows items r s ≡ done v → find T v p ≡ found m d u x
      → Component rows items r s p m d u x (length (octets_before T v p))
  component_found s v p words octets reads e =
      held_value rows items r s v words reads λ g usable end h.
      component_encoded s v p reads ((read_message_iff T s v end octets).0 h).1 e

  -- components stand in the order of their paths, one behind the other
  pub component_order : (s : List ℕ) {p q : List ℕ} {m d start m' d' start' : ℕ} {u u' : Ty} {x x' : Val} → Ahead p q
      → Component rows items r s p m d u x start → Component rows items r s q m' d' u' x' start'
      → start + length (own_octets m d u x) ≤ start'
  component_order s {q = q} {m' = m'} {d' = d'} {u' = u'} {x' = x'} h c c' =
      let same = same_done c'.reads c.reads in
      let e' : find T c.value q ≡ found m' d' u' x' = rw same at c'.finds in
      let z = rw same at c'.starts in
      omega (arith, paths_ordered T c.value c.finds e' h, c.starts, z)

  -- an edit keeps each component apart from its own
  pub component_kept : (s p ws cs s' : List ℕ) (h : Edits rows items r s p ws cs s') (q : List ℕ) {m d start : ℕ}
      {u : Ty} {x : Val}
      → Apart p q → Component rows items r s q m d u x start → Kept rows items r s p ws cs s' h q m d u x start
  component_kept s p ws cs s' h q {m} {d} {start} {u} {x} a c =
      let same = same_done c.reads h.reads in
      let v = h.value in
      let y = h.new in
      let finds : find T v q ≡ found m d u x = rw same at c.finds in
      let starts : start ≡ length (octets_before T v q) = rw same at c.starts in
      let new = component_encoded s' (replace p y v) q h.accepted h.after
      (others_keep T v p h.finds a y ∙ finds) in
      record {
        start' = length (octets_before T (replace p y v) q);
        component = new;
        octets = new.octets ∙ sym c.octets;
        stays = λ o. ahead_stays T v h.finds finds o y ∙ sym starts;
        moves = λ o. behind_moves T v h.finds finds o y ∙ rw (← starts);
      }
