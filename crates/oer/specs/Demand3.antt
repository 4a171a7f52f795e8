-- Demand 3: an edit gives what the longer road gives, and is refused exactly when that road is, for the same cause.
-- Apart from the component's own octets at most one presence bit differs; every component that neither holds it nor
-- lies in it keeps its octets and their order. A single setting is that component of the value that decoding gives.
-- Words and octets are such by the types of the operations' arguments (`Below 64`, `Below 8`); nothing else is assumed.
use Rattle.std.specs.Prelude.{◌≡◌, true, not, ◌↔◌, List, ℕ, suc, ◌+◌, ◌*◌, ◌≤◌, length}
use Rattle.x696.specs.Digits.{Below}
use Rattle.x696.specs.Value.{Val, node, Vals, node_width, size, nodes, contents, same}
use Rattle.x696.specs.Types.{Ty, missing}
use Rattle.x696.specs.Fits.{FitsComponent}
use Rattle.x696.specs.Encode.{bit, encode, own_octets}
use Rattle.x696.specs.Table.{type_of}
use Rattle.x696.specs.Path.{found, find, replace}
use Rattle.x696.specs.Apart.{Apart}
use Rattle.x696.specs.PathOrder.{Begins, Ahead}
use Rattle.x696.specs.PresencePlace.{presence_bit}
use Rattle.x696.specs.Setting.{string_size, setting_of}
use Rattle.x696.specs.Reply.{done_reply, done, then}
use Rattle.x696.specs.Operations.{node_limit, octet_limit, value_in, validate, decode, over}
use Rattle.x696.specs.Editing.{place_of, edit, read_setting, show_text, shown_octets}
use Rattle.x696.specs.Result.{is_done, result_of, decoded}
use Rattle.x696.specs.Edits.{Edits, Fine}
use Rattle.x696.specs.Component.{Component, Kept}
use Rattle.x696.specs.LongerRoad.{longer_road, SameResult}
use Rattle.x696.proofs.ApartLaws.{apart_iff}
use Rattle.x696.proofs.EditLaws.{edit_done, edit_gives, edit_same, edit_undone, edit_validates}
use Rattle.x696.proofs.LongerRoadLaws.{longer_road_lem}
use Rattle.x696.proofs.ComponentLaws.{component_found, component_order, component_kept}
use Rattle.x696.proofs.ReadingLaws.{setting_decoded, setting_found, setting_edited, setting_kept}
use Rattle.x696.proofs.ReadingLaws.{text_shown, text_else, text_kept}
use Rattle.octets.specs.Presence.{bit_at}
use Rattle.octets.specs.Touched.{Touched}
use Rattle.octets.proofs.EditTouches.{edit_touches, presence_edited}

-- an edit of the message s at the path p, with the new list ws, cs, into the lent buffer out
module _ (rows items : List ℕ) (r : ℕ) (s p ws cs out : List ℕ) (words : Below 64 items) (octets : Below 8 s)
    (words' : Below 64 ws) (octets' : Below 8 cs) where
  -- It gives what the longer road gives, and is refused exactly when that road is, for the same cause. The lists that
  -- the road lends to decode hold the largest value.
  pub edit_is_longer_road : (ns os : List ℕ) → node_limit * node_width ≤ length ns → octet_limit ≤ length os
      → SameResult (edit rows items r s p ws cs out) (longer_road rows items r s ns os p ws cs out)
  edit_is_longer_road ns os room room' =
      longer_road_lem rows items r s ns os p ws cs out words octets words' octets' room room'

  -- If it is DONE, its result is accepted again and holds the value of s with the new component in its place.
  pub edit_replaces : is_done (edit rows items r s p ws cs out).reply ≡ true
      → Edits rows items r s p ws cs (result_of (edit rows items r s p ws cs out))
  edit_replaces = edit_done rows items r s p ws cs out words octets words' octets'

-- of a message s' that an edit made of s
module _ (rows items : List ℕ) (r : ℕ) (s p ws cs s' : List ℕ) (h : Edits rows items r s p ws cs s') where
  -- It validates, with the counts of the replaced value.
  pub edited_validates : validate rows items r s'
      ≡ done_reply (size (replace p h.new h.value)) (length (contents (replace p h.new h.value)))
  edited_validates = edit_validates rows items r s p ws cs s' h

  -- Apart from the component's own octets at most one bit differs, in an octet before them: its presence bit.
  pub edit_touches_one_bit : Touched (presence_bit (type_of rows items r) h.value p) s s'
      (own_octets h.mark h.default h.its h.old) (own_octets h.mark h.default h.its h.new)
  edit_touches_one_bit = edit_touches rows items r s p ws cs s' h

  -- That bit, if the component has one, is 1 exactly if the new value is not the one that is left out: ABSENT, or the
  -- DEFAULT.
  pub presence_bit_says : (m : ℕ) → h.mark ≡ suc m
      → bit_at s' 0 (presence_bit (type_of rows items r) h.value p)
      ≡ bit (not (same h.new (missing (suc m) h.default h.its)))
  presence_bit_says m marked = presence_edited rows items r s p ws cs s' h m marked

  -- The path then leads to the new component.
  pub edited_reads : Below 64 items → read_setting rows items r s' p ≡ done (setting_of h.its h.new)
  edited_reads words = setting_edited rows items r s p ws cs s' h words

  -- The component at any path that is neither in the edited one nor around it: its octets in the new message are its
  -- octets in the old. It stands where it stood, if its path is ahead; else it moves by the change of length.
  pub neighbour_kept : (q : List ℕ) {m d start : ℕ} {u : Ty} {x : Val} → (Begins p q → ⊥) → (Begins q p → ⊥)
      → Component rows items r s q m d u x start → Kept rows items r s p ws cs s' h q m d u x start
  neighbour_kept q a b c = component_kept rows items r s p ws cs s' h q ((apart_iff p q).1 (a, b)) c

  -- So it is read and shown as before; a path that led nowhere leads nowhere.
  pub neighbour_reads : (q : List ℕ) → (Begins p q → ⊥) → (Begins q p → ⊥) → Below 64 items
      → read_setting rows items r s' q ≡ read_setting rows items r s q
  neighbour_reads q a b words = setting_kept rows items r s p ws cs s' h words q ((apart_iff p q).1 (a, b))

  pub neighbour_shown : (q : List ℕ) → (Begins p q → ⊥) → (Begins q p → ⊥) → Below 64 items → (instead : List ℕ)
      → shown_octets (show_text rows items r s' q) s' instead ≡ shown_octets (show_text rows items r s q) s instead
  neighbour_shown q a b words instead = text_kept rows items r s p ws cs s' h words q ((apart_iff p q).1 (a, b)) instead

  -- The old value again, with room for it, gives the old message.
  pub edit_undoes : (out : List ℕ) → Below 64 items → Below 8 s → length s ≤ length out
      → edit rows items r s' p (nodes h.old) (contents h.old) out
      ≡ record { reply = done_reply 0 (length s); out = over s out }
  edit_undoes out words octets room = edit_undone rows items r s p ws cs s' out words octets h room

-- of any message s that holds a value v
module _ (rows items : List ℕ) (r : ℕ) (s : List ℕ) (v : Val) (words : Below 64 items) (octets : Below 8 s)
    (holds : value_in rows items r s ≡ done v) (p : List ℕ) {m d : ℕ} {u : Ty} {x : Val}
    (leads : find (type_of rows items r) v p ≡ found m d u x) where
  -- Each component that a path finds has its octets in the message.
  pub component_stands : (start : ℕ) × Component rows items r s p m d u x start
  component_stands = (_, component_found rows items r s v p words octets holds leads)

  -- An edit with the list of a component that fits there is DONE, if the result is within its limits (`Fine`).
  pub edit_is_done : (y : Val) (out : List ℕ) → FitsComponent m d u y → Fine (type_of rows items r) (replace p y v) out
      → edit rows items r s p (nodes y) (contents y) out
      ≡ record {
        reply = done_reply 0 (length (encode (type_of rows items r) (replace p y v)));
        out = over (encode (type_of rows items r) (replace p y v)) out;
      }
  edit_is_done y out f fine = edit_gives rows items r s p out words v holds leads y f fine

  -- With the value that is there already, and room for it, it gives the same message.
  pub edit_keeps : (out : List ℕ) → length s ≤ length out
      → edit rows items r s p (nodes x) (contents x) out ≡ record { reply = done_reply 0 (length s); out = over s out }
  edit_keeps out room = edit_same rows items r s p out words octets v holds leads room

  -- A single setting is that of this component.
  pub setting_is : read_setting rows items r s p ≡ done (setting_of u x)
  setting_is = setting_found rows items r s p words v holds leads

-- Components stand in the order of their paths, one behind the other: in s as in every other message.
pub components_ordered : (rows items : List ℕ) (r : ℕ) (s : List ℕ) {p q : List ℕ} {m d start m' d' start' : ℕ}
    {u u' : Ty} {x x' : Val}
    → Ahead p q → Component rows items r s p m d u x start → Component rows items r s q m' d' u' x' start'
    → start + length (own_octets m d u x) ≤ start'
components_ordered rows items r s a c c' = component_order rows items r s a c c'

-- Two paths are apart exactly if neither begins the other.
pub apart_exactly : (p q : List ℕ) → Apart p q ↔ ((Begins p q → ⊥) × (Begins q p → ⊥))
apart_exactly p q = apart_iff p q

-- readings
module _ (rows items : List ℕ) (r : ℕ) (s p : List ℕ) where
  -- A single setting is that of a component of the value that decoding gives, or the refusal is decoding's or PATH's.
  pub setting_of_decoded : (ns os : List ℕ) → Below 64 items → Below 8 s → node_limit * node_width ≤ length ns
      → octet_limit ≤ length os
      → read_setting rows items r s p
      ≡ then (decoded (type_of rows items r) (decode rows items r s ns os)) λ v.
      then (place_of (type_of rows items r) v (find (type_of rows items r) v p)) λ c. done (setting_of c.its c.value)
  setting_of_decoded ns os words octets room room' = setting_decoded rows items r s p words ns os octets room room'

  -- A string that is shown is its contents octets, a part of the message; else the fallback is shown.
  pub text_is_shown : (v : Val) {m d : ℕ} {u : Ty} {k n c : ℕ} {os : List ℕ} {vs : Vals} → Below 64 items → Below 8 s
      → value_in rows items r s ≡ done v → find (type_of rows items r) v p ≡ found m d u (node k n os vs)
      → setting_of u (node k n os vs) ≡ string_size c → (instead : List ℕ)
      → shown_octets (show_text rows items r s p) s instead ≡ os
  text_is_shown v words octets holds leads string instead =
      text_shown rows items r s p words v holds octets leads string instead

  pub fallback_is_shown : (instead : List ℕ) → ((c : ℕ) → read_setting rows items r s p ≡ done (string_size c) → ⊥)
      → shown_octets (show_text rows items r s p) s instead ≡ instead
  fallback_is_shown instead none = text_else rows items r s p instead none
