-- One step of a path, in the octets: the component that it leads to fills a frame. Only its own octets and its presence
-- bit depend on it.
-- Assumes nothing.
use Rattle.std.specs.Prelude.{◌≡◌, refl, List, [], ◌++◌, ℕ, zero, suc, ◌+◌, length}
use Rattle.std.proofs.Common.{sym, append_assoc, append-nil, length-append}
use Rattle.x696.specs.Outcome.{choose}
use Rattle.x696.specs.Digits.{digits}
use Rattle.x696.specs.Tag.{tag_octets}
use Rattle.x696.specs.Bits.{preamble}
use Rattle.x696.specs.Variable.{variable_unsigned}
use Rattle.x696.specs.Value.{Val, node, Vals, no_values, value}
use Rattle.x696.specs.Types.{Ty, leaf, sequence, sequence_of, choice, Items, no_items, item}
use Rattle.x696.specs.Types.{presence_count, mark_count, tag_at}
use Rattle.x696.specs.Encode.{presence_bits, presence, carried_octets, each, encode, encode_components}
use Rattle.x696.specs.Encode.{encode_alternative, own_octets}
use Rattle.x696.specs.Path.{child, component_at, element_at, alternative_at, child_at, replace_at, replace_child}
use Rattle.x696.specs.Path.{components_before, elements_before, child_before}
use Rattle.x696.specs.PresencePlace.{marks_before}
use Rattle.x696.proofs.Complete.{presence_bits_length}
use Rattle.x696.specs.Frame.{Frame, leading, filled}
use Rattle.x696.proofs.ChildLaws.{no_component_lem, same_component, child_replaced, child_same, with_child_differs}

-- octets, or bits, that hold those of a component, whatever its value
pub record Holds (whole part : Val → List ℕ) (before : List ℕ) : Type 0 where
  pub after : List ℕ
  pub held : (y : Val) → whole y ≡ before ++ (part y ++ after)

behind : {whole part : Val → List ℕ} {before : List ℕ} (front : List ℕ) → Holds whole part before
    → Holds (λ y. front ++ whole y) part (front ++ before)
behind {before = before} front h =
    record { after = h.after; held = λ y. rw (h.held y) (sym (append_assoc front before _)) }

-- octets that hold a component's own
abbrev HoldsOwn : (whole : Val → List ℕ) → (before : List ℕ) → (mark default : ℕ) → Ty → Val → Type 0
HoldsOwn whole before m d u x = Holds whole (own_octets m d u) before

components_hold : (is : Items) (vs : Vals) (i : ℕ) {m d : ℕ} {u : Ty} {x : Val} → component_at is vs i ≡ child m d u x
    → HoldsOwn (λ y. encode_components is (replace_at i y vs)) (components_before is vs i) m d u x
unfolding component_at replace_at encode_components own_octets components_before
components_hold no_items vs i e = absurd (no_component_lem e)
components_hold (item m d t is) no_values i e = absurd (no_component_lem e)
components_hold (item m d t is) (value v vs) zero e =
    same_component (HoldsOwn _ _) e
    (record { after = encode_components is vs; held = λ y. refl })
components_hold (item m d t is) (value v vs) (suc i) e = behind (own_octets m d t v) (components_hold is vs i e)

-- presence bits, with those before a component's own
abbrev pub HoldsBit : (whole : Val → List ℕ) → (number mark default : ℕ) → Ty → Val → Type 0
HoldsBit whole n m d u x = (left : List ℕ) × (length left ≡ n) × Holds whole (presence_bits m d u) left

pub bits_hold : (is : Items) (vs : Vals) (i : ℕ) {m d : ℕ} {u : Ty} {x : Val} → component_at is vs i ≡ child m d u x
    → HoldsBit (λ y. presence is (replace_at i y vs)) (marks_before is i) m d u x
unfolding component_at replace_at presence marks_before
bits_hold no_items vs i e = absurd (no_component_lem e)
bits_hold (item m d t is) no_values i e = absurd (no_component_lem e)
bits_hold (item m d t is) (value v vs) zero e =
    same_component (HoldsBit _ _) e
    ([], refl, record { after = presence is vs; held = λ y. refl })
bits_hold (item m d t is) (value v vs) (suc i) e =
    let (left, n, h) = bits_hold is vs i e in
    let n' : length (presence_bits m d t v ++ left) ≡ presence_count m + marks_before is i =
    rw (length-append (presence_bits m d t v) left, presence_bits_length m d t v, n) in
    (presence_bits m d t v ++ left, n', behind (presence_bits m d t v) h)

elements_hold : (t : Ty) (vs : Vals) (i : ℕ) {m d : ℕ} {u : Ty} {x : Val} → element_at t vs i ≡ child m d u x
    → HoldsOwn (λ y. each (λ v. encode t v) (replace_at i y vs)) (elements_before t vs i) m d u x
unfolding element_at replace_at each own_octets carried_octets elements_before
elements_hold t no_values i e = absurd (no_component_lem e)
elements_hold t (value v vs) zero e =
    same_component (HoldsOwn _ _) e
    (record { after = each (λ v. encode t v) vs; held = λ y. refl })
elements_hold t (value v vs) (suc i) e = behind (encode t v) (elements_hold t vs i e)

alternative_holds : (is : Items) (n : ℕ) (vs : Vals) (i : ℕ) {m d : ℕ} {u : Ty} {x : Val}
    → alternative_at is n vs i ≡ child m d u x
    → HoldsOwn (λ y. encode_alternative is n (replace_at i y vs)) (tag_octets (tag_at is n)) m d u x
unfolding alternative_at replace_at encode_alternative own_octets carried_octets tag_at
alternative_holds no_items n vs i e = absurd (no_component_lem e)
alternative_holds (item a b t is) n no_values i e = absurd (no_component_lem e)
alternative_holds (item a b t is) zero (value v vs) zero e =
    same_component (HoldsOwn _ _) e
    (record { after = []; held = λ y. rw (append-nil (encode t y)) })
alternative_holds (item a b t is) zero (value v vs) (suc i) e = absurd (no_component_lem e)
alternative_holds (item a b t is) (suc n) (value v vs) zero e = alternative_holds is n (value v vs) zero e
alternative_holds (item a b t is) (suc n) (value v vs) (suc i) e = alternative_holds is n (value v vs) (suc i) e

-- ---- a component x, the octets before its own, and the whole with any other in its place: one frame
pub record Framed (before : List ℕ) (whole : Val → List ℕ) (m d : ℕ) (u : Ty) (x : Val) : Type 0 where
  pub frame : Frame
  pub leads : before ≡ leading frame m d u x
  pub fills : (y : Val) → whole y ≡ filled frame m d u y

-- a component without a presence bit
bare : {before : List ℕ} {whole : Val → List ℕ} (m d : ℕ) (u : Ty) (x : Val) → Holds whole (own_octets m d u) before
    → Framed before whole m d u x
unfolding leading filled preamble digits
bare {before = before} m d u x h =
    record {
      frame = record { before = []; bits = 0; left = []; right = []; between = before; after = h.after };
      leads = refl;
      fills = h.held;
    }

-- a component alone
pub alone : (m d : ℕ) (u : Ty) (x : Val) → Framed [] (own_octets m d u) m d u x
alone m d u x = bare m d u x (record { after = []; held = λ y. sym (append-nil (own_octets m d u y)) })

pub child_framed : (t : Ty) (v : Val) (i : ℕ) {m d : ℕ} {u : Ty} {x : Val} → child_at t v i ≡ child m d u x
    → Framed (child_before t v i) (λ y. encode t (replace_child i y v)) m d u x
unfolding child_at replace_child encode child_before leading filled
child_framed (leaf l) v i e = absurd (no_component_lem e)
child_framed (sequence is) (node k n os vs) i {x = x} e =
    let g = components_hold is vs i e in
    let (left, number, b) = bits_hold is vs i e in
    let s = child_same (sequence is) (node k n os vs) i e in
    let q : presence is vs ≡ presence is (replace_at i x vs) = cc in
    record {
      frame = record {
        before = [];
        bits = mark_count is;
        left = left;
        right = b.after;
        between = components_before is vs i;
        after = g.after;
      };
      leads = rw (q, b.held x);
      fills = λ y. rw (b.held y, g.held y) (simp append_assoc);
    }
child_framed (sequence_of t) (node k n os vs) i e = bare _ _ _ _ (behind (variable_unsigned n) (elements_hold t vs i e))
child_framed (choice is) (node k n os vs) i e = bare _ _ _ _ (alternative_holds is n vs i e)

-- ---- a value with a component, as a component itself: it is carried, and its presence bit does not depend on its own
-- components
pub with_child_octets : (m d : ℕ) (t : Ty) (v : Val) (i : ℕ) {m' d' : ℕ} {u : Ty} {x : Val}
    → child_at t v i ≡ child m' d' u x → own_octets m d t v ≡ encode t v
unfolding own_octets carried_octets choose
with_child_octets zero d t v i e = refl
with_child_octets (suc m) d t v i e = rw (with_child_differs (suc m) d t v i e)

pub with_child_bits : (m d : ℕ) (t : Ty) (v : Val) (i : ℕ) {m' d' : ℕ} {u : Ty} {x : Val}
    → child_at t v i ≡ child m' d' u x → (y : Val) → presence_bits m d t (replace_child i y v) ≡ presence_bits m d t v
unfolding presence_bits
with_child_bits zero d t v i e y = refl
with_child_bits (suc m) d t v i e y =
    let new = with_child_differs (suc m) d t (replace_child i y v) i (child_replaced t v i e y) in
    rw (with_child_differs (suc m) d t v i e, new)
