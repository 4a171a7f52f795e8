-- What an edit changes in the octets of a message: a component's own octets, and at most one presence bit. So the
-- length changes by that of its own octets, and the component at every path apart from it keeps its own octets.
-- Assumes nothing.
use Rattle.std.specs.Prelude.{◌≡◌, ℕ, ◌+◌, length, take, drop}
use Rattle.std.proofs.Common.{ap, sym, ◌∙◌, arith, length-append, take_at}
use mathlib.Core.List.{List, [], ◌∷◌, ◌++◌, append_assoc, append-nil}
use Rattle.std.proofs.Math.Seq.{take-append_seam, drop-append_seam, drop-append-add}
use Rattle.x696.specs.Bits.{preamble}
use Rattle.x696.proofs.DigitsLaws.{digits_length}
use Rattle.x696.specs.Value.{Val}
use Rattle.x696.specs.Types.{Ty}
use Rattle.x696.specs.Encode.{presence_bits, carried_octets, encode, own_octets}
use Rattle.x696.specs.Path.{through, found, find_from, find, replace_child, child_value, replace}
use Rattle.x696.specs.Path.{child_before, octets_before}
use Rattle.x696.specs.Apart.{Apart}
use Rattle.x696.specs.Frame.{Frame, leading, filled}
use Rattle.x696.proofs.ChildLaws.{child_value_lem, child_replaced}
use Rattle.x696.proofs.ChildOctets.{Framed, alone, child_framed, with_child_octets, with_child_bits}
use Rattle.x696.proofs.PathLaws.{same_found, step_inv, inner_same, find_replaced, replace_same, others_keep}
use Rattle.x696.proofs.BeforeLaws.{before_length}

-- the octets of a message before and after an edit: one frame, filled with the old component and with the new one
pub record Changed (old new : List ℕ) (m d : ℕ) (u : Ty) (x y : Val) : Type 0 where
  pub frame : Frame
  pub was : old ≡ filled frame m d u x
  pub is : new ≡ filled frame m d u y

-- the component that a path finds, and its own octets in the message
pub record Stands (t : Ty) (v : Val) (p : List ℕ) (m d : ℕ) (u : Ty) (x : Val) : Type 0 where
  pub finds : find t v p ≡ found m d u x
  pub octets : take (length (own_octets m d u x)) (drop (length (octets_before t v p)) (encode t v)) ≡ own_octets m d u x

-- ---- a frame within a frame, whose component z it frames: what fills the inner one fills both
unfoldable nested : (outer inner : Frame) → (mark default : ℕ) → Ty → Val → Frame
nested o f m d t z =
    record {
      before = leading o m d t z ++ f.before;
      bits = f.bits;
      left = f.left;
      right = f.right;
      between = f.between;
      after = f.after ++ o.after;
    }

module _ (o f : Frame) (m d : ℕ) (t : Ty) (z : Val) (m' d' : ℕ) (u : Ty) where
  nested_leading : (x : Val) → leading o m d t z ++ leading f m' d' u x ≡ leading (nested o f m d t z) m' d' u x
  unfolding leading nested
  nested_leading x = simp append_assoc

  nested_filled : (y w : Val) → presence_bits m d t w ≡ presence_bits m d t z → own_octets m d t w ≡ filled f m' d' u y
      → filled o m d t w ≡ filled (nested o f m d t z) m' d' u y
  unfolding leading filled nested
  nested_filled y w same_bits fills = rw (same_bits, fills) (simp append_assoc)

path_framed : (m d : ℕ) (t : Ty) (v : Val) (p : List ℕ) {m' d' : ℕ} {u : Ty} {x : Val}
    → find_from m d t v p ≡ found m' d' u x
    → Framed (octets_before t v p) (λ y. own_octets m d t (replace p y v)) m' d' u x
unfolding find_from through replace octets_before
path_framed m d t v [] e = same_found (Framed [] (own_octets m d t)) e (alone m d t v)
path_framed m d t v (i ∷ []) e =
    step_inv m d t v i [] e λ m₁ d₁ t₁ v₁ c q.
    let o = child_framed t v i c in
    same_found (Framed _ _) q (record {
      frame = o.frame;
      leads = rw (c, append-nil (child_before t v i)) o.leads;
      fills = λ y. with_child_octets m d t _ i (child_replaced t v i c y) ∙ o.fills y;
    })
path_framed m d t v (i ∷ j ∷ p) {m'} {d'} {u} {x} e =
    step_inv m d t v i (j ∷ p) e λ m₁ d₁ t₁ v₁ c q.
    step_inv m₁ d₁ t₁ v₁ j p q λ m₂ d₂ t₂ v₂ c₂ q₂.
    let o = child_framed t v i c in
    let g = path_framed m₁ d₁ t₁ v₁ (j ∷ p) q in
    record {
      frame = nested o.frame g.frame m₁ d₁ t₁ v₁;
      leads = rw (c, o.leads, g.leads) (nested_leading o.frame g.frame m₁ d₁ t₁ v₁ m' d' u x);
      fills = λ y.
          let w = replace (j ∷ p) y v₁ in
          let carried = with_child_octets m d t (replace_child i w v) i (child_replaced t v i c w) in
          let same_bits = with_child_bits m₁ d₁ t₁ v₁ j c₂ (replace p y (child_value j v₁)) in
          rw (child_value_lem t v i c, carried, o.fills w)
          (nested_filled o.frame g.frame m₁ d₁ t₁ v₁ m' d' u y w same_bits (g.fills y));
    }

-- ---- the component that a path finds
leading_length : (f : Frame) (m d : ℕ) (u : Ty) (x y : Val) → length (leading f m d u x) ≡ length (leading f m d u y)
unfolding leading preamble
leading_length f m d u x y = simp (length-append, digits_length)

-- a component inside a component, both with their marks: it stands in the other's octets, and changes their length by
-- that of its own
module _ (m d : ℕ) (t : Ty) (v : Val) (p : List ℕ) {m' d' : ℕ} {u : Ty} {x : Val}
    (e : find_from m d t v p ≡ found m' d' u x) where
  inner_filled : own_octets m d t v ≡ filled (path_framed m d t v p e).frame m' d' u x
  inner_filled = ap (own_octets m d t) (sym (inner_same m d t v p e)) ∙ (path_framed m d t v p e).fills x

  pub inner_stands : (after : List ℕ) × (own_octets m d t v ≡ octets_before t v p ++ (own_octets m' d' u x ++ after))
  unfolding filled
  inner_stands = let f = path_framed m d t v p e in (f.frame.after, rw f.leads inner_filled)

  pub inner_length : (y : Val)
      → length (own_octets m d t (replace p y v)) + length (own_octets m' d' u x)
      ≡ length (own_octets m d t v) + length (own_octets m' d' u y)
  unfolding filled
  inner_length y =
      let f = path_framed m d t v p e in
      let h = leading_length f.frame m' d' u x y in
      simp (inner_filled, f.fills y, length-append) (omega arith)

module _ (t : Ty) (v : Val) (p : List ℕ) {m d : ℕ} {u : Ty} {x : Val} (e : find t v p ≡ found m d u x) where
  framed : Framed (octets_before t v p) (λ y. encode t (replace p y v)) m d u x
  unfolding find own_octets carried_octets
  framed = path_framed 0 0 t v p e

  old_filled : encode t v ≡ filled framed.frame m d u x
  old_filled = ap (encode t) (sym (replace_same t v p e)) ∙ framed.fills x

  -- its own octets stand in the message behind octets_before
  pub own_stands : (after : List ℕ) × (encode t v ≡ octets_before t v p ++ (own_octets m d u x ++ after))
  unfolding filled
  own_stands = (framed.frame.after, rw framed.leads old_filled)

  -- so they are a part of the message
  pub stands : Stands t v p m d u x
  stands =
      let (after, h) = own_stands in
      record { finds = e; octets = rw (h, drop-append_seam, take-append_seam) }

  -- an edit changes its own octets and at most its presence bit
  pub edit_changes : (y : Val) → Changed (encode t v) (encode t (replace p y v)) m d u x y
  edit_changes y = record { frame = framed.frame; was = old_filled; is = framed.fills y }

  -- so the length changes by that of its own octets
  pub length_replaced : (y : Val)
      → length (encode t (replace p y v)) + length (own_octets m d u x)
      ≡ length (encode t v) + length (own_octets m d u y)
  unfolding filled
  length_replaced y =
      let c = edit_changes y in
      let h = leading_length c.frame m d u x y in
      simp (c.was, c.is, length-append) (omega arith)

-- lists that begin with the same octets up to one length
same_front : (a b c d : List ℕ) → length a ≡ length b → a ++ c ≡ b ++ d → a ≡ b
same_front a b c d n e = sym (take_at a c (length b) n) ∙ (ap (take (length b)) e ∙ take-append_seam b d)

-- a component's octets stand behind those before it, and the same follows them whatever the component is
pub parts_replaced : (t : Ty) (v : Val) (p : List ℕ) {m d : ℕ} {u : Ty} {x : Val} → find t v p ≡ found m d u x
    → (y : Val)
    → (after : List ℕ) × (encode t v ≡ octets_before t v p ++ (own_octets m d u x ++ after))
    × (encode t (replace p y v) ≡ octets_before t (replace p y v) p ++ (own_octets m d u y ++ after))
unfolding filled
parts_replaced t v p {m} {d} {u} {x} e y =
    let g = framed t v p e in
    let f = g.frame in
    let (after, new) = own_stands t (replace p y v) p (find_replaced t v p e y) in
    let n : length (leading f m d u y) ≡ length (octets_before t (replace p y v) p) =
    leading_length f m d u y x ∙ (ap length (sym g.leads) ∙ sym (before_length t v p e y)) in
    let front = same_front (leading f m d u y) (octets_before t (replace p y v) p) _ _ n (sym (g.fills y) ∙ new) in
    (f.after, rw g.leads (old_filled t v p e), g.fills y ∙ rw front)

behind_both : (a b c : List ℕ) → drop (length a + length b) (a ++ (b ++ c)) ≡ c
behind_both a b c = drop-append-add a (b ++ c) (length b) ∙ drop-append_seam b c

-- so the new message is the old one with the component's octets exchanged, and its front changed at most in a presence
-- bit
module _ (t : Ty) (v : Val) (p : List ℕ) {m d : ℕ} {u : Ty} {x : Val} (e : find t v p ≡ found m d u x) where
  pub before_part : octets_before t v p ≡ take (length (octets_before t v p)) (encode t v)
  before_part = let (after, h) = own_stands t v p e in rw h (sym (take-append_seam (octets_before t v p) _))

  pub spliced : (y : Val)
      → encode t (replace p y v)
      ≡ octets_before t (replace p y v) p
      ++ (own_octets m d u y ++ drop (length (octets_before t v p) + length (own_octets m d u x)) (encode t v))
  spliced y =
      let (after, old, new) = parts_replaced t v p e y in
      new ∙ rw (old, behind_both (octets_before t v p) (own_octets m d u x) after)

-- the component at every other path stays, with its own octets in the message before and after
pub neighbour_keeps : (t : Ty) (v : Val) {p q : List ℕ} {m d m' d' : ℕ} {u u' : Ty} {x x' : Val} → Apart p q
    → find t v p ≡ found m d u x → find t v q ≡ found m' d' u' x'
    → (y : Val) → Stands t v q m' d' u' x' × Stands t (replace p y v) q m' d' u' x'
neighbour_keeps t v {p} {q} a e h y = (stands t v q h, stands t (replace p y v) q (others_keep t v p e a y ∙ h))
