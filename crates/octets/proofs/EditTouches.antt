-- An edit that is DONE touches its component's own octets and at most one presence bit.
-- Assumes nothing.
use mathlib.Core.Path.{◌≡◌, refl, ◌∙◌}
use mathlib.Core.Bool.{Bool, not}
use mathlib.Core.List.{List, ◌++◌}
use Prim.Native.Nat.{ℕ, zero, suc, ◌+◌, ◌*◌, ◌/◌, ◌%◌, ◌<◌}
use native.Mathlib.Omega.{arith}
use lib.ListN.{length, get_or-append}
use Rattle.x696.specs.Value.{Val, same}
use Rattle.x696.specs.Types.{Ty, missing}
use Rattle.x696.specs.Fits.{Fits}
use Rattle.x696.specs.Encode.{bit, presence_bits, encode, own_octets}
use Rattle.x696.specs.Table.{type_of}
use Rattle.x696.specs.Path.{found, find, replace, octets_before}
use Rattle.x696.specs.PresencePlace.{preamble_start, bit_number, presence_bit}
use Rattle.x696.specs.Edits.{Edits}
use Rattle.x696.proofs.PathLaws.{replace_fits, find_replaced, replace_same}
use Rattle.x696.proofs.BeforeLaws.{before_kept, presence_place_kept}
use Rattle.x696.proofs.Locality.{own_stands, parts_replaced}
use Rattle.octets.specs.Presence.{bit_at, set_bit}
use Rattle.octets.specs.Touched.{OneBit, Touched}
use Rattle.octets.proofs.OneBit.{set_bit_length, set_bit_own, set_bit_others}
use Rattle.octets.proofs.EditBits.{before_set, before_inside}

-- octets with one bit set or cleared
one_bit : (s : List ℕ) {s' : List ℕ} (pre b : ℕ) (x : Bool) → s' ≡ set_bit s pre b x → OneBit (8 * pre + b) s s'
one_bit s pre b x e = rw e (record { aligned = set_bit_length s pre b x; others = set_bit_others s pre b x })

before_touched : (t : Ty) (v : Val) (p : List ℕ) (m : ℕ) {d : ℕ} {u : Ty} {x : Val} → Fits t v
    → find t v p ≡ found m d u x → (y : Val)
    → OneBit (presence_bit t v p) (octets_before t v p) (octets_before t (replace p y v) p)
unfolding presence_bits presence_bit
before_touched t v p zero f e y =
    rw (before_kept t v p e y refl) (record { aligned = refl; others = λ c n. refl })
before_touched t v p (suc m) f e y = one_bit (octets_before t v p) _ _ _ (before_set t v p f e y)

-- bits by their place in a preamble, and numbered through
bit_numbered : (s : List ℕ) (pre b : ℕ) → bit_at s 0 (8 * pre + b) ≡ bit_at s pre b
unfolding bit_at
bit_numbered s pre b =
    let k : 0 + (8 * pre + b) / 8 ≡ pre + b / 8 = omega arith in
    let j : (8 * pre + b) % 8 ≡ b % 8 = omega arith in
    rw (k, j)

bit_in_front : (a c : List ℕ) (pre b : ℕ) → pre + b / 8 < length a → bit_at (a ++ c) pre b ≡ bit_at a pre b
unfolding bit_at
bit_in_front a c pre b h = rw (get_or-append a c 0 (pre + b / 8) h)

-- the presence bit of a component with a mark: 1 exactly if it differs from the value that it has if it is not carried
pub presence_says : (t : Ty) (v : Val) (p : List ℕ) {m d : ℕ} {u : Ty} {x : Val} → Fits t v
    → find t v p ≡ found (suc m) d u x
    → bit_at (encode t v) 0 (presence_bit t v p) ≡ bit (not (same x (missing (suc m) d u)))
unfolding presence_bit
presence_says t v p {m} {d} {u} {x} f e =
    let (after, stands) = own_stands t v p e in
    let inside = before_inside t v p f e in
    let own = set_bit_own (octets_before t v p) _ _ (not (same x (missing (suc m) d u))) inside in
    let here = rw (← before_set t v p f e x, replace_same t v p e) at own in
    let front = bit_in_front (octets_before t v p) _ (preamble_start t v p) (bit_number t v p) inside in
    rw stands (bit_numbered _ (preamble_start t v p) (bit_number t v p) ∙ (front ∙ here))

module _ (rows items : List ℕ) (r : ℕ) (s p ws cs s' : List ℕ) (h : Edits rows items r s p ws cs s') where
  abbrev T : Ty
  T = type_of rows items r

  -- in the new message
  pub presence_edited : (m : ℕ) → h.mark ≡ suc m
      → bit_at s' 0 (presence_bit T h.value p) ≡ bit (not (same h.new (missing (suc m) h.default h.its)))
  presence_edited m marked =
      let new = find_replaced T h.value p h.finds h.new in
      let fits = replace_fits T h.value p h.finds h.typed h.new h.fits in
      rw (h.after, ← presence_place_kept T h.value p h.finds h.new)
      (presence_says T (replace p h.new h.value) p fits (rw marked at new))

  pub edit_touches : Touched (presence_bit T h.value p) s s' (own_octets h.mark h.default h.its h.old)
      (own_octets h.mark h.default h.its h.new)
  edit_touches =
      let (after, old, new) = parts_replaced T h.value p h.finds h.new in
      record {
        before = octets_before T h.value p;
        before' = octets_before T (replace p h.new h.value) p;
        after = after;
        was = h.before ∙ old;
        is = h.after ∙ new;
        bit = before_touched T h.value p h.mark h.typed h.finds h.new;
      }
