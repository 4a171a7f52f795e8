-- A component that was found: the new message around another in its place, its presence bit, and what the whole holds
-- of it.
-- Assumes nothing.
use mathlib.Core.Path.{◌≡◌, refl, sym, ◌∙◌}
use mathlib.Core.Bool.{true, not}
use mathlib.Core.List.{List, [], ◌∷◌}
use Prim.Native.Nat.{ℕ, zero, suc, ◌+◌, ◌/◌, ◌^◌, ◌<◌, ◌≤◌}
use native.Mathlib.Omega.{arith}
use lib.ListN.{length}
use borrow.Author.Tests.{ne_eqb}
use Rattle.x696.specs.Value.{Val, node, absent, size, same}
use Rattle.x696.specs.Types.{Ty, missing}
use Rattle.x696.specs.Fits.{Fits}
use Rattle.x696.specs.Encode.{presence_bits, encode, own_octets}
use Rattle.x696.specs.Path.{found, find, replace, octets_before}
use Rattle.x696.proofs.PathLaws.{size_replaced}
use Rattle.x696.specs.PresencePlace.{preamble_start, bit_number}
use Rattle.x696.specs.Table.{type_of}
use Rattle.x696.specs.TableCheck.{default_sound}
use Rattle.x696.specs.Editing.{place_in}
use Rattle.octets.proofs.EditBits.{before_inside, spliced_marked, spliced_kept}
use Rattle.finding.specs.Following.{preamble_from, bit_from}
use Rattle.finding.specs.Placing.{Placed}
use Rattle.finding.specs.declared.spot.Spot.{Spot}
use Rattle.finding.specs.declared.spot.Way.{Way}
use Rattle.editing.specs.Splicing.{spliced_octets}

-- ---- what a whole path tells of the presence bit
pub start_is : (t : Ty) (v : Val) (p : List ℕ) → preamble_from 0 0 t v p ≡ preamble_start t v p
unfolding preamble_from preamble_start
start_is t v [] = refl
start_is t v (i ∷ p) = omega arith

pub number_is : (t : Ty) (v : Val) (p : List ℕ) → bit_from 0 t v p ≡ bit_number t v p
unfolding bit_from bit_number
number_is t v [] = refl
number_is t v (i ∷ p) = refl

some_node : (v : Val) → 1 ≤ size v
unfolding size
some_node (node k n os vs) = omega arith

-- ---- the new message
module _ (t : Ty) (v : Val) (p msg : List ℕ) (whole : msg ≡ encode t v) (fits : Fits t v) (y : Val) (s : Spot)
    (start : s.start ≡ length (octets_before t v p)) (pre : s.pre ≡ preamble_start t v p)
    (bit : s.bit ≡ bit_number t v p) where
  pub spliced_is : (m d : ℕ) (u : Ty) (x : Val) → find t v p ≡ found m d u x → s.component.mark ≡ m
      → s.end ≡ s.start + length (own_octets m d u x)
      → spliced_octets s (own_octets m d u y) msg (not (same y (missing m d u))) ≡ encode t (replace p y v)
  unfolding spliced_octets presence_bits
  spliced_is zero d u x e em end =
      rw (em, end, start) (sym (spliced_kept t v p msg whole y e refl))
  spliced_is (suc m) d u x e em end =
      rw (em, ne_eqb (suc m) 0 (λ z. omega arith), end, start, pre, bit)
      (sym (spliced_marked t v p msg whole y fits e))

  pub bit_inside : (m d : ℕ) (u : Ty) (x : Val) → find t v p ≡ found m d u x → (m ≡ 0 → ⊥)
      → s.pre + s.bit / 8 < s.start
  bit_inside zero d u x e h = absurd (h refl)
  bit_inside (suc m) d u x e h = rw (pre, bit, start) (before_inside t v p fits e)

-- ---- what a component that was found tells
module _ (rows items : List ℕ) (row : ℕ) (msg path : List ℕ) {w : Way}
    (h : Placed rows items row msg path (place_in rows items row msg path) w) where
  abbrev s : Spot
  s = w.spot

  abbrev t : Ty
  t = type_of rows items row

  abbrev u : Ty
  u = type_of rows items s.component.row

  abbrev x : Val
  x = h.spot.value

  pub finds : find t h.whole path ≡ found s.component.mark s.component.given u x
  unfolding find
  finds = h.spot.finds

  pub given_sound : 1 < s.component.mark → default_sound u s.component.given ≡ true
  given_sound l = h.spot.fitting.1 (omega (arith, h.spot.fitting.0))

  pub marked_inside : (s.component.mark ≡ 0 → ⊥) → s.pre < 2 ^ 48
  marked_inside m =
      let start : s.start ≡ length (octets_before t h.whole path) = omega (arith, h.spot.start) in
      let pre = h.spot.preamble ∙ start_is t h.whole path in
      let bit = h.spot.bit ∙ number_is t h.whole path in
      let inside = bit_inside t h.whole path msg h.encodes h.fits x s start pre bit _ _ _ _ finds m in
      omega (arith, inside, h.spot.end, h.inside, h.short)

  -- the old component is a part of the whole
  pub nodes_held : s.nodes ≤ w.count
  unfolding size
  nodes_held =
      let e = size_replaced t h.whole path finds absent in
      let some = some_node (replace path absent h.whole) in
      omega (arith, e, some, h.spot.nodes, h.count)

  pub octets_held : (s.start ≤ s.end) × (s.end ≤ length msg)
  octets_held = (omega (arith, h.spot.end), h.inside)
