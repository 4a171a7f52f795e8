-- The octets before a component, with another component in its place: the same, but for its presence bit.
-- Assumes nothing.
use Rattle.std.specs.Prelude.{◌≡◌, length}
use Rattle.std.proofs.Math.Path.{refl, sym}
use Rattle.std.proofs.Common.{ap, ap₂, ◌∙◌, arith}
use mathlib.Core.List.{List, [], ◌∷◌, ◌++◌}
use Prim.Native.Nat.{ℕ, zero, suc, ◌+◌, ◌≤◌}
use Rattle.std.proofs.Math.ListN.{length-append}
use Rattle.x696.specs.Bits.{bit_octets, preamble}
use Rattle.x696.proofs.BitsLaws.{preamble_length}
use Rattle.x696.specs.Value.{Val, node, Vals, no_values, value}
use Rattle.x696.specs.Types.{Ty, leaf, sequence, sequence_of, choice, Items, no_items, item, mark_count}
use Rattle.x696.specs.Encode.{presence_bits, presence, encode, own_octets}
use Rattle.x696.specs.Path.{child, component_at, child_at, through, found, find_from, find}
use Rattle.x696.specs.Path.{replace_at, replace_child, child_value, replace, components_before, elements_before}
use Rattle.x696.specs.Path.{child_before, octets_before}
use Rattle.x696.specs.PresencePlace.{preamble_start, bit_number, presence_bit}
use Rattle.x696.proofs.ChildLaws.{no_component_lem, child_value_lem, child_replaced, child_same}
use Rattle.x696.proofs.ChildOctets.{bits_hold, with_child_bits}
use Rattle.x696.proofs.PathLaws.{same_found, step_inv}

-- ---- one step
-- what stands before a component does not depend on it, nor on those behind it
pub components_before_kept : (is : Items) (vs : Vals) (i j : ℕ) (y : Val) → j ≤ i
    → components_before is (replace_at i y vs) j ≡ components_before is vs j
unfolding components_before replace_at
components_before_kept no_items vs i j y h = refl
components_before_kept (item m d t is) no_values i j y h = refl
components_before_kept (item m d t is) (value v vs) zero zero y h = refl
components_before_kept (item m d t is) (value v vs) zero (suc j) y h = absurd (omega arith)
components_before_kept (item m d t is) (value v vs) (suc i) zero y h = refl
components_before_kept (item m d t is) (value v vs) (suc i) (suc j) y h =
    ap (λ z. own_octets m d t v ++ z) (components_before_kept is vs i j y (omega arith))

elements_before_kept : (t : Ty) (vs : Vals) (i j : ℕ) (y : Val) → j ≤ i
    → elements_before t (replace_at i y vs) j ≡ elements_before t vs j
unfolding elements_before replace_at
elements_before_kept t no_values i j y h = refl
elements_before_kept t (value v vs) zero zero y h = refl
elements_before_kept t (value v vs) zero (suc j) y h = absurd (omega arith)
elements_before_kept t (value v vs) (suc i) zero y h = refl
elements_before_kept t (value v vs) (suc i) (suc j) y h =
    ap (λ z. encode t v ++ z) (elements_before_kept t vs i j y (omega arith))

pub presence_same : (is : Items) (vs : Vals) (i : ℕ) {m d : ℕ} {u : Ty} {x : Val} → component_at is vs i ≡ child m d u x
    → presence is vs ≡ presence is (replace_at i x vs)
unfolding child_at replace_child
presence_same is vs i e = let s = child_same (sequence is) (node 10 0 [] vs) i e in cc

pub child_before_kept : (t : Ty) (v : Val) (i : ℕ) {m d : ℕ} {u : Ty} {x : Val} → child_at t v i ≡ child m d u x
    → (y : Val) → presence_bits m d u y ≡ presence_bits m d u x
    → child_before t (replace_child i y v) i ≡ child_before t v i
unfolding child_at replace_child child_before
child_before_kept (leaf l) v i e y s = absurd (no_component_lem e)
child_before_kept (sequence is) (node k n os vs) i {x = x} e y s =
    let (left, number, b) = bits_hold is vs i e in
    rw (b.held y, s, ← b.held x, ← presence_same is vs i e, components_before_kept is vs i i y (omega arith))
child_before_kept (sequence_of t) (node k n os vs) i e y s = rw (elements_before_kept t vs i i y (omega arith))
child_before_kept (choice is) (node k n os vs) i e y s = refl

-- a preamble's length does not depend on its bits
pub preamble_before : (n : ℕ) (bits rest : List ℕ) → length (preamble n bits ++ rest) ≡ bit_octets n + length rest
preamble_before n bits rest = rw (length-append (preamble n bits) rest, preamble_length n bits)

pub child_before_length : (t : Ty) (v : Val) (i j : ℕ) (y : Val) → j ≤ i
    → length (child_before t (replace_child i y v) j) ≡ length (child_before t v j)
unfolding replace_child child_before
child_before_length (leaf l) v i j y h = refl
child_before_length (sequence is) (node k n os vs) i j y h =
    rw (
      preamble_before (mark_count is) (presence is (replace_at i y vs)) (components_before is (replace_at i y vs) j),
      preamble_before (mark_count is) (presence is vs) (components_before is vs j),
      components_before_kept is vs i j y h,
    )
child_before_length (sequence_of t) (node k n os vs) i j y h = rw (elements_before_kept t vs i j y h)
child_before_length (choice is) (node k n os vs) i j y h = refl

-- ---- what a step adds
module _ (t : Ty) (v : Val) (i : ℕ) {m d : ℕ} {u : Ty} {x : Val} (c : child_at t v i ≡ child m d u x) where
  pub before_step : (p : List ℕ) → octets_before t v (i ∷ p) ≡ child_before t v i ++ octets_before u x p
  unfolding octets_before through
  before_step p = rw c

  pub start_step : (j : ℕ) (p : List ℕ)
      → preamble_start t v (i ∷ j ∷ p) ≡ length (child_before t v i) + preamble_start u x (j ∷ p)
  unfolding preamble_start through
  start_step j p = rw c

  pub number_step : (j : ℕ) (p : List ℕ) → bit_number t v (i ∷ j ∷ p) ≡ bit_number u x (j ∷ p)
  unfolding bit_number through
  number_step j p = rw c

-- ---- a path
module _ {m' d' : ℕ} {u : Ty} {x : Val} (y : Val) where
  -- a component's presence bit, with another component inside it
  inner_bits : (m d : ℕ) (t : Ty) (v : Val) (p : List ℕ) → find_from m d t v p ≡ found m' d' u x
      → presence_bits m' d' u y ≡ presence_bits m' d' u x
      → presence_bits m d t (replace p y v) ≡ presence_bits m d t v
  unfolding find_from replace
  inner_bits m d t v [] e s =
      same_found
      (λ m' d' u x. presence_bits m' d' u y ≡ presence_bits m' d' u x → presence_bits m d t y ≡ presence_bits m d t v) e
      (λ s. s) s
  inner_bits m d t v (i ∷ p) e s =
      step_inv m d t v i p e λ m₁ d₁ t₁ v₁ c q.
      with_child_bits m d t v i c (replace p y (child_value i v))

  inner_before_kept : (m d : ℕ) (t : Ty) (v : Val) (p : List ℕ) → find_from m d t v p ≡ found m' d' u x
      → presence_bits m' d' u y ≡ presence_bits m' d' u x
      → octets_before t (replace p y v) p ≡ octets_before t v p
  unfolding find_from replace octets_before through
  inner_before_kept m d t v [] e s = refl
  inner_before_kept m d t v (i ∷ p) e s =
      step_inv m d t v i p e λ m₁ d₁ t₁ v₁ c q.
      rw (
        child_value_lem t v i c,
        child_replaced t v i c (replace p y v₁),
        c,
        child_before_kept t v i c (replace p y v₁) (inner_bits m₁ d₁ t₁ v₁ p q s),
        inner_before_kept m₁ d₁ t₁ v₁ p q s,
      )

  inner_before_length : (m d : ℕ) (t : Ty) (v : Val) (p : List ℕ) → find_from m d t v p ≡ found m' d' u x
      → length (octets_before t (replace p y v) p) ≡ length (octets_before t v p)
  unfolding find_from replace octets_before through
  inner_before_length m d t v [] e = refl
  inner_before_length m d t v (i ∷ p) e =
      step_inv m d t v i p e λ m₁ d₁ t₁ v₁ c q.
      let w = replace p y v₁ in
      rw (
        child_value_lem t v i c,
        child_replaced t v i c w,
        c,
        length-append (child_before t (replace_child i w v) i) _,
        length-append (child_before t v i) _,
        child_before_length t v i i w (omega arith),
        inner_before_length m₁ d₁ t₁ v₁ p q,
      )

  -- where its presence bit stands
  inner_start_kept : (m d : ℕ) (t : Ty) (v : Val) (p : List ℕ) → find_from m d t v p ≡ found m' d' u x
      → preamble_start t (replace p y v) p ≡ preamble_start t v p
  unfolding find_from replace preamble_start
  inner_start_kept m d t v [] e = refl
  inner_start_kept m d t v (i ∷ []) e = refl
  inner_start_kept m d t v (i ∷ j ∷ p) e =
      step_inv m d t v i (j ∷ p) e λ m₁ d₁ t₁ v₁ c q.
      let w = replace (j ∷ p) y v₁ in
      rw (child_value_lem t v i c)
      (start_step t (replace_child i w v) i (child_replaced t v i c w) j p ∙
      (ap₂ ◌+◌ (child_before_length t v i i w (omega arith)) (inner_start_kept m₁ d₁ t₁ v₁ (j ∷ p) q) ∙
      sym (start_step t v i c j p)))

  inner_number_kept : (m d : ℕ) (t : Ty) (v : Val) (p : List ℕ) → find_from m d t v p ≡ found m' d' u x
      → bit_number t (replace p y v) p ≡ bit_number t v p
  unfolding find_from replace bit_number
  inner_number_kept m d t v [] e = refl
  inner_number_kept m d t v (i ∷ []) e = refl
  inner_number_kept m d t v (i ∷ j ∷ p) e =
      step_inv m d t v i (j ∷ p) e λ m₁ d₁ t₁ v₁ c q.
      let w = replace (j ∷ p) y v₁ in
      rw (child_value_lem t v i c)
      (number_step t (replace_child i w v) i (child_replaced t v i c w) j p ∙
      (inner_number_kept m₁ d₁ t₁ v₁ (j ∷ p) q ∙ sym (number_step t v i c j p)))

module _ (t : Ty) (v : Val) (p : List ℕ) {m d : ℕ} {u : Ty} {x : Val} (e : find t v p ≡ found m d u x) (y : Val) where
  -- the octets before a component stay, if its presence bit does
  pub before_kept : presence_bits m d u y ≡ presence_bits m d u x → octets_before t (replace p y v) p ≡ octets_before t v p
  unfolding find
  before_kept s = inner_before_kept y 0 0 t v p e s

  -- their number stays anyhow
  pub before_length : length (octets_before t (replace p y v) p) ≡ length (octets_before t v p)
  unfolding find
  before_length = inner_before_length y 0 0 t v p e

  -- and so does the place of its presence bit
  pub presence_place_kept : presence_bit t (replace p y v) p ≡ presence_bit t v p
  unfolding find presence_bit
  presence_place_kept = rw (inner_start_kept y 0 0 t v p e, inner_number_kept y 0 0 t v p e)
