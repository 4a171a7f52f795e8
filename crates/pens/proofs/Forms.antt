-- INTEGER: how many octets its form has, and the octets by its form, as the tests of the code choose them.
-- Premises are the callees' `ensures` and the tests as they went. Assumes nothing.
use mathlib.Core.Path.{◌≡◌, refl, sym, ◌∙◌}
use mathlib.Core.Bool.{Bool, true, false, cond}
use mathlib.Core.List.{List}
use Prim.Native.Nat.{ℕ, ◌+◌, ◌≤◌}
use native.Mathlib.Omega.{arith}
use lib.ListN.{length}
use lib.Seq.{sets}
use Rattle.x696.proofs.OutcomeLaws.{cases}
use Rattle.x696.specs.Digits.{digits}
use Rattle.x696.specs.Variable.{variable_unsigned, variable_signed}
use Rattle.x696.specs.Integer.{has_lower, has_upper, is_unsigned, unsigned_width, signed_width}
use Rattle.x696.specs.Integer.{Form, fixed_unsigned, fixed_signed, any_unsigned, any_signed, integer_form, form_octets}
use Rattle.kinds.proofs.Chosen.{Ladder, unsigned_ladder, signed_ladder}
use Rattle.kinds.proofs.Chosen.{form_unsigned, form_open, form_below, form_above, form_signed}
use Rattle.pens.specs.Flat.{Stored, form_width}
use Rattle.pens.proofs.Numbers.{stored_digits, stored_nine}

-- ---- widths
abbrev Width : (r f a b : ℕ) → Type 0
Width r f a b = (r ≡ form_width (integer_form f a b)) × (r ≤ 8)

by_form : (f a b : ℕ) {k : ℕ} {g : Form} → integer_form f a b ≡ g → form_width g ≡ k → k ≤ 8 → Width k f a b
by_form f a b e w h = (rw (e, w), h)

module _ (f a b : ℕ) {h : Bool} (eh : h ≡ has_upper f) where
  pub width_open : h ≡ false → Width 0 f a b
  unfolding form_width integer_form
  width_open t =
      cases (is_unsigned f a)
      (λ u. by_form f a b (form_open f a b refl u eh t) refl (omega arith))
      (λ u. cases (has_lower f)
      (λ l. by_form f a b (form_above f a b refl u refl l eh t) refl (omega arith))
      (λ l. by_form f a b (form_below f a b refl u refl l) refl (omega arith)))

  module _ (t : h ≡ true) {u : Bool} (eu : u ≡ is_unsigned f a) where
    pub width_unsigned : u ≡ true → {k : ℕ} → (k ≡ unsigned_width b) × (1 ≤ k) × (k ≤ 8) → Width k f a b
    unfolding form_width
    width_unsigned y w = by_form f a b (form_unsigned f a b eu y eh t w.0) refl w.2

    module _ (n : u ≡ false) {l : Bool} (el : l ≡ has_lower f) where
      pub width_signed : l ≡ true → {k : ℕ} → (k ≡ signed_width a b) × (1 ≤ k) × (k ≤ 8) → Width k f a b
      unfolding form_width
      width_signed there w = by_form f a b (form_signed f a b eu n el there eh t w.0) refl w.2

      pub width_below : l ≡ false → Width 0 f a b
      unfolding form_width
      width_below none = by_form f a b (form_below f a b eu n el none) refl (omega arith)

-- ---- octets
-- a width by three tests is not 0
positive : {w : ℕ} {x y z : Bool} → Ladder w x y z → w ≡ 0 → ⊥
positive {w} {x} {y} {z} e q = step x y z e.is
  where
    step : (x y z : Bool) → w ≡ cond x 1 (cond y 2 (cond z 4 8)) → ⊥
    step true y z e = omega arith
    step false true z e = omega arith
    step false false true e = omega arith
    step false false false e = omega arith

fixed_octets : (g : Form) (n : ℕ) → (form_width g ≡ 0 → ⊥) → form_octets g n ≡ digits 8 (form_width g) n
unfolding form_width form_octets
fixed_octets (fixed_unsigned k) n z = refl
fixed_octets (fixed_signed k) n z = refl
fixed_octets any_unsigned n z = absurd (z refl)
fixed_octets any_signed n z = absurd (z refl)

-- a form without a width is one of the two that vary
module _ (f a b : ℕ) (w : form_width (integer_form f a b) ≡ 0) {u : Bool} (eu : u ≡ is_unsigned f a) where
  open_unsigned : u ≡ true → integer_form f a b ≡ any_unsigned
  unfolding form_width
  open_unsigned y =
      cases (has_upper f)
      (λ h.
      let e : integer_form f a b ≡ fixed_unsigned (unsigned_width b) = form_unsigned f a b eu y refl h refl in
      absurd (positive (unsigned_ladder b) (rw e at w)))
      (λ h. form_open f a b eu y refl h)

  open_signed : u ≡ false → integer_form f a b ≡ any_signed
  unfolding form_width
  open_signed y =
      cases (has_lower f)
      (λ l. cases (has_upper f)
      (λ h.
      let e : integer_form f a b ≡ fixed_signed (signed_width a b) = form_signed f a b eu y refl l refl h refl in
      absurd (positive (signed_ladder a b refl refl) (rw e at w)))
      (λ h. form_above f a b eu y refl l refl h))
      (λ l. form_below f a b eu y refl l)

module _ (f a b n : ℕ) {k : ℕ} (w : Width k f a b) {l l' : List ℕ} {p : ℕ} where
  pub puts_fixed : (k ≡ 0 → ⊥) → l' ≡ sets l p (digits 8 k n)
      → Stored l l' p (p + k) (form_octets (integer_form f a b) n)
  puts_fixed z e =
      let q : form_octets (integer_form f a b) n ≡ digits 8 k n =
      rw w.0 (fixed_octets (integer_form f a b) n (λ y. z (w.0 ∙ y))) in
      rw q (stored_digits k n w.1 e)

  module _ (z : k ≡ 0) {u : Bool} (eu : u ≡ is_unsigned f a) {q : ℕ} where
    pub puts_unsigned : u ≡ true
        → (l' ≡ sets l p (variable_unsigned n)) × (q ≡ p + length (variable_unsigned n)) × (q ≤ p + 9)
        → Stored l l' p q (form_octets (integer_form f a b) n)
    unfolding form_octets
    puts_unsigned y s = rw (open_unsigned f a b (sym w.0 ∙ z) eu y) (stored_nine s)

    pub puts_signed : u ≡ false
        → (l' ≡ sets l p (variable_signed n)) × (q ≡ p + length (variable_signed n)) × (q ≤ p + 9)
        → Stored l l' p q (form_octets (integer_form f a b) n)
    unfolding form_octets
    puts_signed y s = rw (open_signed f a b (sym w.0 ∙ z) eu y) (stored_nine s)
