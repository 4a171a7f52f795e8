-- The width and the form of an INTEGER, as the tests of the code choose them.
-- Premises are the callees' `ensures` and the tests as they went. Assumes nothing.
use mathlib.Core.Path.{◌≡◌, refl}
use mathlib.Core.Bool.{Bool, true, false, cond, ◌&&◌}
use mathlib.Core.List.{List}
use Prim.Native.Nat.{ℕ, ◌+◌, ◌-◌, ◌^◌, ◌<◌, ◌≤◌}
use native.Mathlib.Omega.{arith}
use lib.Dec.{ltb, leb}
use borrow.Author.Tests.{le-leb, lt-leb}
use Rattle.x696.specs.Variable.{read_unsigned, read_signed}
use Rattle.x696.specs.Integer.{has_lower, has_upper, rank, is_unsigned, unsigned_width, within, signed_width}
use Rattle.x696.specs.Integer.{Form, fixed_unsigned, fixed_signed, any_unsigned, any_signed, integer_form, read_form}
use Rattle.octets.specs.Answers.{NumberAnswer}
use Rattle.std.proofs.Common.{Result}
use Rattle.octets.specs.declared.faults.Fault.{Fault}
use Rattle.octets.specs.declared.answers.Number.{Number}

-- ---- widths: 1, 2, 4 or 8 octets, by three tests
pub record Ladder (w : ℕ) (x y z : Bool) : Type 0 where
  pub is : w ≡ cond x 1 (cond y 2 (cond z 4 8))

abbrev Width : (k w : ℕ) → Type 0
Width k w = (k ≡ w) × (1 ≤ k) × (k ≤ 8)

module _ {w : ℕ} {x y z : Bool} (e : Ladder w x y z) where
  pub width_one : x ≡ true → Width 1 w
  width_one p = (rw (e.is, p), omega arith, omega arith)

  module _ (p : x ≡ false) where
    pub width_two : y ≡ true → Width 2 w
    width_two q = (rw (e.is, p, q), omega arith, omega arith)

    pub width_four : y ≡ false → z ≡ true → Width 4 w
    width_four q r = (rw (e.is, p, q, r), omega arith, omega arith)

    pub width_eight : y ≡ false → z ≡ false → Width 8 w
    width_eight q r = (rw (e.is, p, q, r), omega arith, omega arith)

pub unsigned_ladder : (b : ℕ) → Ladder (unsigned_width b) (ltb b (2 ^ 8)) (ltb b (2 ^ 16)) (ltb b (2 ^ 32))
unfolding unsigned_width
unsigned_ladder b = record { is = refl }

-- both bounds, by rank, lie in -h .. h - 1
abbrev Between : (h low high : ℕ) → Bool
Between h low high = leb (2 ^ 63 - h) low && ltb high (2 ^ 63 + h)

module _ (h low high : ℕ) where
  pub between_low : low < 2 ^ 63 - h → false ≡ Between h low high
  between_low g = rw (lt-leb (2 ^ 63 - h) low g)

  pub between_high : 2 ^ 63 - h ≤ low → ltb high (2 ^ 63 + h) ≡ Between h low high
  between_high g = rw (le-leb (2 ^ 63 - h) low g)

pub signed_ladder : (a b : ℕ) {low high : ℕ} → low ≡ rank a → high ≡ rank b
    → Ladder (signed_width a b) (Between (2 ^ 7) low high) (Between (2 ^ 15) low high) (Between (2 ^ 31) low high)
unfolding signed_width within
signed_ladder a b e f = record { is = rw (e, f) }

-- ---- forms
module _ (f a b : ℕ) {u : Bool} (eu : u ≡ is_unsigned f a) where
  module _ (yes : u ≡ true) {h : Bool} (eh : h ≡ has_upper f) where
    pub form_unsigned : h ≡ true → {k : ℕ} → k ≡ unsigned_width b → integer_form f a b ≡ fixed_unsigned k
    unfolding integer_form
    form_unsigned t e = rw (← eu, yes, ← eh, t, e)

    pub form_open : h ≡ false → integer_form f a b ≡ any_unsigned
    unfolding integer_form
    form_open t = rw (← eu, yes, ← eh, t)

  module _ (no : u ≡ false) {l : Bool} (el : l ≡ has_lower f) where
    pub form_below : l ≡ false → integer_form f a b ≡ any_signed
    unfolding integer_form
    form_below t = rw (← eu, no, ← el, t)

    module _ (there : l ≡ true) {h : Bool} (eh : h ≡ has_upper f) where
      pub form_above : h ≡ false → integer_form f a b ≡ any_signed
      unfolding integer_form
      form_above t = rw (← eu, no, ← el, there, ← eh, t)

      pub form_signed : h ≡ true → {k : ℕ} → k ≡ signed_width a b → integer_form f a b ≡ fixed_signed k
      unfolding integer_form
      form_signed t e = rw (← eu, no, ← el, there, ← eh, t, e)

module _ {msg : List ℕ} (p : ℕ) (s : List ℕ) {at : ℕ} {r : Result Number Fault} where
  -- an answer by the form that was chosen
  pub chosen : {f g : Form} → f ≡ g → NumberAnswer msg (read_form g p s) at r → NumberAnswer msg (read_form f p s) at r
  chosen e w = rw e w

  pub chosen_unsigned : {f : Form} → f ≡ any_unsigned → NumberAnswer msg (read_unsigned p s) at r
      → NumberAnswer msg (read_form f p s) at r
  unfolding read_form
  chosen_unsigned e w = rw e w

  pub chosen_signed : {f : Form} → f ≡ any_signed → NumberAnswer msg (read_signed p s) at r
      → NumberAnswer msg (read_form f p s) at r
  unfolding read_form
  chosen_signed e w = rw e w
