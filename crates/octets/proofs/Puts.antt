-- Numbers stored: one octet, or an octet and the number's octets after it, is what the definitions of X.696 write.
-- Assumes nothing.
use mathlib.Core.Path.{◌≡◌, refl, ◌∙◌}
use mathlib.Core.List.{List, [], ◌∷◌}
use Prim.Native.Nat.{ℕ, ◌+◌, ◌%◌, ◌<◌, ◌≤◌}
use native.Mathlib.Omega.{arith}
use lib.ListN.{length, set}
use lib.Seq.{sets}
use borrow.Author.Tests.{lt-ltb, le-ltb}
use Rattle.x696.specs.Outcome.{choose}
use Rattle.x696.specs.Digits.{digits}
use Rattle.x696.proofs.DigitsLaws.{digits_length}
use Rattle.x696.specs.Fewest.{fewest, unsigned_octets, fewest_signed, signed_octets}
use Rattle.x696.specs.Length.{length_octets}
use Rattle.x696.specs.Variable.{variable_unsigned, variable_signed}
use Rattle.x696.specs.Enumerated.{enumerated_octets}

-- what a writer of a number ensures: the octets stored from `to` on, where the next one goes, at most nine of them
abbrev pub Stored : (before after : List ℕ) (to next : ℕ) (octets : List ℕ) → Type 0
Stored l m to r os = (m ≡ sets l to os) × (r ≡ to + length os) × (r ≤ to + 9)

-- one octet
stored_one : (l m : List ℕ) (to x : ℕ) (os : List ℕ) → os ≡ x ∷ [] → x < 128 → m ≡ set l to (x % 256)
    → Stored l m to (to + 1) os
stored_one l m to x os e h s =
    let q : x % 256 ≡ x = omega arith in
    rw e (s ∙ rw q, refl, omega arith)

-- an octet, and k octets of a number
stored_more : (l m : List ℕ) (to r x k w : ℕ) (os : List ℕ) → os ≡ x ∷ digits 8 k w → k ≤ 8
    → (m ≡ sets l to (x ∷ digits 8 k w)) × (r ≡ to + 1 + k) → Stored l m to r os
stored_more l m to r x k w os e h s = rw (e, s.1) (s.0, omega (arith, digits_length 8 k w), omega arith)

-- ---- the octets of each definition
length_short : (n : ℕ) → n < 128 → length_octets n ≡ n ∷ []
unfolding length_octets choose
length_short n h = rw (lt-ltb n 128 h)

length_long : (n k : ℕ) → 128 ≤ n → k ≡ fewest 8 n → length_octets n ≡ (128 + k) ∷ digits 8 k n
unfolding length_octets unsigned_octets choose
length_long n k h e = rw (le-ltb n 128 h, e)

enumerated_short : (w : ℕ) → w < 128 → enumerated_octets w ≡ w ∷ []
unfolding enumerated_octets choose
enumerated_short w h = rw (lt-ltb w 128 h)

enumerated_long : (w k : ℕ) → 128 ≤ w → k ≡ fewest_signed w → enumerated_octets w ≡ (128 + k) ∷ digits 8 k w
unfolding enumerated_octets signed_octets choose
enumerated_long w k h e = rw (le-ltb w 128 h, e)

-- a determinant of at most eight is one octet
variable_unsigned_lem : (n k : ℕ) → k ≡ fewest 8 n → k ≤ 8 → variable_unsigned n ≡ k ∷ digits 8 k n
unfolding variable_unsigned unsigned_octets
variable_unsigned_lem n k e h = rw (← e, length_short k (omega arith))

variable_signed_lem : (w k : ℕ) → k ≡ fewest_signed w → k ≤ 8 → variable_signed w ≡ k ∷ digits 8 k w
unfolding variable_signed signed_octets
variable_signed_lem w k e h = rw (← e, length_short k (omega arith))

-- ---- the writers
module _ (l m : List ℕ) (to x : ℕ) (h : x < 128) (s : m ≡ set l to (x % 256)) where
  pub put_length_short : Stored l m to (to + 1) (length_octets x)
  put_length_short = stored_one l m to x _ (length_short x h) h s

  pub put_enumerated_short : Stored l m to (to + 1) (enumerated_octets x)
  put_enumerated_short = stored_one l m to x _ (enumerated_short x h) h s

-- an octet x and the k octets of w, and where the next one goes
module _ (l m : List ℕ) (to r x k w : ℕ) (h : k ≤ 8) (s : (m ≡ sets l to (x ∷ digits 8 k w)) × (r ≡ to + 1 + k)) where
  pub put_length_long : k ≡ fewest 8 w → 128 ≤ w → x ≡ 128 + k → Stored l m to r (length_octets w)
  put_length_long e g f = stored_more l m to r x k w _ (rw f (length_long w k g e)) h s

  pub put_enumerated_long : k ≡ fewest_signed w → 128 ≤ w → x ≡ 128 + k → Stored l m to r (enumerated_octets w)
  put_enumerated_long e g f = stored_more l m to r x k w _ (rw f (enumerated_long w k g e)) h s

  pub put_variable_unsigned : k ≡ fewest 8 w → x ≡ k → Stored l m to r (variable_unsigned w)
  put_variable_unsigned e f = stored_more l m to r x k w _ (rw f (variable_unsigned_lem w k e h)) h s

  pub put_variable_signed : k ≡ fewest_signed w → x ≡ k → Stored l m to r (variable_signed w)
  put_variable_signed e f = stored_more l m to r x k w _ (rw f (variable_signed_lem w k e h)) h s
