-- Bounds and sizes: what the tests of the code, one after another, come to.
-- Premises are the callees' `ensures` and the tests as they went. Assumes nothing.
use mathlib.Core.Path.{◌≡◌, sym, ◌∙◌}
use mathlib.Core.Bool.{Bool, true, false, not, ◌||◌}
use Prim.Native.Nat.{ℕ, ◌^◌, ◌<◌, ◌≤◌}
use lib.Dec.{ltb, leb, eqb}
use borrow.Author.Tests.{le-leb, lt-leb}
use Rattle.x696.specs.Integer.{has_lower, has_upper, rank, is_unsigned, allowed}
use Rattle.x696.specs.String.{fixed_size, size_allowed}

module _ (f a : ℕ) {l : Bool} (e : l ≡ has_lower f) where
  pub lower_there : l ≡ true → ltb a (2 ^ 63) ≡ is_unsigned f a
  unfolding is_unsigned
  lower_there t = let q : has_lower f ≡ true = sym e ∙ t in rw q

  pub lower_missing : l ≡ false → false ≡ is_unsigned f a
  unfolding is_unsigned
  lower_missing t = let q : has_lower f ≡ false = sym e ∙ t in rw q

-- ---- INTEGER
module _ (f a b w : ℕ) (u : is_unsigned f a ≡ true) where
  pub unsigned_below : w < a → false ≡ allowed f a b w
  unfolding allowed
  unsigned_below h = rw (u, lt-leb a w h)

  pub unsigned_upper : a ≤ w → {t : Bool} → t ≡ has_upper f → t ≡ true → leb w b ≡ allowed f a b w
  unfolding allowed
  unsigned_upper h e t = let q : has_upper f ≡ true = sym e ∙ t in rw (u, le-leb a w h, q)

  pub unsigned_open : a ≤ w → {t : Bool} → t ≡ has_upper f → t ≡ false → true ≡ allowed f a b w
  unfolding allowed
  unsigned_open h e t = let q : has_upper f ≡ false = sym e ∙ t in rw (u, le-leb a w h, q)

module _ (f a b w : ℕ) (u : is_unsigned f a ≡ false) {x : Bool} (e : x ≡ not (has_lower f) || leb (rank a) (rank w)) where
  pub signed_below : x ≡ false → false ≡ allowed f a b w
  unfolding allowed
  signed_below t = let q : not (has_lower f) || leb (rank a) (rank w) ≡ false = sym e ∙ t in rw (u, q)

  pub signed_above : x ≡ true → {y : Bool} → y ≡ not (has_upper f) || leb (rank w) (rank b) → y ≡ allowed f a b w
  unfolding allowed
  signed_above t h = let q : not (has_lower f) || leb (rank a) (rank w) ≡ true = sym e ∙ t in rw (u, q) h

-- a test that is asked only where a bound is present
module _ {l t : Bool} (e : l ≡ t) where
  pub asked : l ≡ true → (x : Bool) → x ≡ not t || x
  asked h x = let q : t ≡ true = sym e ∙ h in rw q

  pub spared : l ≡ false → (x : Bool) → true ≡ not t || x
  spared h x = let q : t ≡ false = sym e ∙ h in rw q

-- ---- sizes
module _ (f a b : ℕ) {t : Bool} (e : t ≡ has_upper f) where
  pub fixed_asked : t ≡ true → eqb a b ≡ fixed_size f a b
  unfolding fixed_size
  fixed_asked h = let q : has_upper f ≡ true = sym e ∙ h in rw q

  pub fixed_not : t ≡ false → false ≡ fixed_size f a b
  unfolding fixed_size
  fixed_not h = let q : has_upper f ≡ false = sym e ∙ h in rw q

  pub size_upper : (n : ℕ) → a ≤ n → t ≡ true → leb n b ≡ size_allowed f a b n
  unfolding size_allowed
  size_upper n g h = let q : has_upper f ≡ true = sym e ∙ h in rw (le-leb a n g, q)

  pub size_open : (n : ℕ) → a ≤ n → t ≡ false → true ≡ size_allowed f a b n
  unfolding size_allowed
  size_open n g h = let q : has_upper f ≡ false = sym e ∙ h in rw (le-leb a n g, q)

pub size_below : (f a b n : ℕ) → n < a → false ≡ size_allowed f a b n
unfolding size_allowed
size_below f a b n h = rw (lt-leb a n h)
