-- What every end of a reading keeps: each refusal a claim P on its number and place, each success a claim Q on where
-- the reading then stands. The laws follow the three combinators `next`, `must` and `choose`.
-- Assumes nothing.
use Rattle.std.specs.Prelude.{◌≡◌, refl, Bool, ℕ}
use Rattle.std.proofs.Math.Bool.{true, false}
use Rattle.x696.specs.Outcome.{Outcome, refused, got, next, must, choose}

pub data Ends {S A : Type 0} (P : (number place : ℕ) → Type 0) (Q : S → Type 0) : Outcome S A → Type 0 where
  refuses : {n p : ℕ} → P n p → Ends P Q (refused n p)
  reads : {a : A} {s : S} → Q s → Ends P Q (got a s)

module _ {S T A B : Type 0} {P : (number place : ℕ) → Type 0} {Q : S → Type 0} {R : T → Type 0} where
  pub next_ends : {o : Outcome S A} (k : A → S → Outcome T B) → Ends P Q o
      → ((a : A) (s : S) → Q s → Ends P R (k a s)) → Ends P R (next o k)
  unfolding next
  next_ends k (refuses h) f = refuses h
  next_ends k (reads q) f = f _ _ q

module _ {S A : Type 0} {P : (number place : ℕ) → Type 0} {Q : S → Type 0} where
  pub must_ends : (t : Bool) (n p : ℕ) {o : Outcome S A} → P n p → Ends P Q o → Ends P Q (must t n p o)
  unfolding must
  must_ends true n p h e = e
  must_ends false n p h e = refuses h

  -- the refusal's claim may use that the test failed
  pub must_ends_if : (t : Bool) (n p : ℕ) {o : Outcome S A} → (t ≡ false → P n p) → Ends P Q o → Ends P Q (must t n p o)
  unfolding must
  must_ends_if true n p h e = e
  must_ends_if false n p h e = refuses (h refl)

  pub choose_ends : (t : Bool) (x y : Unit {0} → Outcome S A) → Ends P Q (x tt) → Ends P Q (y tt)
      → Ends P Q (choose t x y)
  unfolding choose
  choose_ends true x y e f = e
  choose_ends false x y e f = f

-- the same, of weaker claims
module _ {S A : Type 0} {P P' : (number place : ℕ) → Type 0} {Q Q' : S → Type 0} where
  pub ends_weaker : {o : Outcome S A} → ((n p : ℕ) → P n p → P' n p) → ((s : S) → Q s → Q' s) → Ends P Q o
      → Ends P' Q' o
  ends_weaker f g (refuses h) = refuses (f _ _ h)
  ends_weaker f g (reads q) = reads (g _ q)

-- what is known of the standing once it is known what was read
module _ {S A : Type 0} {P : (number place : ℕ) → Type 0} {Q Q' : S → Type 0} where
  pub ends_at : {o : Outcome S A} → ((a : A) (s : S) → o ≡ got a s → Q' s) → Ends P Q o → Ends P Q' o
  ends_at f (refuses h) = refuses h
  ends_at f (reads q) = reads (f _ _ refl)
