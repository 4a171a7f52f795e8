-- What a reading comes to: a refusal with the number and the place of document 01, or what was read and where the
-- reading then stands. The standing S is the octets left, a message with its count of nodes (`Message`), or a value
-- list (`Listed`). Three combinators say everything: `next`, `must`, `choose`.
-- Each refusal is a `must` of its own that names its clause. Assumes nothing.
use Rattle.std.specs.Prelude.{Bool, true, false, ℕ}

pub data Outcome (S A : Type 0) : Type 0 where
  refused : (number place : ℕ) → Outcome S A
  got : (what : A) (rest : S) → Outcome S A

-- one reading after another: the first refusal stands
module _ {S T A B : Type 0} where
  unfoldable pub next : Outcome S A → (A → S → Outcome T B) → Outcome T B
  next (refused n p) k = refused n p
  next (got a s) k = k a s

-- a test, and the refusal where it fails
module _ {S A : Type 0} where
  unfoldable pub must : Bool → (number place : ℕ) → Outcome S A → Outcome S A
  must true n p o = o
  must false n p o = refused n p

-- a choice whose two sides wait until they are asked for
unfoldable pub choose {ℓ} : {A : Type ℓ} → Bool → (Unit {0} → A) → (Unit {0} → A) → A
choose true x y = x tt
choose false x y = y tt
