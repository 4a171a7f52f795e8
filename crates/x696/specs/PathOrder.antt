-- Paths among each other: one begins another; or, where they part, the one that takes the smaller step is ahead.
-- Assumes nothing.
use Rattle.std.specs.Prelude.{◌≡◌, List, ◌∷◌, ◌++◌, ℕ, ◌<◌}

-- the component at path' is the one at path, or lies in it
abbrev pub Begins : (path path' : List ℕ) → Type 0
Begins p q = (rest : List ℕ) × (q ≡ p ++ rest)

pub data Ahead : (path path' : List ℕ) → Type 0 where
  sooner : {i j : ℕ} {p q : List ℕ} → i < j → Ahead (i ∷ p) (j ∷ q)
  together : {i : ℕ} {p q : List ℕ} → Ahead p q → Ahead (i ∷ p) (i ∷ q)
