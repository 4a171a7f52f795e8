-- Two paths that lead to different components, neither within the other: the same steps, then two different ones.
-- Assumes nothing.
use Rattle.std.specs.Prelude.{◌≢◌, List, ◌∷◌, ℕ}

pub data Apart : (path path' : List ℕ) → Type 0 where
  parting : {i j : ℕ} {p q : List ℕ} → i ≢ j → Apart (i ∷ p) (j ∷ q)
  alongside : {i : ℕ} {p q : List ℕ} → Apart p q → Apart (i ∷ p) (i ∷ q)
