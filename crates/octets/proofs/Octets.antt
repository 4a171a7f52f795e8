-- Lists of octets by position: what a slice of octets gives, and the octets at a place.
-- Assumes nothing.
use mathlib.Core.Path.{sym}
use mathlib.Core.List.{List, [], ◌∷◌}
use Prim.Native.Nat.{ℕ, suc, ◌^◌, ◌<◌}
use lib.ListN.{get_or, take, drop, take-append-drop}
use Rattle.x696.specs.Digits.{Below}
use Rattle.x696.proofs.DigitsLaws.{below_split}

-- a list whose elements by position are octets (or words) is a list of them
pub below_known : (w : ℕ) (s : List ℕ) → ((i : ℕ) → get_or s i 0 < 2 ^ w) → Below w s
below_known w [] h = tt
below_known w (x ∷ s) h = (h 0, below_known w s (λ i. h (suc i)))

pub below_drop : (w : ℕ) (s : List ℕ) (i : ℕ) → Below w s → Below w (drop i s)
below_drop w s i b = (below_split w (take i s) (drop i s) b (sym (take-append-drop i s))).1

pub below_take : (w : ℕ) (s : List ℕ) (i : ℕ) → Below w s → Below w (take i s)
below_take w s i b = (below_split w (take i s) (drop i s) b (sym (take-append-drop i s))).0
