-- What the code relies on of rows and items, and the tests of TableCheck that stand inside a rule, under names.
-- Assumes nothing.
use Rattle.std.specs.Prelude.{Option, MatchOption, ◌≡◌, Bool, true, cond, not, ◌&&◌, ◌||◌, List, ℕ, ◌+◌, ◌<◌, ◌≤◌, ltb, leb, eqb}
use Rattle.std.specs.declared.cmp.Ordering.{Ordering}
use Rattle.std.specs.declared.cmp.Ordering.TheVariants.{Equal}
use Rattle.std.specs.Ordering.{ordering_index}
use Rattle.x696.specs.Integer.{has_lower, has_upper, rank, is_unsigned}
use Rattle.x696.specs.Table.{enumerated_number}
use Rattle.x696.specs.TableFault.{row_sound}

-- the signed order of two items' numbers
abbrev pub rank_before : (items : List ℕ) → (i j : ℕ) → Bool
rank_before items i j = ltb (rank (enumerated_number items i)) (rank (enumerated_number items j))

-- the numbers of n items ascend, any two
abbrev pub Ascends : (items : List ℕ) → (first n : ℕ) → Type 0
Ascends items first n =
    (i j : ℕ) → i < j → j < n → rank (enumerated_number items (first + i)) < rank (enumerated_number items (first + j))

-- kind 2: A at most B, as numbers; kinds 7 to 9: A at most B, or no B
abbrev pub bounds_ordered : (flags a b : ℕ) → Bool
bounds_ordered f a b = not (has_lower f && has_upper f) || cond (is_unsigned f a) (leb a b) (leb (rank a) (rank b))

abbrev pub sizes_ordered : (flags a b : ℕ) → Bool
sizes_ordered f a b = cond (has_upper f) (leb a b) (eqb b 0)

-- the rows below one keep their rules
abbrev pub SoundBelow : (rows items : List ℕ) → (row : ℕ) → Type 0
SoundBelow rows items r = (k : ℕ) → k < r → row_sound rows items k ≡ true

-- how each of n places compares with what is sought: first those that are less, then equal, then greater
abbrev pub Rises : (order : ℕ → Ordering) → (n : ℕ) → Type 0
Rises order n = (i j : ℕ) → i ≤ j → j < n → ordering_index (order i) ≤ ordering_index (order j)

-- a place that compares equal, or none does, where the calls give the order of the places, and it rises
abbrev pub FindsBy : (gives : ℕ → Ordering → Type 0) → (n : ℕ) → Option ℕ → Type 0
FindsBy gives n r =
    (order : ℕ → Ordering) → ((i : ℕ) (o : Ordering) → gives i o → o ≡ order i) → Rises order n
    → MatchOption r ((i : ℕ) → i < n → order i ≡ Equal → ⊥) (λ i. (i < n) × (order i ≡ Equal))
