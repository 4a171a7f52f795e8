-- Where the presence bit of the component at a path stands (16.2.3): how many octets stand before the preamble of the
-- SEQUENCE that holds it, and the bit's number in that preamble, from 0: the marks of the components before it.
-- A component without a mark has no bit, and this says nothing of it. Assumes nothing.
use Rattle.std.specs.Prelude.{List, [], ◌∷◌, ℕ, zero, suc, ◌+◌, ◌*◌, length}
use Rattle.x696.specs.Value.{Val}
use Rattle.x696.specs.Types.{Ty, leaf, sequence, sequence_of, choice, Items, no_items, item, presence_count}
use Rattle.x696.specs.Path.{child_at, through, child_before}

unfoldable pub marks_before : Items → (step : ℕ) → ℕ
marks_before no_items i = 0
marks_before (item m d t is) zero = 0
marks_before (item m d t is) (suc i) = presence_count m + marks_before is i

unfoldable pub bits_before : Ty → (step : ℕ) → ℕ
bits_before (leaf l) i = 0
bits_before (sequence is) i = marks_before is i
bits_before (sequence_of t) i = 0
bits_before (choice is) i = 0

unfoldable pub preamble_start : Ty → Val → (path : List ℕ) → ℕ
preamble_start t v [] = 0
preamble_start t v (i ∷ []) = 0
preamble_start t v (i ∷ j ∷ p) =
    through (child_at t v i) 0 λ m d u x. length (child_before t v i) + preamble_start u x (j ∷ p)

unfoldable pub bit_number : Ty → Val → (path : List ℕ) → ℕ
bit_number t v [] = 0
bit_number t v (i ∷ []) = bits_before t i
bit_number t v (i ∷ j ∷ p) = through (child_at t v i) 0 λ m d u x. bit_number u x (j ∷ p)

-- the bit's number among all bits of the message
unfoldable pub presence_bit : Ty → Val → (path : List ℕ) → ℕ
presence_bit t v p = 8 * preamble_start t v p + bit_number t v p
