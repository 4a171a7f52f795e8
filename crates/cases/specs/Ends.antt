-- What is left of a text: an end of it, by its octets, so that it is no longer than the text.
-- Assumes nothing.
use Rattle.std.specs.Prelude.{◌≡◌, List, ℕ, ◌-◌, length, drop}

abbrev pub IsEndOf : (left text : List ℕ) → Type 0
IsEndOf l t = l ≡ drop (length t - length l) t
