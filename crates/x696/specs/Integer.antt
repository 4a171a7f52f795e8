-- Clause 10, INTEGER: its bounds, and the form that they give. The form is chosen by the bounds and never by the value.
-- flags 1: lower bound A present; 2: upper bound B present. A is signed; B is unsigned if A is present and at least 0.
-- Narrower than X.696: values and bounds stop at 64 bits. Assumes nothing.
use Rattle.std.specs.Prelude.{Bool, cond, not, ◌&&◌, ◌||◌, List, ℕ, ◌+◌, ◌^◌, ◌/◌, ◌%◌, ◌-◌, ltb, leb, eqb}
use Rattle.x696.specs.Outcome.{Outcome, got, next}
use Rattle.x696.specs.Digits.{digits, from_digits}
use Rattle.x696.specs.Fewest.{signed_word}
use Rattle.x696.specs.Length.{run}
use Rattle.x696.specs.Variable.{variable_unsigned, read_unsigned, variable_signed, read_signed}

unfoldable pub has_lower : (flags : ℕ) → Bool
has_lower f = eqb (f % 2) 1

unfoldable pub has_upper : (flags : ℕ) → Bool
has_upper f = eqb (f / 2 % 2) 1

-- the signed order of words: a word's rank rises from -2 ^ 63, which has rank 0
unfoldable pub rank : (word : ℕ) → ℕ
rank w = (w + 2 ^ 63) % 2 ^ 64

-- case a of 10.2: a lower bound that is zero or positive
unfoldable pub is_unsigned : (flags a : ℕ) → Bool
is_unsigned f a = has_lower f && ltb a (2 ^ 63)

-- whether the bounds allow a word
unfoldable pub allowed : (flags a b word : ℕ) → Bool
allowed f a b w =
    cond (is_unsigned f a)
    (leb a w && (not (has_upper f) || leb w b))
    ((not (has_lower f) || leb (rank a) (rank w)) && (not (has_upper f) || leb (rank w) (rank b)))

-- 10.3 a to d: by the upper bound
unfoldable pub unsigned_width : (b : ℕ) → ℕ
unsigned_width b = cond (ltb b (2 ^ 8)) 1 (cond (ltb b (2 ^ 16)) 2 (cond (ltb b (2 ^ 32)) 4 8))

-- whether both bounds lie in -h .. h - 1
unfoldable pub within : (h a b : ℕ) → Bool
within h a b = leb (2 ^ 63 - h) (rank a) && ltb (rank b) (2 ^ 63 + h)

-- 10.4 a to d: by both bounds
unfoldable pub signed_width : (a b : ℕ) → ℕ
signed_width a b = cond (within (2 ^ 7) a b) 1 (cond (within (2 ^ 15) a b) 2 (cond (within (2 ^ 31) a b) 4 8))

pub data Form : Type 0 where
  fixed_unsigned fixed_signed : (octets : ℕ) → Form
  any_unsigned any_signed : Form

unfoldable pub integer_form : (flags a b : ℕ) → Form
integer_form f a b =
    cond (is_unsigned f a)
    (cond (has_upper f) (fixed_unsigned (unsigned_width b)) any_unsigned)
    (cond (has_lower f && has_upper f) (fixed_signed (signed_width a b)) any_signed)

unfoldable pub form_octets : Form → (word : ℕ) → List ℕ
form_octets (fixed_unsigned k) w = digits 8 k w
form_octets (fixed_signed k) w = digits 8 k w
form_octets any_unsigned w = variable_unsigned w
form_octets any_signed w = variable_signed w

unfoldable pub read_form : Form → (p : ℕ) → List ℕ → Outcome (List ℕ) ℕ
read_form (fixed_unsigned k) p s = next (run p k s) λ os r. got (from_digits 8 os) r
read_form (fixed_signed k) p s = next (run p k s) λ os r. got (signed_word os) r
read_form any_unsigned p s = read_unsigned p s
read_form any_signed p s = read_signed p s
