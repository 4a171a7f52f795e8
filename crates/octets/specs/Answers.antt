-- What a reader's answer says, in the terms of X.696's outcomes: of a refusal its number and place, of a reading what
-- was read and where the octets after it begin. `at` is where the reader began: what it read lies behind it, inside the
-- message. Assumes nothing.
use Rattle.std.specs.Prelude.{Result, Ok, Err, ◌≡◌, cond, List, ℕ, ◌+◌, ◌≤◌, length, take, drop, ltb, leb}
use Rattle.x696.specs.Outcome.{Outcome, refused, got, next, must}
use Rattle.x696.specs.Digits.{from_digits}
use Rattle.x696.specs.Fewest.{is_fewest, is_fewest_signed, signed_word}
use Rattle.x696.specs.Length.{run}
use Rattle.x696.specs.Tag.{Tag as TagOf, tag, read_groups}
use Rattle.octets.specs.Cause.{code_of}
use Rattle.octets.specs.declared.units.Octets.{Octets}
use Rattle.octets.specs.declared.faults.Cause.{Cause}
use Rattle.octets.specs.declared.faults.Fault.{Fault}
use Rattle.octets.specs.declared.answers.Piece.{Piece}
use Rattle.octets.specs.declared.answers.Number.{Number}
use Rattle.octets.specs.declared.answers.Quantity.{Quantity}
use Rattle.octets.specs.declared.answers.Tag.{Tag}

abbrev pub fault : (cause : Cause) → (place : ℕ) → Fault
fault c p = record { cause = c; place = p }

-- ---- a run of octets
abbrev pub octets_of : ℕ → Octets
octets_of n = record { 0 = n }

abbrev pub piece : (start length : ℕ) → Piece
piece s n = record { start = s; length = octets_of n }

pub record RunFound (msg : List ℕ) (o : Outcome (List ℕ) (List ℕ)) (at : ℕ) (x : Piece) : Type 0 where
  pub reads : o ≡ got (take x.length.0 (drop x.start msg)) (drop (x.start + x.length.0) msg)
  pub inside : x.start + x.length.0 ≤ length msg
  pub ahead : at ≤ x.start

pub record RunAnswer (msg : List ℕ) (o : Outcome (List ℕ) (List ℕ)) (at : ℕ) (r : Result Piece Fault) : Type 0 where
  pub went : (x : Piece) → r ≡ Ok x → RunFound msg o at x
  pub stopped : (f : Fault) → r ≡ Err f → o ≡ refused (code_of f.cause) f.place

-- ---- a number
abbrev pub number : (value next : ℕ) → Number
number v n = record { value = v; next = n }

pub record NumberFound (msg : List ℕ) (o : Outcome (List ℕ) ℕ) (at value next : ℕ) : Type 0 where
  pub reads : o ≡ got value (drop next msg)
  pub inside : next ≤ length msg
  pub ahead : at ≤ next

pub record NumberAnswer (msg : List ℕ) (o : Outcome (List ℕ) ℕ) (at : ℕ) (r : Result Number Fault) : Type 0 where
  pub went : (x : Number) → r ≡ Ok x → NumberFound msg o at x.value x.next
  pub stopped : (f : Fault) → r ≡ Err f → o ≡ refused (code_of f.cause) f.place

-- a quantity is a number of occurrences
pub record QuantityAnswer (msg : List ℕ) (o : Outcome (List ℕ) ℕ) (at : ℕ) (r : Result Quantity Fault) : Type 0 where
  pub went : (x : Quantity) → r ≡ Ok x → NumberFound msg o at x.many.0 x.next
  pub stopped : (f : Fault) → r ≡ Err f → o ≡ refused (code_of f.cause) f.place

-- ---- a tag: its number as far as 2,097,152, one above the greatest of a table
unfoldable pub capped : ℕ → ℕ
capped n = cond (ltb n 2097152) n 2097152

abbrev pub tag_read : (class number next : ℕ) → Tag
tag_read c n p = record { class = c; number = n; next = p }

pub record TagFound (msg : List ℕ) (o : Outcome (List ℕ) TagOf) (at : ℕ) (x : Tag) : Type 0 where
  pub whole : ℕ
  pub reads : o ≡ got (tag x.class whole) (drop x.next msg)
  pub number : x.number ≡ capped whole
  pub inside : x.next ≤ length msg
  pub ahead : at ≤ x.next

pub record TagAnswer (msg : List ℕ) (o : Outcome (List ℕ) TagOf) (at : ℕ) (r : Result Tag Fault) : Type 0 where
  pub went : (x : Tag) → r ≡ Ok x → TagFound msg o at x
  pub stopped : (f : Fault) → r ≡ Err f → o ≡ refused (code_of f.cause) f.place

-- ---- parts of the definitions of X.696, under names
-- a length determinant in the long form, from its k subsequent octets on, and what it counts
unfoldable pub long_run : (p k : ℕ) → List ℕ → Outcome (List ℕ) (List ℕ)
long_run p k s =
    must (ltb 0 k) 6 p
    (next (run p k s) λ os r.
    must (leb 128 (from_digits 8 os)) 6 p (must (is_fewest 8 os) 6 p (run p (from_digits 8 os) r)))

-- the number in a run of octets
unfoldable pub unsigned_in : (p : ℕ) → (os r : List ℕ) → Outcome (List ℕ) ℕ
unsigned_in p os r =
    must (ltb 0 (length os)) 6 p (must (is_fewest 8 os) 6 p (must (leb (length os) 8) 8 p (got (from_digits 8 os) r)))

unfoldable pub signed_in : (p : ℕ) → (os r : List ℕ) → Outcome (List ℕ) ℕ
signed_in p os r =
    must (ltb 0 (length os)) 6 p (must (is_fewest_signed os) 6 p (must (leb (length os) 8) 8 p (got (signed_word os) r)))

-- an ENUMERATED number in the long form, from its k subsequent octets on
unfoldable pub long_number : (p k : ℕ) → List ℕ → Outcome (List ℕ) ℕ
long_number p k s =
    must (ltb 0 k) 6 p
    (next (run p k s) λ os r.
    must (leb 128 (from_digits 8 os)) 6 p
    (must (is_fewest_signed os) 6 p (must (leb (length os) 8) 8 p (got (signed_word os) r))))

-- a tag number of 63 and above, from its first group on
unfoldable pub long_tag : (class p : ℕ) → List ℕ → Outcome (List ℕ) TagOf
long_tag class p s =
    next (read_groups p s) λ ds r.
    must (leb 63 (from_digits 7 ds)) 6 p (must (is_fewest 7 ds) 6 p (got (tag class (from_digits 7 ds)) r))
