-- A component of a SEQUENCE and its presence bit, as the writer leaves them: the bit set in place in the preamble,
-- where the component is carried. Assumes nothing.
use Rattle.std.specs.Prelude.{◌≡◌, Bool, true, cond, ◌&&◌, List, [], ◌∷◌, ℕ, zero, suc, ◌+◌, ◌*◌, ◌/◌, ◌%◌, length, get_or, set, ltb, eqb}
use Rattle.x696.specs.Outcome.{refused, got, choose}
use Rattle.x696.specs.Value.{Val, node_width}
use Rattle.x696.specs.Types.{Ty}
use Rattle.x696.specs.Encode.{presence_bits, own_octets}
use Rattle.x696.specs.Walk.{Listed, walk_component}
use Rattle.octets.specs.Presence.{with_bit}
use Rattle.octets.specs.declared.faults.Fault.{Fault}
use Rattle.pens.specs.Put.{Penned}
use Rattle.pens.specs.declared.pen.Pen.{Pen}
use Rattle.std.specs.Prelude.{Result, Ok, Err}
use Rattle.octets.specs.Cause.{code_of}

-- whether node n is there and is the one that stands for a component that is not carried: ABSENT, or the DEFAULT
unfoldable pub missing_at : (words : List ℕ) → (n kind mark default : ℕ) → Bool
missing_at ws n k m d =
    ltb n (length ws / node_width)
    && (eqb (get_or ws (n * node_width) 0) (cond (eqb m 1) 0 k)
    && eqb (get_or ws (n * node_width + 1) 0) (cond (eqb m 1) 0 d))

-- a buffer whose preamble begins at pre, with presence bit b set
abbrev pub with_presence : (l : List ℕ) → (pre b : ℕ) → List ℕ
with_presence l pre b = set l (pre + b / 8) (with_bit (get_or l (pre + b / 8) 0) (b % 8) true)

-- the same, where a component with this mark has one
unfoldable pub marked : (mark : ℕ) → (l : List ℕ) → (pre b : ℕ) → List ℕ
marked zero l pre b = l
marked (suc m) l pre b = with_presence l pre b

-- the same, by the bit itself: set if the component is carried; a plain one has no bit
unfoldable pub noted : (presence : List ℕ) → (l : List ℕ) → (pre b : ℕ) → List ℕ
noted [] l pre b = l
noted (x ∷ xs) l pre b = choose (eqb x 1) (λ _. with_presence l pre b) (λ _. l)

-- the walk of a component came as far as c; its bit is noted, then its octets stand in the buffer from p on
pub record Noted (ws cs : List ℕ) (mark default : ℕ) (t : Ty) (s : Listed) (pre b n u p : ℕ) (l l' : List ℕ)
    (c : Pen) : Type 0 where
  pub start : List ℕ
  pub goes : Penned ws cs (walk_component mark t s) (λ v. own_octets mark default t v) n u p start l' c
  pub bit : (v : Val) (r : Listed) → walk_component mark t s ≡ got v r
      → start ≡ noted (presence_bits mark default t v) l pre b

pub record Notes (ws cs : List ℕ) (mark default : ℕ) (t : Ty) (s : Listed) (pre b n u p : ℕ) (l l' : List ℕ)
    (r : Result Pen Fault) : Type 0 where
  pub went : (c : Pen) → r ≡ Ok c → Noted ws cs mark default t s pre b n u p l l' c
  pub stopped : (f : Fault) → r ≡ Err f → walk_component mark t s ≡ refused (code_of f.cause) f.place
