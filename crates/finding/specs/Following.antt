-- A path followed from a step on, in a component that is read with its mark, default and presence bit: what was read
-- of the message, and where the component at the path stands, or the step that leads nowhere.
-- Assumes nothing.
use Rattle.std.specs.Prelude.{◌≡◌, List, [], ◌∷◌, ℕ, ◌+◌, ◌/◌, ◌<◌, ◌≤◌, length, drop, eqb}
use Rattle.x696.specs.Outcome.{Outcome, refused, got}
use Rattle.x696.specs.Value.{Val, node, size}
use Rattle.x696.specs.Types.{Ty}
use Rattle.x696.specs.Encode.{own_octets}
use Rattle.x696.specs.Read.{Message, message, read_component}
use Rattle.x696.specs.Path.{no_child, child_at, nowhere, found, find_from, octets_before}
use Rattle.x696.specs.PresencePlace.{preamble_start, bit_number}
use Rattle.x696.specs.Operations.{node_limit}
use Rattle.x696.specs.Table.{row_width, type_of}
use Rattle.octets.specs.Presence.{bit_at}
use Rattle.octets.specs.declared.faults.Fault.{Fault}
use Rattle.kinds.specs.Run.{number_of}
use Rattle.finding.specs.Passing.{Fitting}
use Rattle.finding.specs.declared.spot.Spot.{Spot}
use Rattle.finding.specs.declared.spot.Followed.{Followed}
use Rattle.std.specs.Prelude.{Result, Ok, Err}
use Rattle.octets.specs.Cause.{code_of}

-- the kind of a value's own node; 0 is ABSENT
unfoldable pub kind_in : Val → ℕ
kind_in (node k n os vs) = k

-- where the presence bit of the component at a path stands: its own at the empty path, and else behind `at`
unfoldable pub preamble_from : (pre at : ℕ) → Ty → Val → (path : List ℕ) → ℕ
preamble_from pre at t v [] = pre
preamble_from pre at t v (i ∷ p) = at + preamble_start t v (i ∷ p)

unfoldable pub bit_from : (bit : ℕ) → Ty → Val → (path : List ℕ) → ℕ
bit_from b t v [] = b
bit_from b t v (i ∷ p) = bit_number t v (i ∷ p)

-- the component at path p of the value v, whose octets begin at octet `at`
pub record Spotted (rows items : List ℕ) (m d : ℕ) (t : Ty) (pre b at : ℕ) (v : Val) (p : List ℕ)
    (s : Spot) : Type 0 where
  pub value : Val
  pub finds : find_from m d t v p ≡ found s.component.mark s.component.given (type_of rows items s.component.row) value
  pub start : s.start ≡ at + length (octets_before t v p)
  pub end : s.end ≡ s.start + length (own_octets s.component.mark s.component.given (type_of rows items s.component.row) value)
  pub nodes : s.nodes ≡ size value
  pub number : s.number ≡ number_of value
  pub absent : s.absent ≡ eqb (kind_in value) 0
  pub preamble : s.pre ≡ preamble_from pre at t v p
  pub bit : s.bit ≡ bit_from b t v p
  pub few : s.bit < 1024
  pub inside : s.component.row < length rows / row_width
  pub fitting : Fitting (type_of rows items s.component.row) s.component.mark s.component.given

module _ (rows items msg : List ℕ) (m d row pre b at count : ℕ) where
  abbrev pub followed : Outcome Message Val
  followed = read_component node_limit m d (type_of rows items row) (bit_at msg pre b) (length msg)
      (message (drop at msg) count)

  -- no step i leads into what is read
  abbrev pub Childless : (i : ℕ) → Type 0
  Childless i = (v : Val) (s : Message) → followed ≡ got v s → child_at (type_of rows items row) v i ≡ no_child

  -- the path leads nowhere in the value v at this step, of which `past` are behind it
  pub record Loses (v : Val) (p : List ℕ) (step place : ℕ) : Type 0 where
    pub past : ℕ
    pub finds : find_from m d (type_of rows items row) v p ≡ nowhere past
    pub steps : place ≡ step + past

  pub record Goes (p : List ℕ) (step : ℕ) (w : Followed) : Type 0 where
    pub what : Val
    pub reads : followed ≡ got what (message (drop w.at msg) w.count)
    pub inside : w.at ≤ length msg
    pub found : (s : Spot) → w.leads ≡ Ok s → Spotted rows items m d (type_of rows items row) pre b at what p s
    pub lost : (k : ℕ) → w.leads ≡ Err k → Loses what p step k

  pub record Follows (path : List ℕ) (step : ℕ) (r : Result Followed Fault) : Type 0 where
    pub went : (w : Followed) → r ≡ Ok w → Goes (drop step path) step w
    pub stopped : (x : Fault) → r ≡ Err x → followed ≡ refused (code_of x.cause) x.place
