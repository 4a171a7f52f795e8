-- One step of a path into a value while it is read: the child that it leads to, what stands behind it, and what the
-- reading of the whole comes to once both are read.
-- Assumes nothing.
use Rattle.std.specs.Prelude.{◌≡◌, List, ℕ, ◌+◌, ◌/◌, ◌<◌, ◌≤◌, length, drop, eqb}
use Rattle.x696.specs.Outcome.{Outcome, refused, got, choose}
use Rattle.x696.specs.Value.{Val, Vals}
use Rattle.x696.specs.Read.{Message, message, times, read, read_component}
use Rattle.x696.specs.Path.{no_child, child, child_at, child_before}
use Rattle.x696.specs.PresencePlace.{bits_before}
use Rattle.x696.specs.Operations.{node_limit}
use Rattle.x696.specs.Table.{row_kind, item_width, type_of}
use Rattle.x696.specs.SoundTable.{Each, Component}
use Rattle.octets.specs.Presence.{bit_at}
use Rattle.octets.specs.declared.faults.Fault.{Fault}
use Rattle.finding.specs.Passing.{Fitting, components_at}
use Rattle.finding.specs.declared.spot.Opening.{Opening}
use Rattle.std.specs.Prelude.{Result, Ok, Err, Option, Some, None}
use Rattle.octets.specs.Cause.{code_of}

module _ (rows items msg : List ℕ) (row at : ℕ) (o : Opening) where
  -- the child, in the group at octet `at`
  abbrev pub child_of : Outcome Message Val
  child_of = read_component node_limit o.component.mark o.component.given (type_of rows items o.component.row) (bit_at msg at o.bit)
      (length msg)
      (message (drop o.at msg) o.count)

  -- what stands behind it: components of a SEQUENCE, elements of a SEQUENCE OF, nothing in a CHOICE
  unfoldable pub behind_of : Message → Outcome Message Vals
  behind_of s =
      choose (eqb (row_kind rows row) 10)
      (λ _. components_at rows items msg at o.later o.after o.left s)
      (λ _. times (λ s. read node_limit (type_of rows items o.component.row) (length msg) s) o.left s)

abbrev pub BehindFits : (rows items : List ℕ) → (row : ℕ) → Opening → Type 0
BehindFits rows items row o =
    row_kind rows row ≡ 10
    → (o.after + o.left ≤ length items / item_width) × Each (Component rows items row) o.after o.left ×
    (o.later + o.left ≤ 1024)

-- step i leads into the child o of the value that O reads at octet `at`
pub record Leads (rows items msg : List ℕ) (row at i : ℕ) (O : Outcome Message Val) (o : Opening) : Type 0 where
  -- the whole value, of the child and what stands behind it
  pub wrap : Val → Vals → Val
  pub stops : (n q : ℕ) → child_of rows items msg row at o ≡ refused n q → O ≡ refused n q
  pub ends : (x : Val) (s : Message) (n q : ℕ) → child_of rows items msg row at o ≡ got x s
      → behind_of rows items msg row at o s ≡ refused n q → O ≡ refused n q
  pub gets : (x : Val) (s : Message) (bs : Vals) (r : Message) → child_of rows items msg row at o ≡ got x s
      → behind_of rows items msg row at o s ≡ got bs r → O ≡ got (wrap x bs) r
  pub leads : (x : Val) (bs : Vals)
      → child_at (type_of rows items row) (wrap x bs) i ≡ child o.component.mark o.component.given (type_of rows items o.component.row) x
  pub before : (x : Val) (bs : Vals) → o.at ≡ at + length (child_before (type_of rows items row) (wrap x bs) i)
  pub bit : o.bit ≡ bits_before (type_of rows items row) i
  pub few : o.bit < 1024
  pub lower : o.component.row < row
  pub inside : o.at ≤ length msg
  pub fitting : Fitting (type_of rows items o.component.row) o.component.mark o.component.given
  pub behind : BehindFits rows items row o

pub record Opens (rows items msg : List ℕ) (row at i : ℕ) (O : Outcome Message Val) (r : Result (Option Opening) Fault) : Type 0 where
  pub into : (o : Opening) → r ≡ Ok (Some o) → Leads rows items msg row at i O o
  pub nowhere : r ≡ Ok None → (v : Val) (s : Message) → O ≡ got v s → child_at (type_of rows items row) v i ≡ no_child
  pub stopped : (x : Fault) → r ≡ Err x → O ≡ refused (code_of x.cause) x.place
