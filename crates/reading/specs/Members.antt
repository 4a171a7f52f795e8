-- The members of a group as one list: the components of a SEQUENCE, each with the presence bit that its mark gives it,
-- or one type over and over (SEQUENCE OF, a CHOICE's alternative, a value alone), which is a component without a mark.
-- Assumes nothing.
use Rattle.std.specs.Prelude.{◌≡◌, Bool, true, false, cond, List, ℕ, zero, suc, ◌+◌, ◌*◌, ◌/◌, ◌<◌, ◌≤◌, length, drop}
use Rattle.std.proofs.lemmas.List.Edits.{sets}
use Rattle.x696.specs.Outcome.{Outcome, refused, got, next}
use Rattle.x696.specs.Value.{Val, Vals, no_values, value, node_width, sizes, nodes_of, contents_of}
use Rattle.x696.specs.Types.{presence_count}
use Rattle.x696.specs.Read.{Message, message, read_component}
use Rattle.x696.specs.Operations.{node_limit}
use Rattle.x696.specs.Table.{item_width, component_row, component_mark, component_default, type_of}
use Rattle.x696.specs.SoundTable.{Component}
use Rattle.octets.specs.Presence.{bit_at}
use Rattle.octets.specs.declared.faults.Fault.{Fault}
use Rattle.kinds.specs.Run.{number_of}
use Rattle.kinds.specs.declared.cursor.Cursor.{Cursor}
use Rattle.std.specs.Prelude.{Result, Ok, Err}
use Rattle.octets.specs.Cause.{code_of}

-- the row and the mark of the member at item j: the item's where members are listed
unfoldable pub member_row : (items : List ℕ) → (inner : ℕ) → (listed : Bool) → (j : ℕ) → ℕ
member_row items inner listed j = cond listed (component_row items j) inner

unfoldable pub member_mark : (items : List ℕ) → (listed : Bool) → (j : ℕ) → ℕ
member_mark items listed j = cond listed (component_mark items j) 0

-- one component: mark, item of its default, row, presence bit b of the preamble at `pre`
unfoldable pub member_at : (rows items msg : List ℕ) → (mark i row pre b : ℕ) → Message → Outcome Message Val
member_at rows items msg mark i row pre b s =
    read_component node_limit mark (component_default items i) (type_of rows items row) (bit_at msg pre b) (length msg) s

module _ (rows items msg : List ℕ) (inner : ℕ) (listed : Bool) (pre : ℕ) where
  -- n members from item j on, b presence bits used
  unfoldable pub members : (n j b : ℕ) → Message → Outcome Message Vals
  members zero j b s = got no_values s
  members (suc n) j b s =
      next (member_at rows items msg (member_mark items listed j) j (member_row items inner listed j) pre b s) λ v s.
      next (members n (suc j) (b + presence_count (member_mark items listed j)) s) λ vs s. got (value v vs) s

-- what a sound table gives of the members: rows below `above`, presence bits from `bit` on
pub record Members (rows items : List ℕ) (above inner : ℕ) (listed : Bool) (first bit n : ℕ) : Type 0 where
  pub alone : listed ≡ false → (first ≡ 0) × (bit ≡ 0) × (inner < above)
  pub among : listed ≡ true
      → (first + n ≤ length items / item_width) × (bit + n ≤ 1024)
      × ((i : ℕ) → i < n → Component rows items above (first + i))

-- and of one: a mark is that of its item
pub record Member (rows items : List ℕ) (above row mark i b : ℕ) : Type 0 where
  pub lower : row < above
  pub marked : (mark ≡ 0 → ⊥)
      → (i < length items / item_width) × Component rows items above i
      × (row ≡ component_row items i) × (mark ≡ component_mark items i) × (b < 1024)

-- the number of the last value, x where there is none
unfoldable pub last_number : (x : ℕ) → Vals → ℕ
last_number x no_values = x
last_number x (value v vs) = last_number (number_of v) vs

-- the values o were got as far as c: as `Gone` of one value (crates/kinds/specs/Run.antt)
pub record GoneAll (msg : List ℕ) (o : Outcome Message Vals) (p n u : ℕ) (l b l' b' : List ℕ) (c : Cursor)
    : Type 0 where
  pub what : Vals
  pub reads : o ≡ got what (message (drop c.at msg) c.count)
  pub number : c.number ≡ last_number 0 what
  pub inside : c.at ≤ length msg
  pub count : c.count ≡ n + sizes what
  pub used : c.used ≡ u + length (contents_of what)
  pub ahead : p + length (contents_of what) ≤ c.at
  pub stored : l' ≡ sets l (n * node_width) (nodes_of what)
  pub copied : b' ≡ sets b u (contents_of what)

pub record RanAll (msg : List ℕ) (o : Outcome Message Vals) (p n u : ℕ) (l b l' b' : List ℕ) (r : Result Cursor Fault) : Type 0 where
  pub went : (c : Cursor) → r ≡ Ok c → GoneAll msg o p n u l b l' b' c
  pub stopped : (f : Fault) → r ≡ Err f → o ≡ refused (code_of f.cause) f.place
