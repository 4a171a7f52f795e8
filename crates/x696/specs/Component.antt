-- The component at a path of a message: the message holds a value, the path leads to the component there, and the
-- component's own octets (none if it is not carried) stand in the message from `start` on.
-- Assumes nothing.
use Rattle.std.specs.Prelude.{◌≡◌, List, ℕ, ◌+◌, length, take, drop}
use Rattle.x696.specs.Value.{Val}
use Rattle.x696.specs.Types.{Ty}
use Rattle.x696.specs.Encode.{own_octets}
use Rattle.x696.specs.Table.{type_of}
use Rattle.x696.specs.Path.{found, find, octets_before}
use Rattle.x696.specs.PathOrder.{Ahead}
use Rattle.x696.specs.Reply.{done}
use Rattle.x696.specs.Operations.{value_in}
use Rattle.x696.specs.Edits.{Edits}

-- the octets of a message from `start` on, as many as the component has
unfoldable pub part : (octets : List ℕ) → (start mark default : ℕ) → Ty → Val → List ℕ
part s start m d u x = take (length (own_octets m d u x)) (drop start s)

pub record Component (rows items : List ℕ) (r : ℕ) (s p : List ℕ) (m d : ℕ) (u : Ty) (x : Val) (start : ℕ)
    : Type 0 where
  pub value : Val
  pub reads : value_in rows items r s ≡ done value
  pub finds : find (type_of rows items r) value p ≡ found m d u x
  pub starts : start ≡ length (octets_before (type_of rows items r) value p)
  pub octets : part s start m d u x ≡ own_octets m d u x

-- the component at q in a message s, and in s', which an edit at p made of it: the same component, with the same
-- octets. It stands where it stood if it is ahead of the edited one; behind that it moves by the change of its length
pub record Kept (rows items : List ℕ) (r : ℕ) (s p ws cs s' : List ℕ) (h : Edits rows items r s p ws cs s')
    (q : List ℕ) (m d : ℕ) (u : Ty) (x : Val) (start : ℕ) : Type 0 where
  pub start' : ℕ
  pub component : Component rows items r s' q m d u x start'
  pub octets : part s' start' m d u x ≡ part s start m d u x
  pub stays : Ahead q p → start' ≡ start
  pub moves : Ahead p q
      → start' + length (own_octets h.mark h.default h.its h.old)
      ≡ start + length (own_octets h.mark h.default h.its h.new)
