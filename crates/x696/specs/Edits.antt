-- What an edit that is DONE did: the message s held a value, the path led to a component of it, the new list was that
-- of a component which fits there, and s' holds the value with that component in its place. `EditLaws` proves it.
-- Assumes nothing.
use Rattle.std.specs.Prelude.{◌≡◌, List, ℕ, ◌≤◌, length}
use Rattle.x696.specs.Value.{Val, size, nodes, contents}
use Rattle.x696.specs.Types.{Ty}
use Rattle.x696.specs.Fits.{Fits, FitsComponent}
use Rattle.x696.specs.Encode.{encode}
use Rattle.x696.specs.Table.{type_of}
use Rattle.x696.specs.Path.{found, find, replace}
use Rattle.x696.specs.Reply.{done}
use Rattle.x696.specs.Operations.{node_limit, octet_limit, value_in}

-- the result is within its limits
module _ (t : Ty) (w : Val) (out : List ℕ) where
  pub record Fine : Type 0 where
    pub few : size w ≤ node_limit
    pub short : length (encode t w) ≤ octet_limit
    pub room : length (encode t w) ≤ length out

pub record Edits (rows items : List ℕ) (r : ℕ) (s p ws cs s' : List ℕ) : Type 0 where
  -- the value that s holds, and the component: mark and default, type, old value and new
  pub value : Val
  pub mark : ℕ
  pub default : ℕ
  pub its : Ty
  pub old : Val
  pub new : Val
  pub reads : value_in rows items r s ≡ done value
  pub finds : find (type_of rows items r) value p ≡ found mark default its old
  pub fits : FitsComponent mark default its new
  pub words : ws ≡ nodes new
  pub contents : cs ≡ contents new
  -- s' is accepted again, and holds the replaced value
  pub accepted : value_in rows items r s' ≡ done (replace p new value)
  -- both messages are the encodings of what they hold
  pub typed : Fits (type_of rows items r) value
  pub before : s ≡ encode (type_of rows items r) value
  pub after : s' ≡ encode (type_of rows items r) (replace p new value)
