-- The component at a path of a message, in the terms of `Answer`: a refusal, or the place with what the code tells of
-- it.
-- Assumes nothing.
use Rattle.std.specs.Prelude.{◌≡◌, List, ℕ, ◌/◌, ◌<◌, ◌≤◌, length}
use Rattle.x696.specs.Value.{Val, size}
use Rattle.x696.specs.Types.{Ty}
use Rattle.x696.specs.Fits.{Fits}
use Rattle.x696.specs.Encode.{encode}
use Rattle.x696.specs.Path.{find}
use Rattle.x696.specs.Reply.{Answer, done, then, in_part}
use Rattle.x696.specs.Table.{row_width, type_of}
use Rattle.x696.specs.SoundTable.{SoundTable}
use Rattle.x696.specs.Operations.{node_limit, octet_limit, read_message}
use Rattle.x696.specs.Editing.{Place, place_of}
use Rattle.octets.specs.declared.faults.Refusal.{Refusal}
use Rattle.decoding.specs.Replied.{Refuses}
use Rattle.finding.specs.Following.{Spotted}
use Rattle.std.specs.Prelude.{Result, Ok, Err}
use Rattle.finding.specs.declared.spot.Way.{Way}

-- a place behind the table's refusals
unfoldable pub place_behind : Ty → (octets path : List ℕ) → Answer Place
place_behind t s p = then (in_part 1 (read_message t s)) λ v. place_of t v (find t v p)

-- a component that was found: the whole value, which the message encodes, and where in it the component stands
pub record Placed (rows items : List ℕ) (row : ℕ) (msg path : List ℕ) (a : Answer Place) (w : Way) : Type 0 where
  pub sound : SoundTable rows items
  pub known : row < length rows / row_width
  pub short : length msg ≤ octet_limit
  pub whole : Val
  pub encodes : msg ≡ encode (type_of rows items row) whole
  pub fits : Fits (type_of rows items row) whole
  pub count : w.count ≡ size whole
  pub few : w.count ≤ node_limit
  pub spot : Spotted rows items 0 0 (type_of rows items row) 0 0 0 whole path w.spot
  pub inside : w.spot.end ≤ length msg
  pub is : a ≡ done (record {
    type = type_of rows items row;
    whole = whole;
    mark = w.spot.component.mark;
    its = type_of rows items w.spot.component.row;
    value = spot.value;
  })

pub record PlaceAnswer (rows items : List ℕ) (row : ℕ) (msg path : List ℕ) (a : Answer Place)
    (r : Result Way Refusal) : Type 0 where
  pub went : (w : Way) → r ≡ Ok w → Placed rows items row msg path a w
  pub stopped : (x : Refusal) → r ≡ Err x → Refuses a x
