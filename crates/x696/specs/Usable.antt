-- What the demands assume and speak of: a sound table and a row of it; a value of a type within the limits; buffers
-- with room for its list; what they then hold. That items are words and messages octets, types in code say.
-- Assumes nothing.
use Rattle.std.specs.Prelude.{◌≡◌, List, ℕ, ◌*◌, ◌/◌, ◌<◌, ◌≤◌, length}
use Rattle.x696.specs.Digits.{Below}
use Rattle.x696.specs.Value.{Val, node_width, size, nodes, contents}
use Rattle.x696.specs.Types.{Ty}
use Rattle.x696.specs.Fits.{Fits}
use Rattle.x696.specs.Encode.{encode}
use Rattle.x696.specs.Table.{row_width}
use Rattle.x696.specs.TableFault.{sound, table_fault}
use Rattle.x696.specs.Reply.{done_reply}
use Rattle.x696.specs.Operations.{node_limit, octet_limit, over, Decoded, Written}

-- the check finds no fault in the table, and the asked row is in it
pub record Usable (rows items : List ℕ) (row : ℕ) : Type 0 where
  pub words : Below 64 items
  pub faultless : table_fault rows items ≡ sound
  pub inside : row < length rows / row_width

-- a value of the type, of at most 4,096 nodes, with an encoding of at most 65,535 octets
pub record Within (t : Ty) (v : Val) : Type 0 where
  pub fits : Fits t v
  pub few : size v ≤ node_limit
  pub short : length (encode t v) ≤ octet_limit

-- lent buffers that hold the value's list
pub record Room (v : Val) (ns cs : List ℕ) : Type 0 where
  pub for_nodes : size v * node_width ≤ length ns
  pub for_contents : length (contents v) ≤ length cs

-- DONE, its sizes, and its list at the front of the lent buffers
abbrev pub decoded_as : (v : Val) (ns cs : List ℕ) → Decoded
decoded_as v ns cs = record {
  reply = done_reply (size v) (length (contents v));
  nodes = over (nodes v) ns;
  contents = over (contents v) cs;
}

-- DONE, the number of octets, and the octets at the front of the lent buffer
abbrev pub written_as : (octets out : List ℕ) → Written
written_as os out = record { reply = done_reply 0 (length os); out = over os out }
