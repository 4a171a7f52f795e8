-- What each operation answers on every input: number, part, place, counts, and every word and octet of lent memory.
-- Order (document 01, "Replies"): 1, 2, 3; then as each operation says. A refusal leaves every lent buffer as it was;
-- on 0 what lies past the stated counts stays too. Contracts are equations with these definitions. Assumes nothing.
use Rattle.std.specs.Prelude.{◌&&◌, List, ◌++◌, ℕ, ◌*◌, ◌/◌, ◌%◌, length, drop, ltb, leb, eqb}
use Rattle.x696.specs.Outcome.{Outcome, got, next, must}
use Rattle.x696.specs.Value.{Val, node_width, size, nodes, contents}
use Rattle.x696.specs.Types.{Ty}
use Rattle.x696.specs.Encode.{encode}
use Rattle.x696.specs.Read.{Message, message, offset, read}
use Rattle.x696.specs.Walk.{Listed, list_at, walk_component}
use Rattle.x696.specs.Table.{row_width, type_of}
use Rattle.x696.specs.TableFault.{TableFault, sound, bad_size, bad_row, table_fault}
use Rattle.x696.specs.Reply.{Reply, refusal_reply, done_reply, Answer, refusal, done, then, answer, unless, in_part}

-- the limits of document 01
abbrev pub node_limit : ℕ
node_limit = 4096

abbrev pub octet_limit : ℕ
octet_limit = 65535

-- ---- what the operations are made of
-- a usable table and a row of it: 1, 2, 3
unfoldable pub usable : TableFault → (rows items : List ℕ) → (row : ℕ) → Answer Ty
usable bad_size rows items r = refusal 1 0 0
usable (bad_row k) rows items r = refusal 2 0 k
usable sound rows items r = unless (ltb r (length rows / row_width)) 3 0 0 (done (type_of rows items r))

unfoldable pub asked : (rows items : List ℕ) → (row : ℕ) → Answer Ty
asked rows items r = usable (table_fault rows items) rows items r

-- a whole message: 4, the first fault in reading order, 9
unfoldable pub read_message : Ty → List ℕ → Outcome Message Val
read_message t s =
    must (leb (length s) octet_limit) 4 0
    (next (read node_limit t (length s) (message s 0)) λ v r.
    must (eqb (length r.octets) 0) 9 (offset (length s) r.octets) (got v r))

-- a whole value list for a component with this mark:
-- an odd word 11, 10, 4, the walk, left over nodes 11, left over contents 11
unfoldable pub walk_list : (mark : ℕ) → Ty → (words contents : List ℕ) → Outcome Listed Val
walk_list m t ws cs =
    must (eqb (length ws % node_width) 0) 11 (length ws / node_width)
    (must (leb (length ws / node_width) node_limit) 10 0
    (must (leb (length cs) octet_limit) 4 0
    (next (walk_component m t (list_at ws cs 0)) λ v r.
    must (eqb (length r.words) 0) 11 r.at (must (eqb (length r.contents) 0) 11 r.at (got v r)))))

-- a result's octets: 4, and 12 where the lent buffer is smaller
unfoldable pub result_fits : (octets : List ℕ) → Answer (List ℕ)
result_fits os = unless (leb (length os) octet_limit) 4 4 0 (done os)

unfoldable pub room_for : (octets out : List ℕ) → Answer (List ℕ)
room_for os out = unless (leb (length os) (length out)) 12 4 0 (done os)

-- octets or words at the front of a lent buffer
unfoldable pub over : (new old : List ℕ) → List ℕ
over new old = new ++ drop (length new) old

-- ---- the operations
unfoldable pub check_reply : TableFault → Reply
check_reply bad_size = refusal_reply 1 0 0
check_reply (bad_row k) = refusal_reply 2 0 k
check_reply sound = done_reply 0 0

-- check a table
unfoldable pub check : (rows items : List ℕ) → Reply
check rows items = check_reply (table_fault rows items)

-- validate a message: the nodes and contents octets of its value
unfoldable pub value_in : (rows items : List ℕ) → (row : ℕ) → (octets : List ℕ) → Answer Val
value_in rows items r s = then (asked rows items r) λ t. in_part 1 (read_message t s)

unfoldable pub validate : (rows items : List ℕ) → (row : ℕ) → (octets : List ℕ) → Reply
validate rows items r s = answer (value_in rows items r s) refusal_reply λ v. done_reply (size v) (length (contents v))

-- decode: the same, and the value list in the two lent buffers; 12 where either is too small
pub record Decoded : Type 0 where
  pub reply : Reply
  pub nodes : List ℕ
  pub contents : List ℕ

unfoldable pub decodable : (rows items : List ℕ) → (row : ℕ) → (octets ns cs : List ℕ) → Answer Val
decodable rows items r s ns cs =
    then (value_in rows items r s) λ v.
    unless (leb (size v * node_width) (length ns) && leb (length (contents v)) (length cs)) 12 4 0 (done v)

unfoldable pub decode : (rows items : List ℕ) → (row : ℕ) → (octets ns cs : List ℕ) → Decoded
decode rows items r s ns cs =
    answer (decodable rows items r s ns cs)
    (λ n q p. record { reply = refusal_reply n q p; nodes = ns; contents = cs })
    λ v. record {
      reply = done_reply (size v) (length (contents v));
      nodes = over (nodes v) ns;
      contents = over (contents v) cs;
    }

-- measure a value list: the octets of its value
unfoldable pub octets_for : (rows items : List ℕ) → (row : ℕ) → (ws cs : List ℕ) → Answer (List ℕ)
octets_for rows items r ws cs =
    then (asked rows items r) λ t. then (in_part 2 (walk_list 0 t ws cs)) λ v. result_fits (encode t v)

unfoldable pub measure : (rows items : List ℕ) → (row : ℕ) → (ws cs : List ℕ) → Reply
measure rows items r ws cs = answer (octets_for rows items r ws cs) refusal_reply λ os. done_reply 0 (length os)

-- what an operation with a result leaves in the lent buffer
pub record Written : Type 0 where
  pub reply : Reply
  pub out : List ℕ

unfoldable pub written : Answer (List ℕ) → (out : List ℕ) → Written
written a out =
    answer a
    (λ n q p. record { reply = refusal_reply n q p; out = out })
    λ os. record { reply = done_reply 0 (length os); out = over os out }

-- encode: the octets at the front of the lent buffer
unfoldable pub encode_list : (rows items : List ℕ) → (row : ℕ) → (ws cs out : List ℕ) → Written
encode_list rows items r ws cs out = written (then (octets_for rows items r ws cs) λ os. room_for os out) out
