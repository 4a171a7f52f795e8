-- Demand 2: it is Canonical OER for the listed types. Within the limits a message is accepted exactly if some value of
-- its type has it as its encoding, and that value's list is handed out; counts are the definition's sizes of it.
-- Every value that fits the limits and the room encodes. Two values of one type never share an encoding, and neither
-- encoding begins the other. Encoding undoes decoding, and decoding encoding. A reply is DONE if its number is 0.
-- Assumed: a table without fault and a row of it (`Usable`); octets and words, as types in code say (`Below`).
use Rattle.std.specs.Prelude.{◌≡◌, ◌↔◌, List, [], ◌++◌, ℕ, ◌*◌, ◌/◌, ◌≤◌, length}
use Rattle.x696.specs.Digits.{Below}
use Rattle.x696.specs.Value.{Val, node_width, size, nodes, contents}
use Rattle.x696.specs.Types.{Ty}
use Rattle.x696.specs.Fits.{Fits}
use Rattle.x696.specs.Encode.{encode}
use Rattle.x696.specs.Table.{type_of}
use Rattle.x696.specs.Reply.{done_reply}
use Rattle.x696.specs.Operations.{validate, decode, measure, encode_list, over}
use Rattle.x696.specs.Usable.{Usable, Within, Room, decoded_as, written_as}
use Rattle.x696.specs.Result.{list_of, contents_in, result_of}
use Rattle.x696.proofs.Unique.{encode_prefix_free}
use Rattle.x696.proofs.OperationLaws as laws
use Rattle.x696.proofs.RoundTrip as trip

module _ (rows items : List ℕ) (row : ℕ) (usable : Usable rows items row) where
  abbrev its : Ty
  its = type_of rows items row

  -- ---- messages
  -- a message is valid exactly if some value within the limits has it as its encoding, and the counts are its sizes
  pub validate_takes : (msg : List ℕ) → Below 8 msg
      → ((validate rows items row msg).number ≡ 0) ↔ ((v : Val) × Within its v × (msg ≡ encode its v))
  validate_takes msg octets = laws.validate_takes rows items row usable msg octets

  pub validate_counts : (msg : List ℕ) (v : Val) → Within its v → msg ≡ encode its v
      → validate rows items row msg ≡ done_reply (size v) (length (contents v))
  validate_counts msg v w is = laws.validate_complete rows items row usable msg v w is

  -- decoded exactly if there is room besides, and what is handed out is that value's list
  pub decode_takes : (msg ns cs : List ℕ) → Below 8 msg
      → ((decode rows items row msg ns cs).reply.number ≡ 0)
      ↔ ((v : Val) × Within its v × (msg ≡ encode its v) × Room v ns cs)
  decode_takes msg ns cs octets = laws.decode_takes rows items row usable msg ns cs octets

  pub decode_hands : (msg ns cs : List ℕ) (v : Val) → Within its v → msg ≡ encode its v → Room v ns cs
      → decode rows items row msg ns cs ≡ decoded_as v ns cs
  decode_hands msg ns cs v w is room = laws.decode_complete rows items row usable msg ns cs v w is room

  -- ---- value lists
  -- a list is measured exactly if it is that of some value within the limits, and the count is of its octets
  pub measure_takes : (ws cs : List ℕ) → Below 64 ws → Below 8 cs
      → ((measure rows items row ws cs).number ≡ 0)
      ↔ ((v : Val) × Within its v × (ws ≡ nodes v) × (cs ≡ contents v))
  measure_takes ws cs words octets = laws.measure_takes rows items row usable ws cs words octets

  pub measure_counts : (ws cs : List ℕ) (v : Val) → Within its v → ws ≡ nodes v → cs ≡ contents v
      → measure rows items row ws cs ≡ done_reply 0 (length (encode its v))
  measure_counts ws cs v w is is' = laws.measure_complete rows items row usable ws cs v w is is'

  -- every value within the limits encodes where there is room, to its own octets; and nothing else does
  pub encode_takes : (ws cs out : List ℕ) → Below 64 ws → Below 8 cs
      → ((encode_list rows items row ws cs out).reply.number ≡ 0)
      ↔ ((v : Val) × Within its v × (ws ≡ nodes v) × (cs ≡ contents v) × (length (encode its v) ≤ length out))
  encode_takes ws cs out words octets = laws.encode_takes rows items row usable ws cs out words octets

  pub encode_hands : (ws cs out : List ℕ) (v : Val) → Within its v → ws ≡ nodes v → cs ≡ contents v
      → length (encode its v) ≤ length out
      → encode_list rows items row ws cs out ≡ written_as (encode its v) out
  encode_hands ws cs out v w is is' room = laws.encode_complete rows items row usable ws cs out v w is is' room

  -- ---- both ways
  -- the list of a message that was decoded encodes to that message
  pub encode_decoded : (msg ns cs out : List ℕ) → Below 8 msg
      → let d = decode rows items row msg ns cs in
      d.reply.number ≡ 0 → length msg ≤ length out
      → encode_list rows items row (list_of d) (contents_in d) out ≡ written_as msg out
  encode_decoded msg ns cs out octets e room = trip.encode_decoded rows items row usable msg ns cs out octets e room

  -- the octets of a list that was encoded decode to that list
  pub decode_encoded : (ws cs out ns bs : List ℕ) → Below 64 ws → Below 8 cs
      → let w = encode_list rows items row ws cs out in
      w.reply.number ≡ 0 → length ws ≤ length ns → length cs ≤ length bs
      → decode rows items row (result_of w) ns bs
      ≡ record { reply = done_reply (length ws / node_width) (length cs); nodes = over ws ns; contents = over cs bs }
  decode_encoded ws cs out ns bs words octets e h g =
      trip.decode_encoded rows items row usable ws cs out ns bs words octets e h g

-- on any table: with the room that validate or measure names, decode or encode replies the same
pub validate_foretells : (rows items : List ℕ) (row : ℕ) (msg ns cs : List ℕ)
    → (validate rows items row msg).nodes * node_width ≤ length ns → (validate rows items row msg).octets ≤ length cs
    → (decode rows items row msg ns cs).reply ≡ validate rows items row msg
validate_foretells rows items row msg ns cs h g = trip.validate_foretells rows items row msg ns cs h g

pub measure_foretells : (rows items : List ℕ) (row : ℕ) (ws cs out : List ℕ)
    → (measure rows items row ws cs).octets ≤ length out
    → (encode_list rows items row ws cs out).reply ≡ measure rows items row ws cs
measure_foretells rows items row ws cs out h = trip.measure_foretells rows items row ws cs out h

-- ---- two values of one type
-- if the octets of one begin those of the other, they are one value, and what follows is the same
pub values_apart : {t : Ty} {v w : Val} → Fits t v → Fits t w → (after after' : List ℕ)
    → encode t v ++ after ≡ encode t w ++ after'
    → (v ≡ w) × (after ≡ after')
values_apart f g after after' e = encode_prefix_free f g after after' e

-- said of the operations: the rows may be one row, or two of one table or of two tables that stand for one type
module _
    (rows items : List ℕ) (row : ℕ) (usable : Usable rows items row)
    (rows' items' : List ℕ) (row' : ℕ) (usable' : Usable rows' items' row')
    (one : type_of rows items row ≡ type_of rows' items' row')
  where
    -- no message begins another
    pub messages_apart : (msg after : List ℕ) → Below 8 (msg ++ after)
        → (validate rows items row msg).number ≡ 0 → (validate rows' items' row' (msg ++ after)).number ≡ 0
        → after ≡ []
    messages_apart msg after octets e e' =
        trip.messages_apart rows items row usable rows' items' row' usable' one msg after octets e e'

    -- messages that hand out one list are one message
    pub messages_one : (msg ns cs msg' ns' cs' : List ℕ) → Below 8 msg → Below 8 msg'
        → let d = decode rows items row msg ns cs in
        let d' = decode rows' items' row' msg' ns' cs' in
        d.reply.number ≡ 0 → d'.reply.number ≡ 0 → list_of d ≡ list_of d' → contents_in d ≡ contents_in d'
        → msg ≡ msg'
    messages_one msg ns cs msg' ns' cs' octets octets' e e' list held =
        trip.messages_one rows items row usable rows' items' row' usable' one msg ns cs msg' ns' cs' octets octets' e e'
        list held

    -- if the octets of one list begin those of another, they are one list
    pub lists_apart : (ws cs out ws' cs' out' after : List ℕ) → Below 64 ws → Below 8 cs → Below 64 ws' → Below 8 cs'
        → let w = encode_list rows items row ws cs out in
        let w' = encode_list rows' items' row' ws' cs' out' in
        w.reply.number ≡ 0 → w'.reply.number ≡ 0 → result_of w ++ after ≡ result_of w'
        → (ws ≡ ws') × (cs ≡ cs') × (after ≡ [])
    lists_apart ws cs out ws' cs' out' after b o b' o' e e' begins =
        trip.lists_apart rows items row usable rows' items' row' usable' one ws cs out ws' cs' out' after b o b' o' e e'
        begins
