-- Decoding and encoding undo each other, on the operations' definitions; validating and measuring foretell their
-- replies; no two values of a type share an encoding and none begins another's, said of messages and of value lists.
-- Assumes nothing.
use Rattle.std.specs.Prelude.{◌≡◌, refl, ◌&&◌, List, [], ◌++◌, ℕ, ◌*◌, ◌/◌, ◌≤◌, length, take, leb}
use Rattle.std.proofs.Common.{ap, ◌∙◌, append-nil, arith, le-leb}
use Rattle.std.proofs.Math.Seq.{take-append_seam}
use Rattle.x696.specs.Digits.{Below}
use Rattle.x696.proofs.DigitsLaws.{below_split}
use Rattle.x696.specs.Value.{Val, node_width, size, nodes, contents}
use Rattle.x696.specs.Types.{Ty}
use Rattle.x696.specs.Encode.{encode}
use Rattle.x696.specs.Table.{type_of}
use Rattle.x696.specs.Reply.{Answer, refusal, done, then, answer, unless, refusal_reply, done_reply}
use Rattle.x696.specs.Operations.{over, value_in, validate, decodable, decode, octets_for, measure}
use Rattle.x696.specs.Operations.{room_for, written, encode_list}
use Rattle.x696.proofs.Unique.{encode_prefix_free}
use Rattle.x696.proofs.ListLaws.{nodes_length, list_unique}
use Rattle.x696.specs.Usable.{Usable, Within, Room, decoded_as, written_as}
use Rattle.x696.specs.Result.{list_of, contents_in, result_of}
use Rattle.x696.proofs.EditLaws.{result_done}
use Rattle.x696.proofs.OperationLaws.{formed, validate_sound, decode_complete, decode_sound}
use Rattle.x696.proofs.OperationLaws.{encode_complete, encode_sound}

-- ---- what is handed out, from the front of a lent buffer
front_is : (new old : List ℕ) (n : ℕ) → length new ≡ n → take n (over new old) ≡ new
unfolding over
front_is new old n e = rw (← e, take-append_seam)

list_is : (v : Val) (ns cs : List ℕ) → list_of (decoded_as v ns cs) ≡ nodes v
list_is v ns cs = front_is (nodes v) ns _ (nodes_length v)

contents_is : (v : Val) (ns cs : List ℕ) → contents_in (decoded_as v ns cs) ≡ contents v
contents_is v ns cs = front_is (contents v) cs _ refl

module _ (rows items : List ℕ) (r : ℕ) (u : Usable rows items r) where
  abbrev its : Ty
  its = type_of rows items r

  -- ---- a message decoded, and its list encoded
  handed_of : (s ns cs : List ℕ) (v : Val) → Within its v → s ≡ encode its v → Room v ns cs
      → (list_of (decode rows items r s ns cs) ≡ nodes v) × (contents_in (decode rows items r s ns cs) ≡ contents v)
  handed_of s ns cs v w is room =
      let d = decode_complete rows items r u s ns cs v w is room in
      (ap list_of d ∙ list_is v ns cs, ap contents_in d ∙ contents_is v ns cs)

  encode_back : (s ns cs out : List ℕ) (v : Val) → Within its v → s ≡ encode its v → Room v ns cs
      → length s ≤ length out
      → encode_list rows items r (list_of (decode rows items r s ns cs)) (contents_in (decode rows items r s ns cs)) out
      ≡ written_as s out
  encode_back s ns cs out v w is room h =
      let (list, held) = handed_of s ns cs v w is room in
      let long = ap length is in
      encode_complete rows items r u _ _ out v w list held (omega arith) ∙ rw is

  pub encode_decoded : (s ns cs out : List ℕ) → Below 8 s → (decode rows items r s ns cs).reply.number ≡ 0
      → length s ≤ length out
      → encode_list rows items r (list_of (decode rows items r s ns cs)) (contents_in (decode rows items r s ns cs)) out
      ≡ written_as s out
  encode_decoded s ns cs out b e h =
      let (v, within, is, room) = decode_sound rows items r u s ns cs b e in
      encode_back s ns cs out v within is room h

  -- ---- a list encoded, and its message decoded
  result_of_lem : (ws cs out : List ℕ) (v : Val) → Within its v → ws ≡ nodes v → cs ≡ contents v
      → length (encode its v) ≤ length out
      → result_of (encode_list rows items r ws cs out) ≡ encode its v
  result_of_lem ws cs out v w is is' room =
      ap result_of (encode_complete rows items r u ws cs out v w is is' room) ∙ result_done (encode its v) out

  decode_back : (ws cs out ns bs : List ℕ) (v : Val) → Within its v → ws ≡ nodes v → cs ≡ contents v
      → length (encode its v) ≤ length out
      → length ws ≤ length ns → length cs ≤ length bs
      → decode rows items r (result_of (encode_list rows items r ws cs out)) ns bs
      ≡ record { reply = done_reply (length ws / node_width) (length cs); nodes = over ws ns; contents = over cs bs }
  decode_back ws cs out ns bs v w is is' room h g =
      let many = nodes_length v in
      let long = ap length is in
      let halves : length (nodes v) / node_width ≡ size v = omega arith in
      decode_complete rows items r u _ ns bs v w (result_of_lem ws cs out v w is is' room)
      (record { for_nodes = omega arith; for_contents = rw (← is') g })
      ∙ rw (is, is', halves)

  pub decode_encoded : (ws cs out ns bs : List ℕ) → Below 64 ws → Below 8 cs
      → (encode_list rows items r ws cs out).reply.number ≡ 0
      → length ws ≤ length ns → length cs ≤ length bs
      → decode rows items r (result_of (encode_list rows items r ws cs out)) ns bs
      ≡ record { reply = done_reply (length ws / node_width) (length cs); nodes = over ws ns; contents = over cs bs }
  decode_encoded ws cs out ns bs b o e h g =
      let (v, within, is, is', room) = encode_sound rows items r u ws cs out b o e in
      decode_back ws cs out ns bs v within is is' room h g

-- ---- two rows, of one table or of two, that stand for one type
module _ (rows items : List ℕ) (r : ℕ) (u : Usable rows items r)
    (rows' items' : List ℕ) (r' : ℕ) (u' : Usable rows' items' r') (one : type_of rows items r ≡ type_of rows' items' r')
  where
    -- messages: none begins another
    pub messages_apart : (s after : List ℕ) → Below 8 (s ++ after)
        → (validate rows items r s).number ≡ 0 → (validate rows' items' r' (s ++ after)).number ≡ 0
        → after ≡ []
    messages_apart s after b e e' =
        let (v, within, is) = validate_sound rows items r u s (below_split 8 s after b refl).0 e in
        let (v', within', is') = validate_sound rows' items' r' u' (s ++ after) b e' in
        let fits' = rw (← one) at within'.fits in
        let begins = append-nil (encode (type_of rows items r) v') in
        (encode_prefix_free within.fits fits' after [] (cc (is, is', one, begins))).1

    -- messages: two that hand out one list are one
    pub messages_one : (s ns cs s' ns' cs' : List ℕ) → Below 8 s → Below 8 s'
        → (decode rows items r s ns cs).reply.number ≡ 0 → (decode rows' items' r' s' ns' cs').reply.number ≡ 0
        → list_of (decode rows items r s ns cs) ≡ list_of (decode rows' items' r' s' ns' cs')
        → contents_in (decode rows items r s ns cs) ≡ contents_in (decode rows' items' r' s' ns' cs')
        → s ≡ s'
    messages_one s ns cs s' ns' cs' b b' e e' same_list same-contents =
        let (v, within, is, room) = decode_sound rows items r u s ns cs b e in
        let (v', within', is', room') = decode_sound rows' items' r' u' s' ns' cs' b' e' in
        let (list, held) = handed_of rows items r u s ns cs v within is room in
        let (list', held') = handed_of rows' items' r' u' s' ns' cs' v' within' is' room' in
        let fits' = rw (← one) at within'.fits in
        let same = list_unique within.fits fits' (formed rows items r u) (cc (list, list')) (cc (held, held')) in
        cc (is, is', one, same)

    -- value lists: if the octets of one begin those of another, they are one list
    pub lists_apart : (ws cs out ws' cs' out' after : List ℕ) → Below 64 ws → Below 8 cs → Below 64 ws' → Below 8 cs'
        → (encode_list rows items r ws cs out).reply.number ≡ 0
        → (encode_list rows' items' r' ws' cs' out').reply.number ≡ 0
        → result_of (encode_list rows items r ws cs out) ++ after ≡ result_of (encode_list rows' items' r' ws' cs' out')
        → (ws ≡ ws') × (cs ≡ cs') × (after ≡ [])
    lists_apart ws cs out ws' cs' out' after b o b' o' e e' begins =
        let (v, within, is, held, room) = encode_sound rows items r u ws cs out b o e in
        let (v', within', is', held', room') = encode_sound rows' items' r' u' ws' cs' out' b' o' e' in
        let octets = result_of_lem rows items r u ws cs out v within is held room in
        let octets' = result_of_lem rows' items' r' u' ws' cs' out' v' within' is' held' room' in
        let fits' = rw (← one) at within'.fits in
        let (same, none) = encode_prefix_free within.fits fits' after []
        (cc (octets, octets', begins, one, append-nil (encode (type_of rows items r) v'))) in
        (cc (is, is', same), cc (held, held', same), none)

-- ---- measuring and validating, on any table: with the room that they name, encoding and decoding reply as they do
measured : (a : Answer (List ℕ)) (out : List ℕ)
    → (answer a refusal_reply (λ os. done_reply 0 (length os))).octets ≤ length out
    → (written (then a λ os. room_for os out) out).reply ≡ answer a refusal_reply (λ os. done_reply 0 (length os))
unfolding answer then written room_for unless
measured (refusal n q p) out h = refl
measured (done os) out h = rw (le-leb (length os) (length out) h)

pub measure_foretells : (rows items : List ℕ) (r : ℕ) (ws cs out : List ℕ)
    → (measure rows items r ws cs).octets ≤ length out
    → (encode_list rows items r ws cs out).reply ≡ measure rows items r ws cs
unfolding measure encode_list
measure_foretells rows items r ws cs out h = measured (octets_for rows items r ws cs) out h

validated : (a : Answer Val) (ns cs : List ℕ)
    → (answer a refusal_reply (λ v. done_reply (size v) (length (contents v)))).nodes * node_width ≤ length ns
    → (answer a refusal_reply (λ v. done_reply (size v) (length (contents v)))).octets ≤ length cs
    → (answer
    (then a λ v.
    unless (leb (size v * node_width) (length ns) && leb (length (contents v)) (length cs)) 12 4 0 (done v))
    (λ n q p. record { reply = refusal_reply n q p; nodes = ns; contents = cs })
    (λ v. decoded_as v ns cs)
    ).reply
    ≡ answer a refusal_reply (λ v. done_reply (size v) (length (contents v)))
unfolding answer then unless
validated (refusal n q p) ns cs h g = refl
validated (done v) ns cs h g =
    rw (le-leb (size v * node_width) (length ns) h, le-leb (length (contents v)) (length cs) g)

pub validate_foretells : (rows items : List ℕ) (r : ℕ) (s ns cs : List ℕ)
    → (validate rows items r s).nodes * node_width ≤ length ns → (validate rows items r s).octets ≤ length cs
    → (decode rows items r s ns cs).reply ≡ validate rows items r s
unfolding validate decode decodable
validate_foretells rows items r s ns cs h g = validated (value_in rows items r s) ns cs h g
