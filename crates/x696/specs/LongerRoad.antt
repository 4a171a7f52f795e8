-- The longer road to an edited message (demand 3): decode into lists with room, find the component in the value that
-- was decoded (PATH), check the new list alone, swap, and encode the swapped value's own list.
-- Assumes nothing.
use Rattle.std.specs.Prelude.{◌≡◌, ◌≢◌, List, ℕ}
use Rattle.x696.specs.Value.{Val, nodes, contents}
use Rattle.x696.specs.Types.{Ty}
use Rattle.x696.specs.Table.{type_of}
use Rattle.x696.specs.Path.{find, replace}
use Rattle.x696.specs.Reply.{refusal_reply, Answer, done, then, answer, in_part}
use Rattle.x696.specs.Operations.{walk_list, Decoded, decode, Written, encode_list}
use Rattle.x696.specs.Editing.{place_of}
use Rattle.x696.specs.Result.{decoded}

-- the value with the new component in its place
unfoldable pub swapped : Ty → Decoded → (path ws cs : List ℕ) → Answer Val
swapped t d p ws cs =
    then (decoded t d) λ v.
    then (place_of t v (find t v p)) λ c.
    then (in_part 2 (walk_list c.mark c.its ws cs)) λ y. done (replace p y v)

-- the lists ns and os are lent to decode, out to encode
unfoldable pub longer_road : (rows items : List ℕ) → (row : ℕ) → (octets ns os path ws cs out : List ℕ) → Written
longer_road rows items r s ns os p ws cs out =
    answer (swapped (type_of rows items r) (decode rows items r s ns os) p ws cs)
    (λ n q z. record { reply = refusal_reply n q z; out = out })
    λ w. encode_list rows items r (nodes w) (contents w) out

-- two ways to one result: the same octets, and the same cause, which is the number. Only of a result that is too large
-- (10 and 4) may the parts differ: the last step of the longer road says it of a value list, an edit of its result
pub record SameResult (a b : Written) : Type 0 where
  pub number : a.reply.number ≡ b.reply.number
  pub out : a.out ≡ b.out
  pub reply : a.reply.number ≢ 10 → a.reply.number ≢ 4 → a.reply ≡ b.reply
