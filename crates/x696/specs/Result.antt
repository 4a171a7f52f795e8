-- What a caller has of an operation with a result: whether it is DONE, and the result, which stands at the front of the
-- lent buffer. The value that decoding gives is that of the list at the front of the two lent lists.
-- Assumes nothing.
use Rattle.std.specs.Prelude.{Bool, ◌&&◌, List, ℕ, ◌*◌, take, eqb}
use Rattle.x696.specs.Outcome.{choose}
use Rattle.x696.specs.Value.{Val, node_width}
use Rattle.x696.specs.Types.{Ty}
use Rattle.x696.specs.Reply.{Reply, Answer, refusal, in_part}
use Rattle.x696.specs.Operations.{walk_list, Decoded, Written}

-- DONE: number 0, which is part 0
unfoldable pub is_done : Reply → Bool
is_done r = eqb r.part 0 && eqb r.number 0

-- what an operation hands out: as many words or octets as its counts say
abbrev pub list_of : Decoded → List ℕ
list_of d = take (d.reply.nodes * node_width) d.nodes

abbrev pub contents_in : Decoded → List ℕ
contents_in d = take d.reply.octets d.contents

abbrev pub result_of : Written → List ℕ
result_of w = take w.reply.octets w.out

-- the refusal, or the value whose list has the nodes and contents octets that the reply counts
unfoldable pub decoded : Ty → Decoded → Answer Val
decoded t d =
    choose (is_done d.reply)
    (λ _. in_part 2 (walk_list 0 t (list_of d) (contents_in d)))
    (λ _. refusal d.reply.number d.reply.part d.reply.place)
