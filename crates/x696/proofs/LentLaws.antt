-- What an operation replies and leaves in lent memory, from its answer: a refusal leaves every buffer as lent, and what
-- lies past the stated counts stays in any case. Assumes nothing.
use Rattle.std.specs.Prelude.{◌≡◌, List, [], ◌∷◌, ℕ, length, drop}
use Rattle.std.proofs.Math.Path.{refl}
use Rattle.std.proofs.Math.Seq.{drop-append_seam}
use Rattle.x696.specs.Value.{Val, nodes, contents}
use Rattle.x696.proofs.ListLaws.{nodes_length}
use Rattle.x696.specs.Reply.{refusal_reply, done_reply, Answer, refusal, done, answer}
use Rattle.x696.specs.RefusalTable.{Family}
use Rattle.x696.specs.Operations.{over, Decoded, decodable, decode, written}
use Rattle.x696.specs.Usable.{decoded_as}
use Rattle.x696.specs.Replying.{Answers, refused_by, hands, Replies, is_done_lem, is_refused, PastKept, PastListKept}

over_past : (new old : List ℕ) (n : ℕ) → length new ≡ n → drop n (over new old) ≡ drop n old
unfolding over
over_past new old n e = rw (← e, drop-append_seam)

-- ---- an operation with nothing lent
module _ {A : Type 0} {R : Family} where
  pub answer_replies : {a : Answer A} (nodes octets : A → ℕ) → Answers R a
      → Replies R [] (answer a refusal_reply λ x. done_reply (nodes x) (octets x)) []
  unfolding answer
  answer_replies nodes octets (refused_by h) = is_refused h
  answer_replies nodes octets hands = is_done_lem

-- ---- an operation with a result
pub written_replies : {R : Family} (a : Answer (List ℕ)) (out : List ℕ) → Answers R a
    → Replies R (out ∷ []) (written a out).reply ((written a out).out ∷ [])
unfolding written answer
written_replies _ out (refused_by h) = is_refused h
written_replies _ out hands = is_done_lem

pub written_past : (a : Answer (List ℕ)) (out : List ℕ) → PastKept out (written a out)
unfolding written answer
written_past (refusal n q p) out = refl
written_past (done os) out = over_past os out (length os) refl

-- ---- decoding
module _ (ns cs : List ℕ) where
  abbrev decoded_by : Answer Val → Decoded
  decoded_by a =
      answer a (λ n q p. record { reply = refusal_reply n q p; nodes = ns; contents = cs }) λ v. decoded_as v ns cs

  decoded_replies : {R : Family} (a : Answer Val) → Answers R a
      → Replies R (ns ∷ cs ∷ []) (decoded_by a).reply ((decoded_by a).nodes ∷ (decoded_by a).contents ∷ [])
  unfolding answer
  decoded_replies _ (refused_by h) = is_refused h
  decoded_replies _ hands = is_done_lem

  decoded_past : (a : Answer Val) → PastListKept ns cs (decoded_by a)
  unfolding answer
  decoded_past (refusal n q p) = record { words = refl; octets = refl }
  decoded_past (done v) = record {
    words = over_past (nodes v) ns _ (nodes_length v);
    octets = over_past (contents v) cs _ refl;
  }

  module _ (rows items : List ℕ) (r : ℕ) (s : List ℕ) where
    pub decode_replies : {R : Family} → Answers R (decodable rows items r s ns cs)
        → Replies R (ns ∷ cs ∷ []) (decode rows items r s ns cs).reply
        ((decode rows items r s ns cs).nodes ∷ (decode rows items r s ns cs).contents ∷ [])
    unfolding decode
    decode_replies h = decoded_replies (decodable rows items r s ns cs) h

    pub decode_past : PastListKept ns cs (decode rows items r s ns cs)
    unfolding decode
    decode_past = decoded_past (decodable rows items r s ns cs)
