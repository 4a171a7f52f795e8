-- Demand 1, operation by operation: which replies it can give (RefusalTable), and what it leaves in lent memory.
-- Assumes nothing.
use Rattle.std.specs.Prelude.{◌≡◌, List, [], ◌∷◌, ℕ, ◌/◌, ◌<◌, length}
use Rattle.std.proofs.Math.Path.{refl}
use Rattle.x696.specs.Digits.{Below}
use Rattle.x696.specs.Value.{node_width}
use Rattle.x696.specs.Setting.{setting_of, fallback}
use Rattle.x696.specs.Table.{row_width}
use Rattle.x696.specs.TableFault.{TableFault, sound, bad_size, bad_row, table_fault}
use Rattle.x696.specs.Reply.{Answer, refusal, done, then, answer}
use Rattle.x696.specs.RefusalTable.{◌or◌, OfTable, table_size, table_row, OfMessage, OfList, OfPath, ManyNodes}
use Rattle.x696.specs.RefusalTable.{LongResult, NoRoom}
use Rattle.x696.specs.Operations.{check_reply, check, validate, decode, measure}
use Rattle.x696.specs.Operations.{encode_list}
use Rattle.x696.specs.Editing.{Place, place_in, edit, read_setting, shown_at, show_text}
use Rattle.x696.proofs.Answering.{then_answers, then_hands}
use Rattle.x696.proofs.AnswerLaws.{table_faulty, value_in_answers, decodable_answers, octets_for_answers}
use Rattle.x696.proofs.AnswerLaws.{place_in_answers, edited_octets_answers, room_answers}
use Rattle.x696.proofs.LentLaws.{answer_replies, written_replies, written_past}
use Rattle.x696.proofs.LentLaws as lent
use Rattle.x696.specs.Replying.{Asking, Answers, Replies, is_done_lem, is_refused, PastKept}

module _ (rows items : List ℕ) where
  fault_replies : (f : TableFault) → ((k : ℕ) → f ≡ bad_row k → k < length rows / row_width)
      → Replies (OfTable (length rows / row_width)) [] (check_reply f) []
  unfolding check_reply
  fault_replies bad_size h = is_refused table_size
  fault_replies (bad_row k) h = is_refused (table_row (h k refl))
  fault_replies sound h = is_done_lem

  pub check_replies : Replies (OfTable (length rows / row_width)) [] (check rows items) []
  unfolding check
  check_replies = fault_replies (table_fault rows items) (λ k e. table_faulty rows items e)

module _ (rows items : List ℕ) (r : ℕ) where
  pub measure_replies : (ws cs : List ℕ)
      → Replies (Asking rows or OfList (length ws / node_width) or LongResult) [] (measure rows items r ws cs) []
  unfolding measure
  measure_replies ws cs = answer_replies _ _ (octets_for_answers rows items r ws cs)

  pub encode_replies : (ws cs out : List ℕ)
      → Replies ((Asking rows or OfList (length ws / node_width) or LongResult) or NoRoom) (out ∷ [])
      (encode_list rows items r ws cs out).reply ((encode_list rows items r ws cs out).out ∷ [])
  unfolding encode_list
  encode_replies ws cs out =
      written_replies _ out (then_answers _ (octets_for_answers rows items r ws cs) λ os. room_answers os out)

  pub encode_past : (ws cs out : List ℕ) → PastKept out (encode_list rows items r ws cs out)
  unfolding encode_list
  encode_past ws cs out = written_past _ out

  module _ (s : List ℕ) (b : Below 8 s) where
    pub validate_replies : Replies (Asking rows or OfMessage (length s)) [] (validate rows items r s) []
    unfolding validate
    validate_replies = answer_replies _ _ (value_in_answers rows items r s b)

    pub decode_replies : (ns cs : List ℕ)
        → Replies ((Asking rows or OfMessage (length s)) or NoRoom) (ns ∷ cs ∷ []) (decode rows items r s ns cs).reply
        ((decode rows items r s ns cs).nodes ∷ (decode rows items r s ns cs).contents ∷ [])
    decode_replies ns cs = lent.decode_replies ns cs rows items r s (decodable_answers rows items r s b ns cs)

    pub edit_replies : (p ws cs out : List ℕ)
        → Replies
        (((Asking rows or OfMessage (length s) or OfPath (length p))
        or OfList (length ws / node_width) or ManyNodes or LongResult)
        or NoRoom)
        (out ∷ []) (edit rows items r s p ws cs out).reply ((edit rows items r s p ws cs out).out ∷ [])
    unfolding edit
    edit_replies p ws cs out =
        written_replies _ out (then_answers _ (edited_octets_answers rows items r s b p ws cs) λ os. room_answers os out)

    pub setting_answers : (p : List ℕ)
        → Answers (Asking rows or OfMessage (length s) or OfPath (length p)) (read_setting rows items r s p)
    unfolding read_setting
    setting_answers p = then_hands _ (place_in_answers rows items r s b p)

  pub edit_past : (s p ws cs out : List ℕ) → PastKept out (edit rows items r s p ws cs out)
  unfolding edit
  edit_past s p ws cs out = written_past _ out

  -- ---- a text has no reply: where the setting is refused, it is the fallback
  fallen_back : (a : Answer Place) (p : List ℕ) {n q z : ℕ}
      → then a (λ c. done (setting_of c.its c.value)) ≡ refusal n q z
      → answer a (λ n q z. fallback) (λ c. shown_at p c) ≡ fallback
  unfolding then answer
  fallen_back (refusal n q z) p e = refl
  fallen_back (done c) p e = cc

  pub text_falls_back : (s p : List ℕ) {n q z : ℕ} → read_setting rows items r s p ≡ refusal n q z
      → show_text rows items r s p ≡ fallback
  unfolding read_setting show_text
  text_falls_back s p e = fallen_back (place_in rows items r s p) p e
