-- Demand 1: every table, message, value list and path, however broken, gets a reply. A refusal gives number, part and
-- place, has all counts zero, and leaves every lent buffer as it was; its number is one of document 01's table for that
-- operation, with its part, and its place lies in its range (x696, RefusalTable). What lies past the counts stays.
-- Definitions are total and operations ask nothing, so every input has a reply; these theorems say which it can be.
-- That a message is octets (`Below 8`), its type in code says. Nothing is assumed of a table, a list or a path.
use Rattle.std.specs.Prelude.{◌≡◌, List, [], ◌∷◌, ℕ, ◌/◌, length}
use Rattle.x696.specs.Digits.{Below}
use Rattle.x696.specs.Value.{node_width}
use Rattle.x696.specs.Table.{row_width}
use Rattle.x696.specs.Setting.{fallback}
use Rattle.x696.specs.Reply.{refusal}
use Rattle.x696.specs.Operations.{check, validate, decode, measure, encode_list}
use Rattle.x696.specs.Editing.{edit, read_setting, show_text}
use Rattle.x696.specs.RefusalTable.{◌or◌, OfTable, OfMessage, OfList, OfPath, ManyNodes, LongResult, NoRoom}
use Rattle.x696.specs.Replying.{Asking, Answers, Replies, PastKept, PastListKept}
use Rattle.x696.proofs.LentLaws as lent
use Rattle.x696.proofs.ReplyLaws as replies

-- check a table: DONE, or 1, or 2 at one of its rows
pub check_replies : (rows items : List ℕ) → Replies (OfTable (length rows / row_width)) [] (check rows items) []
check_replies rows items = replies.check_replies rows items

module _ (rows items : List ℕ) (row : ℕ) where
  module _ (msg : List ℕ) (octets : Below 8 msg) where
    -- validate: DONE, or a refusal of the table and row, or of the message
    pub validate_replies : Replies (Asking rows or OfMessage (length msg)) [] (validate rows items row msg) []
    validate_replies = replies.validate_replies rows items row msg octets

    -- decode: the same, or ROOM
    pub decode_replies : (ns cs : List ℕ)
        → let d = decode rows items row msg ns cs in
        Replies ((Asking rows or OfMessage (length msg)) or NoRoom) (ns ∷ cs ∷ []) d.reply
        (d.nodes ∷ d.contents ∷ [])
    decode_replies ns cs = replies.decode_replies rows items row msg octets ns cs

    -- edit: as decode up to 9, PATH, the new list's, 10, 4 and 12 of the result
    pub edit_replies : (path ws cs out : List ℕ)
        → let w = edit rows items row msg path ws cs out in
        Replies
        (((Asking rows or OfMessage (length msg) or OfPath (length path))
        or OfList (length ws / node_width) or ManyNodes or LongResult)
        or NoRoom)
        (out ∷ []) w.reply (w.out ∷ [])
    edit_replies path ws cs out = replies.edit_replies rows items row msg octets path ws cs out

    -- read a setting: it, or a refusal of an edit up to PATH
    pub setting_answers : (path : List ℕ)
        → Answers (Asking rows or OfMessage (length msg) or OfPath (length path)) (read_setting rows items row msg path)
    setting_answers path = replies.setting_answers rows items row msg octets path

  -- show a text: there is no reply, and the fallback where the setting is refused
  pub text_falls_back : (msg path : List ℕ) {n q p : ℕ} → read_setting rows items row msg path ≡ refusal n q p
      → show_text rows items row msg path ≡ fallback
  text_falls_back msg path e = replies.text_falls_back rows items row msg path e

  -- measure: DONE, or a refusal of the table and row, or of the list, or 4 of the result
  pub measure_replies : (ws cs : List ℕ)
      → Replies (Asking rows or OfList (length ws / node_width) or LongResult) [] (measure rows items row ws cs) []
  measure_replies ws cs = replies.measure_replies rows items row ws cs

  -- encode: the same, or ROOM
  pub encode_replies : (ws cs out : List ℕ)
      → let w = encode_list rows items row ws cs out in
      Replies ((Asking rows or OfList (length ws / node_width) or LongResult) or NoRoom) (out ∷ []) w.reply
      (w.out ∷ [])
  encode_replies ws cs out = replies.encode_replies rows items row ws cs out

  -- what lies past the stated counts stays, on every input
  pub decode_past : (msg ns cs : List ℕ) → PastListKept ns cs (decode rows items row msg ns cs)
  decode_past msg ns cs = lent.decode_past ns cs rows items row msg

  pub encode_past : (ws cs out : List ℕ) → PastKept out (encode_list rows items row ws cs out)
  encode_past ws cs out = replies.encode_past rows items row ws cs out

  pub edit_past : (msg path ws cs out : List ℕ) → PastKept out (edit rows items row msg path ws cs out)
  edit_past msg path ws cs out = replies.edit_past rows items row msg path ws cs out
