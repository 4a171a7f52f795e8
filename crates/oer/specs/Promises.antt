-- The contracts of the public operations: the reply, and what every word of lent memory holds, on every input.
-- Each is by cases on what the definition answers (x696, Operations and Editing): a refusal with its number, part and
-- place has zero counts and leaves every buffer as lent; else DONE, with the counts and what is handed out.
-- Assumes nothing.
use Rattle.std.specs.Prelude.{◌≡◌, List, ℕ, length, take, drop}
use Rattle.x696.specs.Value.{Val, size, nodes, contents}
use Rattle.x696.specs.TableFault.{sound, bad_size, bad_row, table_fault}
use Rattle.x696.specs.Reply.{Answer, refusal, done, then, refusal_reply, done_reply}
use Rattle.x696.specs.Operations.{value_in, decodable, octets_for, room_for, over}
use Rattle.x696.specs.Setting.{Setting as Meant, fallback, part_of}
use Rattle.x696.specs.Editing.{edited_octets, read_setting, show_text}
use Rattle.table.specs.Replies.{as_reply}
use Rattle.table.specs.declared.reply.Reply.{Reply}
use Rattle.showing.specs.declared.settings.Setting.{Setting}
use Rattle.std.specs.Prelude.{Result, Ok}
use Rattle.octets.specs.declared.faults.Refusal.{Refusal}
use Rattle.showing.specs.Settings.{setting_as, told}

-- check a table: 1 TABLE SIZE, 2 TABLE ROW at the first row that breaks a rule, or DONE
pub record Checks (rows items : List ℕ) (r : Reply) : Type 0 where
  pub size : table_fault rows items ≡ bad_size → r ≡ as_reply (refusal_reply 1 0 0)
  pub row : (k : ℕ) → table_fault rows items ≡ bad_row k → r ≡ as_reply (refusal_reply 2 0 k)
  pub passes : table_fault rows items ≡ sound → r ≡ as_reply (done_reply 0 0)

-- validate a message: DONE with the nodes and the contents octets of its value
pub record Validates (rows items : List ℕ) (row : ℕ) (msg : List ℕ) (r : Reply) : Type 0 where
  pub refuses : (n q p : ℕ) → value_in rows items row msg ≡ refusal n q p → r ≡ as_reply (refusal_reply n q p)
  pub hands : (v : Val) → value_in rows items row msg ≡ done v → r ≡ as_reply (done_reply (size v) (length (contents v)))

-- decode: the same, and the value's list at the front of the two lent buffers; what lies behind it stays
pub record Decodes (rows items : List ℕ) (row : ℕ) (msg ns cs ns' cs' : List ℕ) (r : Reply) : Type 0 where
  pub refuses : (n q p : ℕ) → decodable rows items row msg ns cs ≡ refusal n q p
      → (r ≡ as_reply (refusal_reply n q p)) × (ns' ≡ ns) × (cs' ≡ cs)
  pub hands : (v : Val) → decodable rows items row msg ns cs ≡ done v
      → (r ≡ as_reply (done_reply (size v) (length (contents v))))
      × (ns' ≡ over (nodes v) ns) × (cs' ≡ over (contents v) cs)

-- measure a value list: DONE with the number of its value's octets
pub record Measures (rows items : List ℕ) (row : ℕ) (ws cs : List ℕ) (r : Reply) : Type 0 where
  pub refuses : (n q p : ℕ) → octets_for rows items row ws cs ≡ refusal n q p → r ≡ as_reply (refusal_reply n q p)
  pub hands : (os : List ℕ) → octets_for rows items row ws cs ≡ done os → r ≡ as_reply (done_reply 0 (length os))

-- an operation with a result: the octets at the front of the lent buffer; what lies behind them stays
pub record Writes (answer : Answer (List ℕ)) (out out' : List ℕ) (r : Reply) : Type 0 where
  pub refuses : (n q p : ℕ) → answer ≡ refusal n q p → (r ≡ as_reply (refusal_reply n q p)) × (out' ≡ out)
  pub hands : (os : List ℕ) → answer ≡ done os → (r ≡ as_reply (done_reply 0 (length os))) × (out' ≡ over os out)

-- encode a value list: its value's octets
abbrev pub Encodes : (rows items : List ℕ) (row : ℕ) (ws cs out out' : List ℕ) (r : Reply) → Type 0
Encodes rows items row ws cs out out' r =
    Writes (then (octets_for rows items row ws cs) λ os. room_for os out) out out' r

-- edit a message at a path: the octets of the value with that component replaced
abbrev pub Edits : (rows items : List ℕ) (row : ℕ) (msg path ws cs out out' : List ℕ) (r : Reply) → Type 0
Edits rows items row msg path ws cs out out' r =
    Writes (then (edited_octets rows items row msg path ws cs) λ os. room_for os out) out out' r

-- read a single setting: the refusal's three numbers, or the setting as document 01 numbers and values its cases
pub record Reads (rows items : List ℕ) (row : ℕ) (msg path : List ℕ) (r : Result Setting Refusal) : Type 0 where
  pub refuses : (n q p : ℕ) → read_setting rows items row msg path ≡ refusal n q p → told r ≡ refusal n q p
  pub hands : (s : Meant) → read_setting rows items row msg path ≡ done s → r ≡ Ok (setting_as s)

-- show a text: the part of the message that holds the string's octets, or the caller's whole fallback
pub record Shows (rows items : List ℕ) (row : ℕ) (msg path instead shown : List ℕ) : Type 0 where
  pub part : (start n : ℕ) → show_text rows items row msg path ≡ part_of start n → shown ≡ take n (drop start msg)
  pub whole : show_text rows items row msg path ≡ fallback → shown ≡ instead
