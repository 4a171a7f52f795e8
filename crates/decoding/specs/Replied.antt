-- What the operations' parts answer, in the terms of `Answer`.
-- Assumes nothing.
use Rattle.std.specs.Prelude.{Result, Ok, Err, ◌≡◌, List, ℕ, ◌/◌, ◌<◌, length}
use Rattle.x696.specs.Value.{Val, size, contents}
use Rattle.x696.specs.Reply.{Reply as Meant, Answer, done, refusal_reply, done_reply}
use Rattle.octets.specs.Cause.{code_of}
use Rattle.octets.specs.Part.{part_of}
use Rattle.table.specs.declared.sound.Table.{Table}
use Rattle.x696.specs.Table.{row_width, type_of}
use Rattle.x696.specs.TableFault.{sound, table_fault}
use Rattle.x696.specs.Operations.{asked, Decoded}
use Rattle.table.specs.Replies.{as_reply, as_answer}
use Rattle.octets.specs.declared.faults.Refusal.{Refusal}
use Rattle.table.specs.declared.reply.Reply.{Reply}
use Rattle.decoding.specs.declared.operations.Counts.{Counts}

-- the answer is this refusal
pub record Refuses {A : Type 0} (a : Answer A) (x : Refusal) : Type 0 where
  pub is : a ≡ as_answer x

-- a usable table and a row of it, or 1, 2, 3
pub record AskedAnswer (rows items : List ℕ) (row : ℕ) (r : Result Table Refusal) : Type 0 where
  pub ready : (t : Table) → r ≡ Ok t
      → (t.rows.now ≡ rows) × (t.items.now ≡ items) × (table_fault rows items ≡ sound) × (row < length rows / row_width)
      × (asked rows items row ≡ done (type_of rows items row))
  pub stopped : (x : Refusal) → r ≡ Err x → Refuses (asked rows items row) x

-- a value handed out, by its sizes
pub record Handed (a : Answer Val) (c : Counts) : Type 0 where
  pub what : Val
  pub is : a ≡ done what
  pub nodes : c.nodes ≡ size what
  pub octets : c.octets ≡ length (contents what)

pub record ValueAnswer (a : Answer Val) (r : Result Counts Refusal) : Type 0 where
  pub went : (c : Counts) → r ≡ Ok c → Handed a c
  pub stopped : (x : Refusal) → r ≡ Err x → Refuses a x

-- decoding: the reply, and what each lent buffer then holds
pub record Decodes (d : Decoded) (nodes contents : List ℕ) (r : Reply) : Type 0 where
  pub reply : r ≡ as_reply d.reply
  pub listed : nodes ≡ d.nodes
  pub copied : contents ≡ d.contents

-- the same, told as the sizes of the value or the refusal
abbrev pub value_reply : Result Counts Refusal → Meant
value_reply (Ok c) = done_reply c.nodes c.octets
value_reply (Err x) = refusal_reply (code_of x.cause) (part_of x.part) x.place

pub record PutsValue (d : Decoded) (nodes contents : List ℕ) (r : Result Counts Refusal) : Type 0 where
  pub reply : value_reply r ≡ d.reply
  pub listed : nodes ≡ d.nodes
  pub copied : contents ≡ d.contents
