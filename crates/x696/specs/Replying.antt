-- What demand 1 says of an answer, of a reply and of lent memory. Refusals are of a family of document 01's table
-- (RefusalTable); a refusal has zero counts and leaves every lent buffer; what lies past the stated counts stays.
-- Assumes nothing.
use Rattle.std.specs.Prelude.{◌≡◌, List, ℕ, ◌*◌, ◌/◌, length, drop}
use Rattle.x696.specs.Value.{node_width}
use Rattle.x696.specs.Table.{row_width}
use Rattle.x696.specs.Reply.{Reply, refusal_reply, done_reply, Answer, refusal, done}
use Rattle.x696.specs.RefusalTable.{Family, ◌or◌, OfTable, OfRow}
use Rattle.x696.specs.Operations.{Decoded, Written}

-- the refusals of a table and its asked row: 1, 2, 3
abbrev pub Asking : (rows : List ℕ) → Family
Asking rows = OfTable (length rows / row_width) or OfRow

-- something handed out, or such a refusal
pub data Answers {A : Type 0} (R : Family) : Answer A → Type 0 where
  refused_by : {n q p : ℕ} → R n q p → Answers R (refusal n q p)
  hands : {a : A} → Answers R (done a)

-- a reply, with the buffers that were lent and what they then hold: DONE with its counts,
-- or such a refusal, with all counts zero and every buffer as it was
pub data Replies (R : Family) (lent : List (List ℕ)) : Reply → (held : List (List ℕ)) → Type 0 where
  is_done_lem : {nodes octets : ℕ} {held : List (List ℕ)} → Replies R lent (done_reply nodes octets) held
  is_refused : {n q p : ℕ} → R n q p → Replies R lent (refusal_reply n q p) lent

-- what lies past the counted octets
abbrev pub PastKept : (out : List ℕ) → Written → Type 0
PastKept out w = drop w.reply.octets w.out ≡ drop w.reply.octets out

-- what lies past the counted nodes and octets
pub record PastListKept (ns cs : List ℕ) (d : Decoded) : Type 0 where
  pub words : drop (d.reply.nodes * node_width) d.nodes ≡ drop (d.reply.nodes * node_width) ns
  pub octets : drop d.reply.octets d.contents ≡ drop d.reply.octets cs
