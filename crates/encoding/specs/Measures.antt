-- What the operations' parts answer, in the terms of `Answer`: the octets that a whole value list comes to, or the
-- refusal.
-- Assumes nothing.
use Rattle.std.specs.Prelude.{Result, Ok, Err, ◌≡◌, List, ℕ, ◌*◌, ◌/◌, ◌<◌, ◌≤◌, length}
use Rattle.x696.specs.Outcome.{got}
use Rattle.x696.specs.Value.{Val, node_width}
use Rattle.x696.specs.Types.{Ty}
use Rattle.x696.specs.Encode.{encode, own_octets}
use Rattle.x696.specs.Walk.{Listed, list_at, walk_component}
use Rattle.x696.specs.Reply.{Reply as Meant, done, refusal_reply, done_reply, then, in_part}
use Rattle.octets.specs.Cause.{code_of}
use Rattle.octets.specs.Part.{part_of}
use Rattle.x696.specs.Table.{row_width, type_of}
use Rattle.x696.specs.TableFault.{sound, table_fault}
use Rattle.x696.specs.Operations.{node_limit, octet_limit, walk_list, result_fits, octets_for, Written}
use Rattle.table.specs.Replies.{as_reply}
use Rattle.table.specs.declared.reply.Reply.{Reply}
use Rattle.octets.specs.declared.faults.Refusal.{Refusal}
use Rattle.decoding.specs.Replied.{Refuses}

-- a whole list is that of a value, which comes to n octets as a component with this mark and default
pub record Accepted (mark default : ℕ) (t : Ty) (ws cs : List ℕ) (n : ℕ) : Type 0 where
  pub what : Val
  pub end : Listed
  pub walks : walk_component mark t (list_at ws cs 0) ≡ got what end
  pub whole : walk_list mark t ws cs ≡ got what end
  pub few : length ws ≤ node_limit * node_width
  pub short : length cs ≤ octet_limit
  pub octets : n ≡ length (own_octets mark default t what)

pub record ListAnswer (mark default : ℕ) (t : Ty) (ws cs : List ℕ) (r : Result ℕ Refusal) : Type 0 where
  pub went : (n : ℕ) → r ≡ Ok n → Accepted mark default t ws cs n
  pub stopped : (x : Refusal) → r ≡ Err x → Refuses (in_part 2 (walk_list mark t ws cs)) x

-- a list that is accepted, and comes to a result that is not too long; or 4 of the result
pub record OctetsIn (t : Ty) (ws cs : List ℕ) (r : Result ℕ Refusal) : Type 0 where
  pub went : (n : ℕ) → r ≡ Ok n → Accepted 0 0 t ws cs n × (n ≤ octet_limit)
  pub stopped : (x : Refusal) → r ≡ Err x → Refuses (then (in_part 2 (walk_list 0 t ws cs)) λ v. result_fits (encode t v)) x

-- the same for a row that is asked for, and a result that is not too long
pub record Fitting (rows items : List ℕ) (row : ℕ) (ws cs : List ℕ) (n : ℕ) : Type 0 where
  pub fault : table_fault rows items ≡ sound
  pub inside : row < length rows / row_width
  pub list : Accepted 0 0 (type_of rows items row) ws cs n
  pub is : octets_for rows items row ws cs ≡ done (encode (type_of rows items row) list.what)

pub record OctetsAnswer (rows items : List ℕ) (row : ℕ) (ws cs : List ℕ) (r : Result ℕ Refusal) : Type 0 where
  pub went : (n : ℕ) → r ≡ Ok n → Fitting rows items row ws cs n
  pub stopped : (x : Refusal) → r ≡ Err x → Refuses (octets_for rows items row ws cs) x

-- an operation with a result: the reply, and what the lent buffer then holds
pub record Writes (w : Written) (out : List ℕ) (r : Reply) : Type 0 where
  pub reply : r ≡ as_reply w.reply
  pub stored : out ≡ w.out

-- the same, told as the octets that were put or the refusal
abbrev pub reply_to : Result ℕ Refusal → Meant
reply_to (Ok n) = done_reply 0 n
reply_to (Err x) = refusal_reply (code_of x.cause) (part_of x.part) x.place

pub record Puts (w : Written) (out : List ℕ) (r : Result ℕ Refusal) : Type 0 where
  pub reply : reply_to r ≡ w.reply
  pub stored : out ≡ w.out
