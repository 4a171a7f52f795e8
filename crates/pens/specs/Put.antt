-- What a writer's answer says in the terms of `walk` and `encode`: where the walk stands, and what the lent buffer then
-- holds. Stores skip what does not fit (`sets`), so the same contract at an empty buffer is measuring. After a refusal
-- nothing is said of the buffer: the operations lend an empty part first. Assumes nothing.
use Rattle.std.specs.Prelude.{◌≡◌, List, [], ℕ, ◌+◌, ◌*◌, ◌≤◌, length, drop, ltb, eqb}
use Rattle.std.proofs.lemmas.List.Edits.{sets}
use Rattle.x696.specs.Outcome.{Outcome, refused, got, next, must}
use Rattle.x696.specs.Value.{Val, node, node_width, only}
use Rattle.x696.specs.Types.{Ty, leaf, sequence, sequence_of, choice, item_count}
use Rattle.x696.specs.Read.{times}
use Rattle.x696.specs.Walk.{Listed, list_at, walk_leaf, walk, walk_components, walk_alternative}
use Rattle.octets.specs.declared.faults.Fault.{Fault}
use Rattle.pens.specs.declared.pen.Pen.{Pen}
use Rattle.std.specs.Prelude.{Result, Ok, Err}
use Rattle.octets.specs.Cause.{code_of}

abbrev pub pen : (at used to : ℕ) → Pen
pen n u p = record { at = n; used = u; to = p }

-- the walk of the list ws, cs with `at` nodes and `used` contents octets behind it
abbrev pub listed_at : (words contents : List ℕ) → (at used : ℕ) → Listed
listed_at ws cs n u = list_at (drop (n * node_width) ws) (drop u cs) n

-- the most octets that a node adds to its contents: a preamble has at most 128
abbrev pub node_octets : ℕ
node_octets = 256

-- the walk o came as far as c: from node n and contents octet u; the octets of its value, by `octets`, stand in the
-- buffer from p on, which became l' from l
pub record Penned (ws cs : List ℕ) (o : Outcome Listed Val) (octets : Val → List ℕ) (n u p : ℕ) (l l' : List ℕ)
    (c : Pen) : Type 0 where
  pub what : Val
  pub walks : o ≡ got what (listed_at ws cs c.at c.used)
  pub inside : c.at * node_width ≤ length ws
  pub within : c.used ≤ length cs
  pub ends : c.to ≡ p + length (octets what)
  pub bound : c.to + (n * node_octets + u) ≤ p + (c.at * node_octets + c.used)
  pub stored : l' ≡ sets l p (octets what)

pub record Put (ws cs : List ℕ) (o : Outcome Listed Val) (octets : Val → List ℕ) (n u p : ℕ) (l l' : List ℕ)
    (r : Result Pen Fault) : Type 0 where
  pub went : (c : Pen) → r ≡ Ok c → Penned ws cs o octets n u p l l' c
  pub stopped : (f : Fault) → r ≡ Err f → o ≡ refused (code_of f.cause) f.place

-- a value behind its own node p, which is of the type's kind and has this number
unfoldable pub walk_behind : Ty → (p number : ℕ) → Listed → Outcome Listed Val
walk_behind (leaf l) p n s = walk_leaf l p n s
walk_behind (sequence is) p n s =
    must (eqb n (item_count is)) 11 p (next (walk_components is s) λ vs r. got (node 10 n [] vs) r)
walk_behind (sequence_of t) p n s = next (times (λ s. walk t s) n s) λ vs r. got (node 11 n [] vs) r
walk_behind (choice is) p n s =
    must (ltb n (item_count is)) 11 p (next (walk_alternative is n s) λ v r. got (node 12 n [] (only v)) r)
