-- What a reader's answer says in the terms of `read`: where it stands, and what the two lent buffers then hold.
-- Stores skip what does not fit (`sets`), so the same contract at empty buffers is validation. After a refusal nothing
-- is said of the buffers: the operations lend empty parts first. Assumes nothing.
use Rattle.std.specs.Prelude.{◌≡◌, Bool, cond, List, [], ℕ, suc, ◌+◌, ◌*◌, ◌≤◌, length, take, drop}
use Rattle.std.proofs.lemmas.List.Edits.{sets}
use Rattle.x696.specs.Outcome.{Outcome, refused, got, next, choose}
use Rattle.x696.specs.Length.{run, read_run}
use Rattle.x696.specs.String.{fixed_size, read_fixed_bits, bits_in}
use Rattle.x696.specs.Value.{Val, node, no_values, node_width, size, nodes, contents}
use Rattle.x696.specs.Leaf.{Leaf, octet_string, visible_string}
use Rattle.x696.specs.Types.{Ty, leaf}
use Rattle.x696.specs.Read.{Message, message, read_inside}
use Rattle.x696.specs.Operations.{node_limit}
use Rattle.octets.specs.declared.faults.Fault.{Fault}
use Rattle.octets.specs.declared.answers.Number.{Number}
use Rattle.kinds.specs.declared.cursor.Cursor.{Cursor}
use Rattle.std.specs.Prelude.{Result, Ok, Err}
use Rattle.octets.specs.Cause.{code_of}

abbrev pub cursor : (at count used number : ℕ) → Cursor
cursor p n u x = record { at = p; count = n; used = u; number = x }

-- the number of a value's own node
unfoldable pub number_of : Val → ℕ
number_of (node k n os vs) = n

-- the outcome o was got as far as c: from octet p, with n nodes and u contents octets before it; the buffers l and b
-- became l' and b'
pub record Gone (msg : List ℕ) (o : Outcome Message Val) (p n u : ℕ) (l b l' b' : List ℕ) (c : Cursor) : Type 0 where
  pub what : Val
  pub reads : o ≡ got what (message (drop c.at msg) c.count)
  pub number : c.number ≡ number_of what
  pub inside : c.at ≤ length msg
  pub count : c.count ≡ n + size what
  pub used : c.used ≡ u + length (contents what)
  pub ahead : p + length (contents what) ≤ c.at
  pub stored : l' ≡ sets l (n * node_width) (nodes what)
  pub copied : b' ≡ sets b u (contents what)

pub record Ran (msg : List ℕ) (o : Outcome Message Val) (p n u : ℕ) (l b l' b' : List ℕ) (r : Result Cursor Fault) : Type 0 where
  pub went : (c : Cursor) → r ≡ Ok c → Gone msg o p n u l b l' b' c
  pub stopped : (f : Fault) → r ≡ Err f → o ≡ refused (code_of f.cause) f.place

-- the same of a value that is a number and no more: its node, of kind k, is for the caller to store
pub record ScalarFound (msg : List ℕ) (o : Outcome Message Val) (k p n : ℕ) (x : Number) : Type 0 where
  pub reads : o ≡ got (node k x.value [] no_values) (message (drop x.next msg) (suc n))
  pub inside : x.next ≤ length msg
  pub ahead : p ≤ x.next

pub record ScalarAnswer (msg : List ℕ) (o : Outcome Message Val) (k p n : ℕ) (r : Result Number Fault) : Type 0 where
  pub went : (x : Number) → r ≡ Ok x → ScalarFound msg o k p n x
  pub stopped : (f : Fault) → r ≡ Err f → o ≡ refused (code_of f.cause) f.place

-- a value at octet `at`, its own node counted as the one after `count`
unfoldable pub inside_at : Ty → (msg : List ℕ) → (at count : ℕ) → Outcome Message Val
inside_at t msg at count = read_inside node_limit t (length msg) (message (drop at msg) (suc count))

abbrev pub leaf_at : Leaf → (msg : List ℕ) → (at count : ℕ) → Outcome Message Val
leaf_at l msg at count = inside_at (leaf l) msg at count

-- ---- parts of the definitions of X.696, under names
-- a string of characters where they are to be shown, else of octets
unfoldable pub text_leaf : (visible : Bool) → (flags a b : ℕ) → Leaf
text_leaf v f a b = cond v (visible_string f a b) (octet_string f a b)

-- a string's contents: of a fixed size, or behind a determinant
unfoldable pub text_run : (flags a b p : ℕ) → List ℕ → Outcome (List ℕ) (List ℕ)
text_run f a b p s = choose (fixed_size f a b) (λ _. run p a s) (λ _. read_run p s)

-- an octet-level outcome in a message: the node is counted
abbrev pub in_message : Outcome (List ℕ) Val → (count : ℕ) → Outcome Message Val
in_message o count = next o λ v r. got v (message r (suc count))

unfoldable pub fixed_bits_at : (n : ℕ) → (msg : List ℕ) → (at count : ℕ) → Outcome Message Val
fixed_bits_at n msg at count = in_message (read_fixed_bits n at (drop at msg)) count

-- what the n octets from `start` on give, which a determinant counts
unfoldable pub bits_run_at : (flags a b : ℕ) → (msg : List ℕ) → (at start n count : ℕ) → Outcome Message Val
bits_run_at f a b msg at start n count =
    in_message (bits_in f a b at (take n (drop start msg)) (drop (start + n) msg)) count
