-- What the writer of one kind without components answers, in the terms of `walk_leaf` and `encode_leaf`, for every node
-- and every rest of the list: the octets of a number whole, of a string those before its contents. Assumes nothing.
use Rattle.std.specs.Prelude.{Result, Ok, Err, ◌≡◌, List, [], ◌∷◌, ◌++◌, ℕ, suc, ◌+◌, ◌≤◌, length, take, drop}
use Rattle.std.proofs.lemmas.List.Edits.{sets}
use Rattle.x696.specs.Outcome.{refused, got, choose}
use Rattle.x696.specs.Length.{length_octets}
use Rattle.x696.specs.Bits.{bit_octets, unused_bits}
use Rattle.x696.specs.Integer.{Form, fixed_unsigned, fixed_signed, any_unsigned, any_signed}
use Rattle.x696.specs.String.{fixed_size}
use Rattle.x696.specs.Value.{node, no_values}
use Rattle.x696.specs.Leaf.{Leaf, leaf_kind, encode_leaf}
use Rattle.x696.specs.Types.{Ty, leaf}
use Rattle.x696.specs.Walk.{Listed, list_at, walk_leaf}
use Rattle.octets.specs.Cause.{code_of}
use Rattle.octets.specs.declared.faults.Cause.{Cause}
use Rattle.pens.specs.declared.head.Head.{Head}

-- ---- a number: kinds 1 to 6
-- these octets stand from p on in the buffer, which became l' from l; the next one goes to q; ten of them at most
pub record Stored (l l' : List ℕ) (p q : ℕ) (octets : List ℕ) : Type 0 where
  pub stores : l' ≡ sets l p octets
  pub ends : q ≡ p + length octets
  pub near : q ≤ p + 10

-- the number n of the kind k: its octets stored from p on
pub record NumberPut (k : Leaf) (n p : ℕ) (l l' : List ℕ) (to : ℕ) : Type 0 where
  pub walks : (q : ℕ) (s : Listed) → walk_leaf k q n s ≡ got (node (leaf_kind k) n [] no_values) s
  pub stored : Stored l l' p to (encode_leaf k n [])

pub record Numbered (k : Leaf) (n p : ℕ) (l l' : List ℕ) (r : Result ℕ Cause) : Type 0 where
  pub went : (to : ℕ) → r ≡ Ok to → NumberPut k n p l l' to
  pub stopped : (x : Cause) → r ≡ Err x → (q : ℕ) (s : Listed) → walk_leaf k q n s ≡ refused (code_of x) q

-- the same of a row's type
pub record RowNumbered (t : Ty) (n p : ℕ) (l l' : List ℕ) (r : Result ℕ Cause) : Type 0 where
  pub kind : Leaf
  pub is : t ≡ leaf kind
  pub numbered : Numbered kind n p l l' r

-- how many octets a number of this form has, 0 where that varies
unfoldable pub form_width : Form → ℕ
form_width (fixed_unsigned k) = k
form_width (fixed_signed k) = k
form_width any_unsigned = 0
form_width any_signed = 0

-- ---- a string: kinds 7 to 9
-- what stands before n octets (14), and before n bits (13.3.1, 13.3.2)
unfoldable pub text_head : (flags a b n : ℕ) → List ℕ
text_head f a b n = choose (fixed_size f a b) (λ _. []) (λ _. length_octets n)

unfoldable pub bits_head : (flags a b n : ℕ) → List ℕ
bits_head f a b n =
    choose (fixed_size f a b) (λ _. []) (λ _. length_octets (suc (bit_octets n)) ++ (unused_bits n ∷ []))

-- the string of the kind k with the number n, whose contents stand in cs from u on
pub record HeadPut (k : Leaf) (cs : List ℕ) (n u p : ℕ) (l l' : List ℕ) (h : Head) : Type 0 where
  pub walks : (q at : ℕ) (ws : List ℕ) → walk_leaf k q n (list_at ws (drop u cs) at)
      ≡ got (node (leaf_kind k) n (take h.filled (drop u cs)) no_values) (list_at ws (drop (u + h.filled) cs) at)
  pub within : u + h.filled ≤ length cs
  pub before : List ℕ
  pub octets : encode_leaf k n (take h.filled (drop u cs)) ≡ before ++ take h.filled (drop u cs)
  pub stored : Stored l l' p h.to before

pub record Headed (k : Leaf) (cs : List ℕ) (n u p : ℕ) (l l' : List ℕ) (r : Result Head Cause) : Type 0 where
  pub went : (h : Head) → r ≡ Ok h → HeadPut k cs n u p l l' h
  pub stopped : (x : Cause) → r ≡ Err x → (q at : ℕ) (ws : List ℕ)
      → walk_leaf k q n (list_at ws (drop u cs) at) ≡ refused (code_of x) q

pub record RowHeaded (t : Ty) (cs : List ℕ) (n u p : ℕ) (l l' : List ℕ) (r : Result Head Cause) : Type 0 where
  pub kind : Leaf
  pub is : t ≡ leaf kind
  pub headed : Headed kind cs n u p l l' r
