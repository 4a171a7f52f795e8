-- What every answer of an operation keeps: a refusal is one of a family of document 01's table (RefusalTable).
-- The laws follow the combinators `then`, `unless`, `in_part` and `answer`. Assumes nothing.
use Rattle.std.specs.Prelude.{◌≡◌, Bool, ℕ, ◌<◌}
use Rattle.std.proofs.Math.Path.{refl}
use Rattle.std.proofs.Math.Bool.{true, false}
use Rattle.std.proofs.Common.{arith}
use Rattle.x696.specs.Outcome.{Outcome}
use Rattle.x696.proofs.Ends.{Ends, refuses, reads}
use Rattle.x696.specs.Reply.{Answer, done, then, answer, unless, in_part}
use Rattle.x696.specs.RefusalTable.{Family, ◌or◌, first, second, OfTable, table_size, table_row, OfRow, no_row}
use Rattle.x696.specs.RefusalTable.{OfMessage, message_long, in_value, left_over, message_nodes, OfList, list_nodes}
use Rattle.x696.specs.RefusalTable.{list_long, not_allowed, bad_list, LongResult, result_long, NoRoom, no_room}
use Rattle.x696.specs.Replying.{Answers, refused_by, hands}

module _ {A B : Type 0} {P Q : Family} where
  pub then_answers : {a : Answer A} (k : A → Answer B) → Answers P a → ((x : A) → Answers Q (k x))
      → Answers (P or Q) (then a k)
  unfolding then
  then_answers k (refused_by h) f = refused_by (first h)
  then_answers k (hands {a = a}) f = behind (f a)
    where
      behind : {b : Answer B} → Answers Q b → Answers (P or Q) b
      behind (refused_by h) = refused_by (second h)
      behind hands = hands

module _ {A : Type 0} {R : Family} where
  pub unless_answers : (t : Bool) (n q p : ℕ) (a : A) → R n q p → Answers R (unless t n q p (done a))
  unfolding unless
  unless_answers true n q p a h = hands
  unless_answers false n q p a h = refused_by h

  -- what is made of a thing handed out
  pub then_hands : {B : Type 0} {a : Answer B} (f : B → A) → Answers R a → Answers R (then a λ x. done (f x))
  unfolding then
  then_hands f (refused_by h) = refused_by h
  then_hands f hands = hands

module _ {S A : Type 0} {P : (number place : ℕ) → Type 0} {Q : S → Type 0} {R : Family} where
  pub in_part_answers : (q : ℕ) {o : Outcome S A} → ((n p : ℕ) → P n p → R n q p) → Ends P Q o
      → Answers R (in_part q o)
  unfolding in_part
  in_part_answers q f (refuses h) = refused_by (f _ _ h)
  in_part_answers q f (reads h) = hands

-- ---- no refusal has the number of DONE
abbrev pub Nonzero : Family → Type 0
Nonzero R = (n q p : ℕ) → R n q p → 0 < n

pub or_nonzero : (P Q : Family) → Nonzero P → Nonzero Q → Nonzero (P or Q)
or_nonzero P Q f g n q p (first h) = f n q p h
or_nonzero P Q f g n q p (second h) = g n q p h

pub table_nonzero : (rows : ℕ) → Nonzero (OfTable rows)
table_nonzero rows n q p table_size = omega arith
table_nonzero rows n q p (table_row h) = omega arith

pub row_nonzero : Nonzero OfRow
row_nonzero n q p no_row = omega arith

pub message_nonzero : (octets : ℕ) → Nonzero (OfMessage octets)
message_nonzero octets n q p message_long = omega arith
message_nonzero octets n q p (in_value a b h) = omega arith
message_nonzero octets n q p (left_over h) = omega arith
message_nonzero octets n q p (message_nodes h) = omega arith

pub list_nonzero : (nodes : ℕ) → Nonzero (OfList nodes)
list_nonzero nodes n q p list_nodes = omega arith
list_nonzero nodes n q p list_long = omega arith
list_nonzero nodes n q p (not_allowed h) = omega arith
list_nonzero nodes n q p (bad_list h) = omega arith

pub long_nonzero : Nonzero LongResult
long_nonzero n q p result_long = omega arith

pub room_nonzero : Nonzero NoRoom
room_nonzero n q p no_room = omega arith

-- an answer whose number is that of DONE hands something out
module _ {A B : Type 0} {R : Family} where
  pub answers_done {ℓ} : {a : Answer A} {X : Type ℓ} → Answers R a → Nonzero R → (number : B → ℕ)
      → (refuse : (number part place : ℕ) → B) → (hand : A → B) → ((n q p : ℕ) → number (refuse n q p) ≡ n)
      → number (answer a refuse hand) ≡ 0
      → ((x : A) → a ≡ done x → X) → X
  unfolding answer
  answers_done (refused_by {n = n} {q = q} {p = p} h) z number refuse hand is e f =
      absurd (omega (arith, z n q p h, is n q p))
  answers_done (hands {a = a}) z number refuse hand is e f = f a refl
