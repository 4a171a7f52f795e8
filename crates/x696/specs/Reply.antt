-- Replies (document 01, "Replies"): number, part, place and counts; a refusal has zero counts.
-- Parts: 0 table or DONE, 1 message, 2 value list, 3 path, 4 result. The operation puts the part on, not the reader.
-- Assumes nothing.
use Rattle.std.specs.Prelude.{Bool, true, false, ℕ}
use Rattle.x696.specs.Outcome.{Outcome, refused, got}

pub record Reply : Type 0 where
  pub number : ℕ
  pub part : ℕ
  pub place : ℕ
  pub nodes : ℕ
  pub octets : ℕ

abbrev pub refusal_reply : (number part place : ℕ) → Reply
refusal_reply n q p = record { number = n; part = q; place = p; nodes = 0; octets = 0 }

-- 0 DONE
abbrev pub done_reply : (nodes octets : ℕ) → Reply
done_reply n o = record { number = 0; part = 0; place = 0; nodes = n; octets = o }

-- what an operation comes to: a refusal, or what it hands out
pub data Answer (A : Type 0) : Type 0 where
  refusal : (number part place : ℕ) → Answer A
  done : A → Answer A

module _ {A B : Type 0} where
  unfoldable pub then : Answer A → (A → Answer B) → Answer B
  then (refusal n q p) k = refusal n q p
  then (done a) k = k a

  -- what is made of an answer: of a refusal's three numbers, or of what was handed out
  unfoldable pub answer : Answer A → ((number part place : ℕ) → B) → (A → B) → B
  answer (refusal n q p) refuses hands = refuses n q p
  answer (done a) refuses hands = hands a

module _ {A : Type 0} where
  unfoldable pub unless : Bool → (number part place : ℕ) → Answer A → Answer A
  unless true n q p o = o
  unless false n q p o = refusal n q p

-- a reading's outcome, with its part
module _ {S A : Type 0} where
  unfoldable pub in_part : (part : ℕ) → Outcome S A → Answer A
  in_part q (refused n p) = refusal n q p
  in_part q (got a s) = done a
