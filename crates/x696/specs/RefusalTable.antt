-- Document 01's table of refusals ("Replies"): number, part and place of each, with the range that its place lies in.
-- One family for what is at fault: the table, the asked row, the message, the value list, the path, the result.
-- Which families an operation's refusals are from, AnswerLaws proves. Assumes nothing.
use Rattle.std.specs.Prelude.{ℕ, ◌<◌, ◌≤◌}

-- number, part and place that a claim allows
abbrev pub Family : Type 1
Family = (number part place : ℕ) → Type 0

-- of either family
infixr 20 ◌or◌
pub data ◌or◌ (P Q : Family) (number part place : ℕ) : Type 0 where
  first : P number part place → (P or Q) number part place
  second : Q number part place → (P or Q) number part place

-- the table, part 0: 1 TABLE SIZE; 2 TABLE ROW at one of its rows
pub data OfTable (rows : ℕ) : (number part place : ℕ) → Type 0 where
  table_size : OfTable rows 1 0 0
  table_row : {row : ℕ} → row < rows → OfTable rows 2 0 row

-- the asked row, part 0: 3 TYPE
pub data OfRow : (number part place : ℕ) → Type 0 where
  no_row : OfRow 3 0 0

-- a message, part 1: 4 LONG; 5 SHORT, 6 NOT CANONICAL, 7 NOT ALLOWED, 8 WIDE and 10 NODES at an offset in it or at its
-- end; 9 LEFT OVER at one of its octets
pub data OfMessage (octets : ℕ) : (number part place : ℕ) → Type 0 where
  message_long : OfMessage octets 4 1 0
  in_value : {n p : ℕ} → 5 ≤ n → n ≤ 8 → p ≤ octets → OfMessage octets n 1 p
  left_over : {p : ℕ} → p < octets → OfMessage octets 9 1 p
  message_nodes : {p : ℕ} → p ≤ octets → OfMessage octets 10 1 p

-- a value list, part 2: 10 NODES; 4 LONG; 7 NOT ALLOWED at one of its nodes; 11 LIST at one of them or at their number
pub data OfList (nodes : ℕ) : (number part place : ℕ) → Type 0 where
  list_nodes : OfList nodes 10 2 0
  list_long : OfList nodes 4 2 0
  not_allowed : {p : ℕ} → p < nodes → OfList nodes 7 2 p
  bad_list : {p : ℕ} → p ≤ nodes → OfList nodes 11 2 p

-- a path, part 3: 13 PATH at one of its steps
pub data OfPath (steps : ℕ) : (number part place : ℕ) → Type 0 where
  no_component : {p : ℕ} → p < steps → OfPath steps 13 3 p

-- a result, part 4: 10 NODES; 4 LONG; 12 ROOM
pub data ManyNodes : (number part place : ℕ) → Type 0 where
  result_nodes : ManyNodes 10 4 0

pub data LongResult : (number part place : ℕ) → Type 0 where
  result_long : LongResult 4 4 0

pub data NoRoom : (number part place : ℕ) → Type 0 where
  no_room : NoRoom 12 4 0
