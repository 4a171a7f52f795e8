-- The octets of document 01 to be proved, cases 1 to 12, together: one test over the list of cases, computed once.
-- But for case 6 every case goes through a type table, its check and what the operations answer: replies, counts and
-- lent buffers, which are one longer than the result.
-- Assumes nothing.
use Rattle.std.specs.Prelude.{◌≡◌, refl, Bool, true, ◌&&◌, List, [], ◌∷◌, ◌++◌, ℕ, suc, ◌^◌, ◌-◌, ◌/◌, length, replicate, eqb}
use Rattle.x696.specs.Length.{length_octets}
use Rattle.x696.specs.Value.{node_width, same_octets}
use Rattle.x696.specs.Reply.{Reply}
use Rattle.x696.specs.Operations.{validate, Decoded, decode, Written, encode_list}
use Rattle.x696.specs.Editing.{edit}
use Rattle.x696.specs.Computing.{computing}

-- -n as a word
abbrev minus : ℕ → ℕ
minus n = 2 ^ 64 - n

abbrev rows : List ℕ
rows =
    -- 0: BOOLEAN
    1 ∷ 0 ∷ 0 ∷ 0 ∷ 0 ∷ 0 ∷
    -- 1: INTEGER (0..255)
    2 ∷ 3 ∷ 0 ∷ 255 ∷ 0 ∷ 0 ∷
    -- 2: INTEGER (0..256)
    2 ∷ 3 ∷ 0 ∷ 256 ∷ 0 ∷ 0 ∷
    -- 3: INTEGER (-1..128)
    2 ∷ 3 ∷ minus 1 ∷ 128 ∷ 0 ∷ 0 ∷
    -- 4: INTEGER (0..MAX)
    2 ∷ 1 ∷ 0 ∷ 0 ∷ 0 ∷ 0 ∷
    -- 5: INTEGER
    2 ∷ 0 ∷ 0 ∷ 0 ∷ 0 ∷ 0 ∷
    -- 6: ENUMERATED {a(-1), b(127), c(128)}
    3 ∷ 0 ∷ 0 ∷ 0 ∷ 0 ∷ 3 ∷
    -- 7: BIT STRING
    8 ∷ 0 ∷ 0 ∷ 0 ∷ 0 ∷ 0 ∷
    -- 8: BIT STRING (SIZE (3))
    8 ∷ 2 ∷ 3 ∷ 3 ∷ 0 ∷ 0 ∷
    -- 9: SEQUENCE {a BOOLEAN OPTIONAL, b INTEGER (0..255) DEFAULT 5}
    10 ∷ 0 ∷ 0 ∷ 0 ∷ 3 ∷ 2 ∷
    -- 10: SEQUENCE OF BOOLEAN
    11 ∷ 0 ∷ 0 ∷ 0 ∷ 5 ∷ 1 ∷
    -- 11: CHOICE {[63] BOOLEAN}
    12 ∷ 0 ∷ 0 ∷ 0 ∷ 6 ∷ 1 ∷
    -- 12: CHOICE {[5] BOOLEAN}
    12 ∷ 0 ∷ 0 ∷ 0 ∷ 7 ∷ 1 ∷
    -- 13: NULL
    6 ∷ 0 ∷ 0 ∷ 0 ∷ 0 ∷ 0 ∷
    []

abbrev items : List ℕ
items =
    minus 1 ∷ 0 ∷ 0 ∷ 127 ∷ 0 ∷ 0 ∷ 128 ∷ 0 ∷ 0 ∷
    0 ∷ 1 ∷ 0 ∷ 1 ∷ 2 ∷ 5 ∷
    0 ∷ 0 ∷ 0 ∷
    2 ∷ 63 ∷ 0 ∷
    2 ∷ 5 ∷ 0 ∷
    []

pub data Case : Type 0 where
  -- row, value list (nodes, contents), its octets: the list is encoded so, and the octets are read back as that list
  codes : (row : ℕ) → (ws cs octets : List ℕ) → Case
  -- row, message; the refusal's number and place, in part 1
  refuses : (row : ℕ) → (octets : List ℕ) → (number place : ℕ) → Case
  -- row, message, path, the new component's nodes; the edited message
  edits : (row : ℕ) → (octets path ws octets' : List ℕ) → Case
  -- a length and its determinant
  lengths : ℕ → (octets : List ℕ) → Case

-- a lent buffer with room for a list and one more, and what it is then
lent : List ℕ → List ℕ
lent s = replicate (suc (length s)) 7

filled_by : (new buffer : List ℕ) → Bool
unfolding same_octets
filled_by new b = same_octets b (new ++ (7 ∷ []))

is_done : (nodes octets : ℕ) → Reply → Bool
is_done n o r = eqb r.number 0 && (eqb r.part 0 && (eqb r.place 0 && (eqb r.nodes n && eqb r.octets o)))

is_refusal : (number place : ℕ) → Reply → Bool
is_refusal n p r = eqb r.number n && (eqb r.part 1 && (eqb r.place p && (eqb r.nodes 0 && eqb r.octets 0)))

writes : (octets : List ℕ) → Written → Bool
unfolding filled_by is_done
writes s w = is_done 0 (length s) w.reply && filled_by s w.out

hands : (ws cs : List ℕ) → Decoded → Bool
unfolding filled_by is_done
hands ws cs d = is_done (length ws / node_width) (length cs) d.reply && (filled_by ws d.nodes && filled_by cs d.contents)

holds : Case → Bool
unfolding computing lent writes hands is_refusal
holds (codes r ws cs s) =
    writes s (encode_list rows items r ws cs (lent s)) && hands ws cs (decode rows items r s (lent ws) (lent cs))
holds (refuses r s n p) = is_refusal n p (validate rows items r s)
holds (edits r s path ws s') = writes s' (edit rows items r s path ws [] (lent s'))
holds (lengths n s) = same_octets (length_octets n) s

pub all : List Case → Bool
unfolding holds
all [] = true
all (x ∷ xs) = holds x && all xs

abbrev cases : List Case
cases =
    -- 1
    codes 1 (2 ∷ 255 ∷ []) [] (0xFF ∷ []) ∷
    codes 2 (2 ∷ 255 ∷ []) [] (0x00 ∷ 0xFF ∷ []) ∷
    -- 2
    codes 3 (2 ∷ minus 1 ∷ []) [] (0xFF ∷ 0xFF ∷ []) ∷
    -- 3
    codes 4 (2 ∷ 0 ∷ []) [] (0x01 ∷ 0x00 ∷ []) ∷
    codes 4 (2 ∷ 256 ∷ []) [] (0x02 ∷ 0x01 ∷ 0x00 ∷ []) ∷
    -- 4
    codes 5 (2 ∷ 128 ∷ []) [] (0x02 ∷ 0x00 ∷ 0x80 ∷ []) ∷
    codes 5 (2 ∷ minus 128 ∷ []) [] (0x01 ∷ 0x80 ∷ []) ∷
    codes 5 (2 ∷ minus 129 ∷ []) [] (0x02 ∷ 0xFF ∷ 0x7F ∷ []) ∷
    -- 5; and 128, which the NOTE to 31.5 has wrong
    codes 6 (3 ∷ 127 ∷ []) [] (0x7F ∷ []) ∷
    codes 6 (3 ∷ minus 1 ∷ []) [] (0x81 ∷ 0xFF ∷ []) ∷
    codes 6 (3 ∷ 128 ∷ []) [] (0x82 ∷ 0x00 ∷ 0x80 ∷ []) ∷
    -- 6
    lengths 127 (0x7F ∷ []) ∷
    lengths 128 (0x81 ∷ 0x80 ∷ []) ∷
    lengths 256 (0x82 ∷ 0x01 ∷ 0x00 ∷ []) ∷
    -- 7
    codes 7 (8 ∷ 3 ∷ []) (0xA0 ∷ []) (0x02 ∷ 0x05 ∷ 0xA0 ∷ []) ∷
    codes 7 (8 ∷ 0 ∷ []) [] (0x01 ∷ 0x00 ∷ []) ∷
    codes 8 (8 ∷ 3 ∷ []) (0xA0 ∷ []) (0xA0 ∷ []) ∷
    -- 8
    codes 9 (10 ∷ 2 ∷ 0 ∷ 0 ∷ 2 ∷ 5 ∷ []) [] (0x00 ∷ []) ∷
    codes 9 (10 ∷ 2 ∷ 1 ∷ 1 ∷ 2 ∷ 6 ∷ []) [] (0xC0 ∷ 0xFF ∷ 0x06 ∷ []) ∷
    refuses 9 (0x40 ∷ 0x05 ∷ []) 6 1 ∷
    -- 9
    codes 10 (11 ∷ 2 ∷ 1 ∷ 1 ∷ 1 ∷ 1 ∷ []) [] (0x01 ∷ 0x02 ∷ 0xFF ∷ 0xFF ∷ []) ∷
    codes 10 (11 ∷ 0 ∷ []) [] (0x01 ∷ 0x00 ∷ []) ∷
    -- 10
    codes 11 (12 ∷ 0 ∷ 1 ∷ 0 ∷ []) [] (0xBF ∷ 0x3F ∷ 0x00 ∷ []) ∷
    refuses 12 (0xBF ∷ 0x05 ∷ []) 6 0 ∷
    -- 11
    codes 13 (6 ∷ 0 ∷ []) [] [] ∷
    refuses 0 [] 5 0 ∷
    refuses 0 (0x01 ∷ []) 6 0 ∷
    -- 12
    edits 9 (0x80 ∷ 0xFF ∷ []) (1 ∷ []) (2 ∷ 6 ∷ []) (0xC0 ∷ 0xFF ∷ 0x06 ∷ []) ∷
    edits 9 (0x80 ∷ 0xFF ∷ []) (0 ∷ []) (0 ∷ 0 ∷ []) (0x00 ∷ []) ∷
    []

pub cases_hold : all cases ≡ true
unfolding all
cases_hold = refl
