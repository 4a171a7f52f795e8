-- The premises of demand 2 can be met: a table, a row, a value of its type, its message and its list.
-- SEQUENCE {a BOOLEAN OPTIONAL, b INTEGER (0..255) DEFAULT 5, c VisibleString}: TRUE, 5, "A" is 80 FF 01 41. The table
-- has no fault, the value lies within the limits, the buffers have room for it, and four operations reply DONE.
-- Assumes nothing.
use Rattle.std.specs.Prelude.{◌≡◌, refl, Bool, true, ◌&&◌, List, [], ◌∷◌, ℕ, ◌^◌, replicate, ltb}
use Rattle.std.proofs.Common.{arith, ltb-true}
use Rattle.x696.proofs.OutcomeLaws.{and_both}
use Rattle.x696.specs.Digits.{Below}
use Rattle.x696.specs.Value.{Val, node, no_values, value}
use Rattle.x696.specs.Leaf.{boolean_fits, visible_fits}
use Rattle.x696.specs.Fits.{leaf_fits, sequence_fits, plain, carried, left_out, no_components, component}
use Rattle.x696.specs.Encode.{encode}
use Rattle.x696.specs.Table.{type_of}
use Rattle.x696.specs.Computing.{computing}
use Rattle.x696.specs.Reply.{done_reply}
use Rattle.x696.specs.Operations.{validate, decode, measure, encode_list}
use Rattle.x696.specs.Usable.{Usable, Within, Room, decoded_as, written_as}

-- BOOLEAN; INTEGER (0..255); VisibleString; the SEQUENCE
abbrev rows : List ℕ
rows =
    1 ∷ 0 ∷ 0 ∷ 0 ∷ 0 ∷ 0 ∷
    2 ∷ 3 ∷ 0 ∷ 255 ∷ 0 ∷ 0 ∷
    9 ∷ 0 ∷ 0 ∷ 0 ∷ 0 ∷ 0 ∷
    10 ∷ 0 ∷ 0 ∷ 0 ∷ 0 ∷ 3 ∷
    []

abbrev items : List ℕ
items = 0 ∷ 1 ∷ 0 ∷ 1 ∷ 2 ∷ 5 ∷ 2 ∷ 0 ∷ 0 ∷ []

abbrev settings : Val
settings =
    node 10 3 []
    (value (node 1 1 [] no_values)
    (value (node 2 5 [] no_values)
    (value (node 9 1 (0x41 ∷ []) no_values)
    no_values)))

abbrev message : List ℕ
message = 0x80 ∷ 0xFF ∷ 0x01 ∷ 0x41 ∷ []

abbrev list : List ℕ
list = 10 ∷ 3 ∷ 1 ∷ 1 ∷ 2 ∷ 5 ∷ 9 ∷ 1 ∷ []

abbrev text : List ℕ
text = 0x41 ∷ []

-- a buffer of n zeros
abbrev lent : ℕ → List ℕ
lent n = replicate n 0

pub record Witnessed : Type 0 where
  pub usable : Usable rows items 3
  pub within : Within (type_of rows items 3) settings
  pub octets : Below 8 message
  pub words : Below 64 list
  pub encoded : message ≡ encode (type_of rows items 3) settings
  pub room : Room settings (lent 9) (lent 2)
  pub validates : validate rows items 3 message ≡ done_reply 4 1
  pub decodes : decode rows items 3 message (lent 9) (lent 2) ≡ decoded_as settings (lent 9) (lent 2)
  pub measures : measure rows items 3 list text ≡ done_reply 0 4
  pub encodes : encode_list rows items 3 list text (lent 5) ≡ written_as message (lent 5)

-- a list of numbers below 2 ^ w, by a test
unfoldable all : (w : ℕ) → List ℕ → Bool
all w [] = true
all w (x ∷ s) = ltb x (2 ^ w) && all w s

below : (w : ℕ) (s : List ℕ) → all w s ≡ true → Below w s
unfolding all
below w [] e = tt
below w (x ∷ s) e = let (h, hs) = and_both (ltb x (2 ^ w)) (all w s) e in (ltb-true x (2 ^ w) h, below w s hs)

pub witnessed : Witnessed
unfolding computing all
witnessed = record {
  usable = record { words = below 64 items refl; faultless = refl; inside = omega arith };
  within = record {
    fits =
        sequence_fits refl
        (component (carried (leaf_fits refl (boolean_fits {n = 1} (omega arith))) refl)
        (component (left_out refl)
        (component (plain (leaf_fits refl (visible_fits {os = text} (omega arith, tt) refl refl refl)))
        no_components)));
    few = omega arith;
    short = omega arith;
  };
  octets = below 8 message refl;
  words = below 64 list refl;
  encoded = refl;
  room = record { for_nodes = omega arith; for_contents = omega arith };
  validates = refl;
  decodes = refl;
  measures = refl;
  encodes = refl;
}
