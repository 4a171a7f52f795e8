-- The octets of a value: clauses 16 (SEQUENCE), 17 (SEQUENCE OF), 20.1 (CHOICE).
-- 31.9: a component equal to its DEFAULT is absent.
-- Assumes nothing.
use Rattle.std.specs.Prelude.{Bool, true, false, not, List, [], ◌∷◌, ◌++◌, ℕ, zero, suc}
use Rattle.x696.specs.Outcome.{choose}
use Rattle.x696.specs.Tag.{tag, tag_octets}
use Rattle.x696.specs.Bits.{preamble}
use Rattle.x696.specs.Variable.{variable_unsigned}
use Rattle.x696.specs.Value.{Val, node, Vals, no_values, value, same}
use Rattle.x696.specs.Leaf.{encode_leaf}
use Rattle.x696.specs.Types.{Ty, leaf, sequence, sequence_of, choice, Items, no_items, item, mark_count, missing}

unfoldable pub bit : Bool → ℕ
bit true = 1
bit false = 0

-- the presence bit of a component; a plain one has none (16.2.3)
unfoldable pub presence_bits : (mark default : ℕ) → Ty → Val → List ℕ
presence_bits zero d t v = []
presence_bits (suc m) d t v = bit (not (same v (missing (suc m) d t))) ∷ []

unfoldable pub presence : Items → Vals → List ℕ
presence no_items vs = []
presence (item m d t is) no_values = []
presence (item m d t is) (value v vs) = presence_bits m d t v ++ presence is vs

-- a component's octets, given those of its value: none if it is not carried (16.3, 31.9)
unfoldable pub carried_octets : (mark default : ℕ) → Ty → Val → (octets : List ℕ) → List ℕ
carried_octets zero d t v os = os
carried_octets (suc m) d t v os = choose (same v (missing (suc m) d t)) (λ _. []) (λ _. os)

unfoldable pub each : (Val → List ℕ) → Vals → List ℕ
each f no_values = []
each f (value v vs) = f v ++ each f vs

unfoldable mutual
  pub encode : Ty → Val → List ℕ
  encode (leaf l) (node k n os vs) = encode_leaf l n os
  -- 16.1: preamble, components
  encode (sequence is) (node k n os vs) = preamble (mark_count is) (presence is vs) ++ encode_components is vs
  -- 17.1: quantity, occurrences
  encode (sequence_of t) (node k n os vs) = variable_unsigned n ++ each (λ v. encode t v) vs
  -- 20.1: tag, the chosen alternative
  encode (choice is) (node k n os vs) = encode_alternative is n vs

  pub encode_components : Items → Vals → List ℕ
  encode_components no_items vs = []
  encode_components (item m d t is) no_values = []
  encode_components (item m d t is) (value v vs) = carried_octets m d t v (encode t v) ++ encode_components is vs

  pub encode_alternative : Items → (place : ℕ) → Vals → List ℕ
  encode_alternative no_items n vs = []
  encode_alternative (item a b t is) n no_values = []
  encode_alternative (item a b t is) zero (value v vs) = tag_octets (tag a b) ++ encode t v
  encode_alternative (item a b t is) (suc n) (value v vs) = encode_alternative is n (value v vs)

-- a component's own octets in the message
unfoldable pub own_octets : (mark default : ℕ) → Ty → Val → List ℕ
own_octets m d t v = carried_octets m d t v (encode t v)
