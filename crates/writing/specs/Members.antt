-- The members of a group as one list of items: the components of a SEQUENCE, or one type over and over (SEQUENCE OF,
-- a CHOICE's alternative, a value alone), which is a component without a mark. Assumes nothing.
use Rattle.std.specs.Prelude.{◌≡◌, Bool, true, false, List, ◌++◌, ℕ, zero, suc, ◌+◌, ◌*◌, ◌≤◌, length}
use Rattle.std.proofs.lemmas.List.Edits.{sets}
use Rattle.x696.specs.Outcome.{refused, got}
use Rattle.x696.specs.Bits.{preamble}
use Rattle.x696.specs.Value.{Vals, node_width}
use Rattle.x696.specs.Types.{Ty, Items, no_items, item, mark_count}
use Rattle.x696.specs.Encode.{presence, encode_components}
use Rattle.x696.specs.Walk.{Listed, walk_components}
use Rattle.x696.specs.Table.{components_from, type_of}
use Rattle.octets.specs.declared.faults.Fault.{Fault}
use Rattle.pens.specs.Put.{listed_at, node_octets}
use Rattle.pens.specs.declared.pen.Pen.{Pen}
use Rattle.std.specs.Prelude.{Result, Ok, Err}
use Rattle.octets.specs.Cause.{code_of}

-- n times a type
unfoldable pub copies : ℕ → Ty → Items
copies zero t = no_items
copies (suc n) t = item 0 0 t (copies n t)

-- n members, from item j on where they are listed
unfoldable pub members : (rows items : List ℕ) → (inner : ℕ) → (listed : Bool) → (j n : ℕ) → Items
members rows items inner true j n = components_from (λ k. type_of rows items k) items j n
members rows items inner false j n = copies n (type_of rows items inner)

-- the preamble and the octets of values of these items (16.1)
abbrev pub group_octets : Items → Vals → List ℕ
group_octets is vs = preamble (mark_count is) (presence is vs) ++ encode_components is vs

-- the walk of the items came as far as c: from node n and contents octet u; the octets of its values stand in the
-- buffer from pre on, components from p on
pub record PennedAll (ws cs : List ℕ) (is : Items) (s : Listed) (pre n u p : ℕ) (l l' : List ℕ) (c : Pen) : Type 0
  where
    pub what : Vals
    pub walks : walk_components is s ≡ got what (listed_at ws cs c.at c.used)
    pub inside : c.at * node_width ≤ length ws
    pub within : c.used ≤ length cs
    pub ends : c.to ≡ pre + length (group_octets is what)
    pub bound : c.to + (n * node_octets + u) ≤ p + (c.at * node_octets + c.used)
    pub stored : l' ≡ sets l pre (group_octets is what)

pub record PutAll (ws cs : List ℕ) (is : Items) (s : Listed) (pre n u p : ℕ) (l l' : List ℕ) (r : Result Pen Fault) : Type 0
  where
    pub went : (c : Pen) → r ≡ Ok c → PennedAll ws cs is s pre n u p l l' c
    pub stopped : (f : Fault) → r ≡ Err f → walk_components is s ≡ refused (code_of f.cause) f.place
