-- A SEQUENCE OF behind its node: its quantity, then as many copies of its type.
-- Premises are the callees' `ensures`. Assumes nothing.
use mathlib.Core.Path.{◌≡◌, ◌∙◌}
use mathlib.Core.Bool.{true, false}
use mathlib.Core.List.{List, [], ◌++◌}
use Prim.Native.Nat.{ℕ, suc, ◌+◌, ◌≤◌}
use native.Mathlib.Omega.{arith}
use native.Mathlib.Numerals.{add-one}
use lib.ListN.{length, length-append}
use lib.Seq.{sets}
use Rattle.x696.specs.Outcome.{Outcome, got, next}
use Rattle.x696.specs.Variable.{variable_unsigned}
use Rattle.x696.specs.Value.{Val, node, Vals}
use Rattle.x696.specs.Types.{Ty, sequence_of}
use Rattle.x696.specs.Encode.{each, encode}
use Rattle.x696.specs.Walk.{Listed, walk_components}
use Rattle.x696.specs.Table.{row_kind, row_first, component_row, type_of}
use Rattle.x696.specs.TableFault.{row_sound}
use Rattle.x696.proofs.TableKinds.{sequence_of_type}
use Rattle.octets.proofs.Answered.{next_refused, next_got}
use Rattle.octets.proofs.Stores.{sets_after}
use Rattle.pens.specs.Put.{listed_at, walk_behind, Put}
use Rattle.writing.specs.Members.{copies, members, PutAll}
use Rattle.writing.proofs.Copies.{copies_walk, copies_octets}
use Rattle.std.proofs.Common.{Result}
use Rattle.octets.specs.declared.faults.Fault.{Fault}
use Rattle.pens.specs.declared.pen.Pen.{Pen}

module _ (rows items ws cs : List ℕ) (row at u number : ℕ) (sound : row_sound rows items row ≡ true)
    (is : row_kind rows row ≡ 11) (g inner : ℕ) (eg : g ≡ row_first rows row) (ei : inner ≡ component_row items g) where
  abbrev T : Ty
  T = type_of rows items inner

  abbrev D : Outcome Listed Val
  D = walk_behind (type_of rows items row) at number (listed_at ws cs (suc at) u)

  type_is : type_of rows items row ≡ sequence_of T
  type_is = sequence_of_type rows items row sound is ∙ rw (ei, eg)

  elements_first : D ≡ next (walk_components (copies number T) (listed_at ws cs (at + 1) u)) λ vs r. got (node 11
      number [] vs) r
  unfolding walk_behind
  elements_first = rw (type_is, add-one at, copies_walk T number (listed_at ws cs (suc at) u))

  octets_are : (vs : Vals) → encode (type_of rows items row) (node 11 number [] vs)
      ≡ variable_unsigned number ++ each (λ v. encode T v) vs
  unfolding encode
  octets_are vs = rw type_is

  pub elements_go : (l : List ℕ) (to : ℕ) {q : ℕ} {l₁ l' : List ℕ} {r : Result Pen Fault}
      → l₁ ≡ sets l to (variable_unsigned number)
      → q ≡ to + length (variable_unsigned number) → q ≤ to + 9
      → PutAll ws cs (members rows items inner false 0 number) (listed_at ws cs (at + 1) u) q (at + 1) u q l₁ l' r
      → Put ws cs D (λ v. encode (type_of rows items row) v) at u to l l' r
  unfolding members
  elements_go l to {q} s eq few w = record {
    went = λ c e.
        let k = w.went c e in
        let os = each (λ v. encode T v) k.what in
        let Q = variable_unsigned number in
        let same-octets = copies_octets T number (listed_at ws cs (at + 1) u) k.walks in
        record {
          what = node 11 number [] k.what;
          walks = elements_first ∙ next_got _ k.walks;
          inside = k.inside;
          within = k.within;
          ends = rw (octets_are k.what) (omega (arith, rw same-octets at k.ends, eq, length-append Q os));
          bound = omega (arith, k.bound);
          stored = rw (octets_are k.what) (rw same-octets at k.stored ∙ sets_after Q os l to s eq);
        };
    stopped = λ f e. elements_first ∙ next_refused _ (w.stopped f e);
  }
