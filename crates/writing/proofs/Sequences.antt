-- A SEQUENCE behind its node: its preamble, then its components; one law for each way that its writer returns.
-- Premises are the callees' `ensures`. Assumes nothing.
use mathlib.Core.Path.{◌≡◌, refl, sym, ap, ◌∙◌}
use mathlib.Core.Bool.{true}
use mathlib.Core.List.{List, [], ◌++◌}
use Prim.Native.Nat.{ℕ, zero, suc, ◌+◌, ◌/◌, ◌≤◌}
use native.Mathlib.Omega.{arith}
use native.Mathlib.Numerals.{add-one}
use lib.ListN.{length, replicate, length-append, length-replicate}
use lib.Seq.{sets}
use borrow.Author.Tests.{eq-eqb, ne_eqb}
use Rattle.x696.specs.Outcome.{Outcome, refused, got, next, must}
use Rattle.x696.specs.Bits.{bit_octets, preamble}
use Rattle.x696.proofs.BitsLaws.{preamble_length}
use Rattle.x696.specs.Value.{Val, node, Vals}
use Rattle.x696.specs.Types.{Ty, sequence, Items, item_count, mark_count}
use Rattle.x696.specs.Encode.{presence, encode, encode_components}
use Rattle.x696.specs.Walk.{Listed, walk_components}
use Rattle.x696.specs.Table.{row_kind, row_first, row_count, item_width, items_from, components_from, type_of}
use Rattle.x696.specs.TableFault.{row_sound}
use Rattle.x696.proofs.TableRows.{SequenceRow}
use Rattle.x696.proofs.TableKinds.{sequence_type}
use Rattle.octets.proofs.Answered.{next_refused, next_got}
use Rattle.pens.specs.Put.{listed_at, walk_behind, Put}
use Rattle.reading.specs.Members.{Members}
use Rattle.reading.proofs.Members.{members_among}
use Rattle.writing.specs.Members.{members, group_octets, PutAll}
use Rattle.writing.proofs.InPlace.{sets_over, sets_anew}
use Rattle.std.proofs.Common.{Result}
use Rattle.octets.specs.declared.faults.Fault.{Fault}
use Rattle.pens.specs.declared.pen.Pen.{Pen}

components_count : (f : ℕ → Ty) (items : List ℕ) (g n : ℕ) → item_count (components_from f items g n) ≡ n
unfolding item_count items_from
components_count f items g zero = refl
components_count f items g (suc n) = ap suc (components_count f items (suc g) n)

-- the preamble of k bits is stored as zeros: what the writer of members relies on
module _ (rows items : List ℕ) (g n k pre : ℕ) (ek : (f : ℕ → Ty) → k ≡ mark_count (components_from f items g n)) where
  abbrev all : Items
  all = members rows items 0 true g n

  marks_are : k ≡ mark_count all
  unfolding members
  marks_are = ek (λ j. type_of rows items j)

  pub zeros_end : pre + (k + 7) / 8 ≡ pre + bit_octets (mark_count all)
  zeros_end = rw (← marks_are) refl

  pub zeros_stay : (l : List ℕ) {l₁ : List ℕ} → l₁ ≡ sets l pre (replicate ((k + 7) / 8) 0)
      → l₁ ≡ sets l₁ pre (replicate (bit_octets (mark_count all)) 0)
  zeros_stay l s =
      let zeros : List ℕ = replicate (bit_octets k) 0 in
      rw (← marks_are) (s ∙ sym (rw s (sets_over zeros zeros l pre (omega arith))))

-- its components are known
pub listed_members : (rows items : List ℕ) (row g n : ℕ) → SequenceRow rows items row
    → length items / item_width ≤ 1024 → g ≡ row_first rows row → n ≡ row_count rows row
    → Members rows items row 0 true g 0 n
listed_members rows items row g n known few eg en =
    members_among (rw (eg, en) known.range) (omega (arith, known.range))
    (λ i h. rw eg (known.component i (rw (← en) h)))

-- ---- a row of kind 10, behind its node
module _ (rows items ws cs : List ℕ) (row at u number : ℕ) (sound : row_sound rows items row ≡ true)
    (is : row_kind rows row ≡ 10) (n : ℕ) (en : n ≡ row_count rows row) where
  abbrev D : Outcome Listed Val
  D = walk_behind (type_of rows items row) at number (listed_at ws cs (suc at) u)

  abbrev among : (g : ℕ) → Items
  among g = members rows items 0 true g n

  type_is : (g : ℕ) → g ≡ row_first rows row → type_of rows items row ≡ sequence (among g)
  unfolding members
  type_is g eg = sequence_type rows items row sound is ∙ rw (eg, en)

  counted : (g : ℕ) → item_count (among g) ≡ n
  unfolding members
  counted g = components_count (λ j. type_of rows items j) items g n

  pub count_other : (number ≡ n → ⊥) → D ≡ refused 11 at
  unfolding walk_behind must
  count_other h = rw (type_is (row_first rows row) refl, counted (row_first rows row), ne_eqb number n h)

  module _ (same_count : number ≡ n) (g k : ℕ) (eg : g ≡ row_first rows row)
      (ek : (f : ℕ → Ty) → k ≡ mark_count (components_from f items g n)) where
    components_first : D ≡ next (walk_components (among g) (listed_at ws cs (at + 1) u)) λ vs r. got (node 10 number []
        vs) r
    unfolding walk_behind must
    components_first = rw (type_is g eg, counted g, eq-eqb number n same_count, add-one at)

    octets_are : (vs : Vals) → encode (type_of rows items row) (node 10 number [] vs) ≡ group_octets (among g) vs
    unfolding encode
    octets_are vs = rw (type_is g eg)

    pub components_go : (l : List ℕ) (to : ℕ) {q : ℕ} {l₁ l' : List ℕ} {r : Result Pen Fault} → l₁ ≡ sets l to (replicate ((k +
        7) / 8) 0)
        → q ≤ to + 128
        → PutAll ws cs (among g) (listed_at ws cs (at + 1) u) to (at + 1) u q l₁ l' r
        → Put ws cs D (λ v. encode (type_of rows items row) v) at u to l l' r
    components_go l to s few w = record {
      went = λ c e.
          let z = w.went c e in
          let P = preamble (mark_count (among g)) (presence (among g) z.what) in
          let os = encode_components (among g) z.what in
          let len = preamble_length (mark_count (among g)) (presence (among g) z.what) in
          let zeros = length-replicate {A = ℕ} ((k + 7) / 8) 0 in
          let room : length (replicate {A = ℕ} ((k + 7) / 8) 0) ≤ length (P ++ os) =
          omega (arith, zeros, len, length-append P os, marks_are rows items g n k to ek) in
          record {
            what = node 10 number [] z.what;
            walks = components_first ∙ next_got _ z.walks;
            inside = z.inside;
            within = z.within;
            ends = rw (octets_are z.what) z.ends;
            bound = omega (arith, z.bound);
            stored = rw (octets_are z.what)
                (z.stored ∙ sets_anew (replicate ((k + 7) / 8) 0) (P ++ os) l to s room);
          };
      stopped = λ f e. components_first ∙ next_refused _ (w.stopped f e);
    }
