-- Which numbers and places the reading of a message can refuse with: 5 to 8 where a value is read, and 10 where a node
-- begins; each place is at most the message's length. Assumes nothing.
use Rattle.std.specs.Prelude.{◌≡◌, refl, ◌⊎◌, Bool}
use Rattle.std.proofs.Common.{inl}
use Rattle.std.proofs.Math.Logic.{inr}
use mathlib.Core.List.{List, [], ◌∷◌}
use Prim.Native.Nat.{ℕ, zero, suc, ◌≤◌}
use native.Mathlib.Omega.{arith}
use Rattle.x696.specs.Outcome.{Outcome}
use Rattle.x696.proofs.Ends.{Ends, refuses, reads, next_ends, must_ends, choose_ends, ends_weaker}
use Rattle.x696.specs.Length.{octet, run, read_length, read_run}
use Rattle.x696.specs.Variable.{read_unsigned, read_signed}
use Rattle.x696.specs.Tag.{read_groups, read_tag}
use Rattle.x696.specs.Bits.{read_preamble}
use Rattle.x696.specs.Integer.{Form, fixed_unsigned, fixed_signed, any_unsigned, any_signed, read_form}
use Rattle.x696.specs.Enumerated.{read_enumerated}
use Rattle.x696.specs.String.{read_text, read_fixed_bits, bits_in, read_bit_string}
use Rattle.x696.specs.Leaf.{Leaf, boolean, null, integer, enumerated, real, octet_string, bit_string, visible_string}
use Rattle.x696.specs.Leaf.{read_leaf}
use Rattle.x696.specs.Value.{Val}
use Rattle.x696.specs.Types.{Ty, leaf, sequence, sequence_of, choice, Items, no_items, item}
use Rattle.x696.specs.Read.{Message, offset, times, counted, component_by, read_inside, read_components}
use Rattle.x696.specs.Read.{read_alternative, read}

-- 5 to 8, at p
pub record FaultAt (p number place : ℕ) : Type 0 where
  pub least : 5 ≤ number
  pub greatest : number ≤ 8
  pub here : place ≡ p

abbrev Anywhere : {S : Type 0} → S → Type 0
Anywhere s = Unit {0}

module _ (p : ℕ) where
  numbered : (n : ℕ) → 5 ≤ n → n ≤ 8 → FaultAt p n p
  numbered n a b = record { least = a; greatest = b; here = refl }

  five : FaultAt p 5 p
  five = numbered 5 (omega arith) (omega arith)

  six : FaultAt p 6 p
  six = numbered 6 (omega arith) (omega arith)

  seven : FaultAt p 7 p
  seven = numbered 7 (omega arith) (omega arith)

  eight : FaultAt p 8 p
  eight = numbered 8 (omega arith) (omega arith)

  abbrev Faults : {S A : Type 0} → Outcome S A → Type 0
  Faults o = Ends (FaultAt p) Anywhere o

  -- ---- octets and numbers
  octet_faults : (s : List ℕ) → Faults (octet p s)
  unfolding octet
  octet_faults [] = refuses five
  octet_faults (x ∷ s) = reads tt

  run_faults : (n : ℕ) (s : List ℕ) → Faults (run p n s)
  unfolding run
  run_faults n s = must_ends _ _ _ five (reads tt)

  length_faults : (s : List ℕ) → Faults (read_length p s)
  unfolding read_length
  length_faults s =
      next_ends _ (octet_faults s) λ x r _.
      choose_ends _ _ _ (reads tt)
      (must_ends _ _ _ six
      (next_ends _ (run_faults _ r) λ os r _. must_ends _ _ _ six (must_ends _ _ _ six (reads tt))))

  read_run_faults : (s : List ℕ) → Faults (read_run p s)
  unfolding read_run
  read_run_faults s = next_ends _ (length_faults s) λ n r _. run_faults n r

  unsigned_faults : (s : List ℕ) → Faults (read_unsigned p s)
  unfolding read_unsigned
  unsigned_faults s =
      next_ends _ (read_run_faults s) λ os r _.
      must_ends _ _ _ six (must_ends _ _ _ six (must_ends _ _ _ eight (reads tt)))

  signed_faults : (s : List ℕ) → Faults (read_signed p s)
  unfolding read_signed
  signed_faults s =
      next_ends _ (read_run_faults s) λ os r _.
      must_ends _ _ _ six (must_ends _ _ _ six (must_ends _ _ _ eight (reads tt)))

  groups_faults : (s : List ℕ) → Faults (read_groups p s)
  unfolding read_groups
  groups_faults [] = refuses five
  groups_faults (x ∷ s) = choose_ends _ _ _ (reads tt) (next_ends _ (groups_faults s) λ ds r _. reads tt)

  tag_faults : (s : List ℕ) → Faults (read_tag p s)
  unfolding read_tag
  tag_faults s =
      next_ends _ (octet_faults s) λ x r _.
      choose_ends _ _ _ (reads tt)
      (next_ends _ (groups_faults r) λ ds r _. must_ends _ _ _ six (must_ends _ _ _ six (reads tt)))

  preamble_faults : (n : ℕ) (s : List ℕ) → Faults (read_preamble n p s)
  unfolding read_preamble
  preamble_faults n s = next_ends _ (run_faults _ s) λ os r _. must_ends _ _ _ six (reads tt)

  -- ---- the kinds without components
  form_faults : (f : Form) (s : List ℕ) → Faults (read_form f p s)
  unfolding read_form
  form_faults (fixed_unsigned k) s = next_ends _ (run_faults k s) λ os r _. reads tt
  form_faults (fixed_signed k) s = next_ends _ (run_faults k s) λ os r _. reads tt
  form_faults any_unsigned s = unsigned_faults s
  form_faults any_signed s = signed_faults s

  enumerated_faults : (s : List ℕ) → Faults (read_enumerated p s)
  unfolding read_enumerated
  enumerated_faults s =
      next_ends _ (octet_faults s) λ x r _.
      choose_ends _ _ _ (reads tt)
      (must_ends _ _ _ six
      (next_ends _ (run_faults _ r) λ os r _.
      must_ends _ _ _ six (must_ends _ _ _ six (must_ends _ _ _ eight (reads tt)))))

  text_faults : (c : List ℕ → Bool) (kind f a b : ℕ) (s : List ℕ) → Faults (read_text c kind f a b p s)
  unfolding read_text
  text_faults c kind f a b s =
      next_ends _ (choose_ends _ _ _ (run_faults a s) (read_run_faults s)) λ os r _.
      must_ends _ _ _ seven (must_ends _ _ _ seven (reads tt))

  bit_string_faults : (f a b : ℕ) (s : List ℕ) → Faults (read_bit_string f a b p s)
  unfolding read_bit_string read_fixed_bits bits_in
  bit_string_faults f a b s =
      choose_ends _ _ _
      (next_ends _ (run_faults _ s) λ os r _. must_ends _ _ _ six (reads tt))
      (next_ends _ (read_run_faults s) λ ys r _.
      must_ends _ _ _ six
      (must_ends _ _ _ six (must_ends _ _ _ six (must_ends _ _ _ six (must_ends _ _ _ seven (reads tt))))))

  leaf_faults : (l : Leaf) (s : List ℕ) → Faults (read_leaf l p s)
  unfolding read_leaf
  leaf_faults boolean s = next_ends _ (octet_faults s) λ x r _. must_ends _ _ _ six (reads tt)
  leaf_faults null s = reads tt
  leaf_faults (integer f a b) s = next_ends _ (form_faults _ s) λ w r _. must_ends _ _ _ seven (reads tt)
  leaf_faults (enumerated ns) s = next_ends _ (enumerated_faults s) λ w r _. must_ends _ _ _ seven (reads tt)
  leaf_faults (real w) s = next_ends _ (run_faults _ s) λ os r _. must_ends _ _ _ six (reads tt)
  leaf_faults (octet_string f a b) s = text_faults _ 7 f a b s
  leaf_faults (bit_string f a b) s = bit_string_faults f a b s
  leaf_faults (visible_string f a b) s = text_faults _ 9 f a b s

-- ---- values: 5 to 8 or 10, at most at the end
pub record FaultIn (end number place : ℕ) : Type 0 where
  pub numbered : ((5 ≤ number) × (number ≤ 8)) ⊎ (number ≡ 10)
  pub inside : place ≤ end

module _ (limit end : ℕ) where
  abbrev Kept : {A : Type 0} → Outcome Message A → Type 0
  Kept o = Ends (FaultIn end) Anywhere o

  offset_inside : (s : List ℕ) → offset end s ≤ end
  unfolding offset
  offset_inside s = omega arith

  within : (s : List ℕ) (n p : ℕ) → FaultAt (offset end s) n p → FaultIn end n p
  within s n p h = record {
    numbered = inl (h.least, h.greatest);
    inside = rw h.here (offset_inside s);
  }

  leaf_refusals : {S A : Type 0} {o : Outcome S A} (s : List ℕ) → Faults (offset end s) o
      → Ends (FaultIn end) Anywhere o
  leaf_refusals s e = ends_weaker (within s) (λ _ _. tt) e

  counted_refusals : (s : Message) (k : Message → Outcome Message Val) → ((s : Message) → Kept (k s))
      → Kept (counted limit end s k)
  unfolding counted
  counted_refusals s k h =
      must_ends _ _ _ (record { numbered = inr refl; inside = offset_inside s.octets }) (h _)

  times_refusals : (f : Message → Outcome Message Val) → ((s : Message) → Kept (f s)) → (n : ℕ) (s : Message)
      → Kept (times f n s)
  unfolding times
  times_refusals f h zero s = reads tt
  times_refusals f h (suc n) s =
      next_ends _ (h s) λ v s _. next_ends _ (times_refusals f h n s) λ vs s _. reads tt

  component_refusals : (f : Message → Outcome Message Val) → ((s : Message) → Kept (f s)) → (m d : ℕ) (t : Ty)
      (x : ℕ) (s : Message) → Kept (component_by limit f m d t x end s)
  unfolding component_by
  component_refusals f h zero d t x s = h s
  component_refusals f h (suc m) d t x s =
      choose_ends _ _ _
      (counted_refusals s _ λ s. reads tt)
      (next_ends _ (h s) λ v r _. must_ends _ _ _ (within s.octets _ _ (six _)) (reads tt))

  mutual
    unfolding read_inside read_components read_alternative

    inside_refusals : (t : Ty) (s : Message) → Kept (read_inside limit t end s)
    inside_refusals (leaf l) s = next_ends _ (leaf_refusals s.octets (leaf_faults _ l _)) λ v r _. reads tt
    inside_refusals (sequence is) s =
        next_ends _ (leaf_refusals s.octets (preamble_faults _ _ _)) λ bits r _.
        next_ends _ (components_refusals is bits _) λ vs s _. reads tt
    inside_refusals (sequence_of t) s =
        next_ends _ (leaf_refusals s.octets (unsigned_faults _ _)) λ n r _.
        next_ends _ (times_refusals _ (λ s. counted_refusals s _ (λ s. inside_refusals t s)) n _) λ vs s _. reads tt
    inside_refusals (choice is) s =
        next_ends _ (leaf_refusals s.octets (tag_faults _ _)) λ g r _.
        must_ends _ _ _ (within s.octets _ _ (seven _))
        (next_ends _ (alternative_refusals is _ _) λ v s _. reads tt)

    components_refusals : (is : Items) (bits : List ℕ) (s : Message) → Kept (read_components limit is bits end s)
    components_refusals no_items bits s = reads tt
    components_refusals (item m d t is) bits s =
        next_ends _ (component_refusals _ (λ s. counted_refusals s _ (λ s. inside_refusals t s)) m d t _ s) λ v s _.
        next_ends _ (components_refusals is _ s) λ vs s _. reads tt

    alternative_refusals : (is : Items) (n : ℕ) (s : Message) → Kept (read_alternative limit is n end s)
    alternative_refusals no_items n s = refuses (within s.octets _ _ (seven _))
    alternative_refusals (item a b t is) zero s = counted_refusals s _ (λ s. inside_refusals t s)
    alternative_refusals (item a b t is) (suc n) s = alternative_refusals is n s

  pub read_refusals : (t : Ty) (s : Message) → Kept (read limit t end s)
  unfolding read
  read_refusals t s = counted_refusals s _ (λ s. inside_refusals t s)
