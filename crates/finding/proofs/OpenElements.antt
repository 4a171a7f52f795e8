-- A step into a SEQUENCE OF: its quantity, the elements before the step's own, that one, and those behind it.
-- Premises are the callees' `ensures`. Assumes nothing.
use mathlib.Core.Path.{◌≡◌, refl, ap, sym, ◌∙◌}
use mathlib.Core.Bool.{true}
use mathlib.Core.List.{List, []}
use Prim.Native.Nat.{ℕ, zero, suc, ◌+◌, ◌-◌, ◌<◌, ◌≤◌}
use native.Mathlib.Omega.{arith}
use native.Mathlib.Numerals.{add-one}
use lib.ListN.{length, drop, length-append, length-drop}
use Rattle.x696.specs.Outcome.{Outcome, refused, got, next, choose}
use Rattle.x696.proofs.OutcomeLaws.{next_inv}
use Rattle.x696.specs.Digits.{Below}
use Rattle.x696.specs.Variable.{variable_unsigned, read_unsigned}
use Rattle.x696.proofs.VariableLaws.{unsigned_sound}
use Rattle.x696.specs.Value.{Val, node, Vals, no_values, value, value_count}
use Rattle.x696.specs.Types.{Ty, sequence_of}
use Rattle.x696.specs.Encode.{each, encode}
use Rattle.x696.specs.Read.{Message, message, times, component_by, read, read_component}
use Rattle.x696.specs.Path.{no_child, element_at, child_at, child_before}
use Rattle.x696.specs.PresencePlace.{bits_before}
use Rattle.x696.specs.Operations.{node_limit}
use Rattle.x696.specs.Table.{row_kind, row_first, component_row, type_of}
use Rattle.x696.specs.TableFault.{row_sound}
use Rattle.x696.proofs.TableRows.{sequence_of_row}
use Rattle.x696.proofs.TableKinds.{sequence_of_type}
use Rattle.octets.specs.Presence.{bit_at}
use Rattle.octets.specs.Answers.{QuantityAnswer}
use Rattle.octets.specs.declared.answers.Quantity.{Quantity}
use Rattle.octets.proofs.Answered.{next_refused, next_got}
use Rattle.octets.proofs.Octets.{below_drop}
use Rattle.kinds.specs.Run.{inside_at}
use Rattle.kinds.specs.declared.cursor.Cursor.{Cursor}
use Rattle.reading.proofs.Elements.{quantity_first}
use Rattle.reading.proofs.Groups.{first}
use Rattle.finding.specs.Passing.{Stood, none}
use Rattle.finding.specs.Leading.{behind_of, Leads}
use Rattle.finding.specs.declared.spot.Opening.{Opening}
use Rattle.finding.proofs.Members.{append, joined, elements_stop, elements_many, elements_split, elements_octets}
use Rattle.finding.proofs.Members.{element_at_lem, elements_before_lem}
use Rattle.finding.proofs.Openings.{group_stops, group_ends, group_gets}
use Rattle.std.proofs.Common.{Result, Ok}
use Rattle.octets.specs.declared.faults.Fault.{Fault}

-- no element past the last
elements_none : (t : Ty) (vs : Vals) (i : ℕ) → value_count vs ≤ i → element_at t vs i ≡ no_child
unfolding element_at value_count
elements_none t no_values i h = refl
elements_none t (value v vs) zero h = absurd (omega arith)
elements_none t (value v vs) (suc i) h = elements_none t vs i (omega arith)

-- the element after i others, and those behind it
times_step : (f : Message → Outcome Message Val) (n i : ℕ) (s : Message) → i < n
    → times f (n - i) s ≡ first (f s) (λ s. times f (n - (i + 1)) s)
unfolding times
times_step f n i s h = let e : n - i ≡ suc (n - (i + 1)) = omega arith in rw e

module _ (rows items msg : List ℕ) (row at count : ℕ) (inside : at ≤ length msg)
    (sound : row_sound rows items row ≡ true) (is : row_kind rows row ≡ 11) (g inner i : ℕ)
    (eg : g ≡ row_first rows row) (ei : inner ≡ component_row items g) {a : Result Quantity Fault}
    (q : QuantityAnswer msg (read_unsigned at (drop at msg)) at a) (y : Quantity) (ey : a ≡ Ok y) where
  abbrev D : Outcome Message Val
  D = inside_at (type_of rows items row) msg at count

  abbrev n : ℕ
  n = y.many.0

  abbrev F : Message → Outcome Message Val
  F = λ s. read node_limit (type_of rows items inner) (length msg) s

  abbrev S : Message
  S = message (drop y.next msg) (count + 1)

  type_is : type_of rows items row ≡ sequence_of (type_of rows items inner)
  type_is = rw (ei, eg) (sequence_of_type rows items row sound is)

  members_first : D ≡ next (times F n S) λ vs s. got (node 11 n [] vs) s
  members_first =
      quantity_first rows items msg row at count inside sound is
      ∙ next_got _ (q.went y ey).reads
      ∙ rw (add-one count, ei, eg) refl

  pub past_elements : n ≤ i → (v : Val) (s : Message) → D ≡ got v s → child_at (type_of rows items row) v i ≡ no_child
  unfolding child_at
  past_elements h v s e =
      next_inv _ _ (sym members_first ∙ e) λ vs r was then.
      let count = elements_many F n S was in
      let k : node 11 n [] vs ≡ v = cc in
      rw (← k, type_is) (elements_none (type_of rows items inner) vs i (omega arith))

  module _ (h : i < n) where
    pub before_stops : {x p : ℕ} → times F i S ≡ refused x p → D ≡ refused x p
    before_stops e = members_first ∙ next_refused _ (elements_stop F i n S (omega arith) e)

    module _ (below : Below 8 msg) {p : Cursor} (fore : Stood none msg (times F i S) p) (o : Opening) (er : o.component.row
        ≡ inner)
        (em : o.component.mark ≡ 0) (ed : o.component.given ≡ 0) (eo : o.bit ≡ 0) (ea : o.at ≡ p.at) (ek : o.count ≡ p.count)
        (ex : o.left ≡ n - (i + 1)) where
      abbrev us : Vals
      us = fore.what

      abbrev C : Outcome Message Val
      C = F (message (drop p.at msg) p.count)

      abbrev B : Message → Outcome Message Vals
      B s = times F (n - (i + 1)) s

      child_is : read_component node_limit o.component.mark o.component.given (type_of rows items o.component.row) (bit_at msg at o.bit)
          (length msg) (message (drop o.at msg) o.count) ≡ C
      unfolding read_component component_by
      child_is = rw (er, em, ea, ek) refl

      behind_is : (s : Message) → behind_of rows items msg row at o s ≡ B s
      unfolding behind_of choose
      behind_is s = rw (is, er, ex) refl

      group : D ≡ next (joined us (next C λ x s. next (B s) λ bs s. got (value x bs) s)) λ vs s. got (node 11 n [] vs) s
      group =
          members_first
          ∙ ap (λ o. next o λ vs s. got (node 11 n [] vs) s)
          (elements_split F i n S (omega arith) fore.reads
          ∙ ap (joined us) (times_step F n i (message (drop p.at msg) p.count) h))

      pub sequence_of_leads : Leads rows items msg row at i D o
      unfolding child_at child_before bits_before
      sequence_of_leads =
          let t = type_of rows items inner in
          let quantity = q.went y ey in
          let count = elements_many F i S fore.reads in
          let lead = ap length (unsigned_sound at (drop at msg) (below_drop 8 msg at below) quantity.reads).0 in
          let taken = ap length (elements_octets t (length msg) i S (below_drop 8 msg y.next below) fore.reads) in
          record {
            wrap = λ x bs. node 11 n [] (append us (value x bs));
            stops = λ x k e. group_stops _ us B group x k (sym child_is ∙ e);
            ends = λ x s j k e f. group_ends _ us B group x s j k (sym child_is ∙ e) (sym (behind_is s) ∙ f);
            gets = λ x s bs r e f. group_gets _ us B group x s bs r (sym child_is ∙ e) (sym (behind_is s) ∙ f);
            leads = λ x bs. rw (type_is, er, em, ed) (element_at_lem t us i x bs count);
            before = λ x bs.
                rw (
                  type_is,
                  elements_before_lem t us i x bs count,
                  length-append (variable_unsigned n) (each (λ v. encode t v) us),
                  ea,
                )
                (omega (
                  arith,
                  lead,
                  taken,
                  length-append (variable_unsigned n) (drop y.next msg),
                  length-append (each (λ v. encode t v) us) (drop p.at msg),
                  length-drop at msg,
                  length-drop y.next msg,
                  length-drop p.at msg,
                  fore.inside,
                  quantity.inside,
                  inside,
                ));
            bit = rw (type_is, eo) refl;
            few = omega (arith, eo);
            lower = rw (er, ei, eg) (sequence_of_row rows items row sound is).lower;
            inside = rw ea fore.inside;
            fitting = rw (em, ed) (omega arith, (λ z. absurd (omega arith)), λ z. refl);
            behind = λ e. absurd (omega (arith, is, e));
          }
