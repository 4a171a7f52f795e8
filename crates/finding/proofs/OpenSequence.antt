-- A step into a SEQUENCE: its preamble, the components before the step's own, that one, and those behind it.
-- Premises are the callees' `ensures`. Assumes nothing.
use mathlib.Core.Path.{◌≡◌, refl, ap, sym, ◌∙◌}
use mathlib.Core.Bool.{true}
use mathlib.Core.List.{List, []}
use Prim.Native.Nat.{ℕ, zero, suc, ◌+◌, ◌-◌, ◌/◌, ◌<◌, ◌≤◌}
use native.Mathlib.Omega.{arith}
use native.Mathlib.Nat.{add-zero, zero-add, sub-zero}
use lib.ListN.{length, drop, length-append, length-drop}
use Rattle.x696.specs.Outcome.{Outcome, refused, got, next, choose}
use Rattle.x696.specs.Digits.{Below}
use Rattle.x696.specs.Bits.{bit_octets, preamble, read_preamble}
use Rattle.x696.proofs.BitsLaws.{preamble_length}
use Rattle.x696.specs.Value.{Val, node, Vals, no_values, value}
use Rattle.x696.specs.Types.{Ty, sequence, presence_count, mark_count}
use Rattle.x696.specs.Encode.{presence, encode_components}
use Rattle.x696.specs.Read.{Message, message, read_component}
use Rattle.x696.specs.Path.{no_child, component_at, child_at, components_before, child_before}
use Rattle.x696.specs.PresencePlace.{bits_before}
use Rattle.x696.specs.Operations.{node_limit}
use Rattle.x696.specs.Table.{row_kind, row_first, row_count, item_width, component_row, component_mark, component_default}
use Rattle.x696.specs.Table.{items_from, components_from, type_of}
use Rattle.x696.specs.TableFault.{row_sound}
use Rattle.x696.proofs.TableRows.{sequence_row}
use Rattle.x696.proofs.TableKinds.{sequence_type}
use Rattle.octets.specs.Presence.{bit_at}
use Rattle.octets.proofs.Answered.{next_refused}
use Rattle.octets.proofs.Octets.{below_drop}
use Rattle.kinds.specs.Run.{inside_at}
use Rattle.kinds.specs.declared.cursor.Cursor.{Cursor}
use Rattle.reading.proofs.Sequences.{bits_at}
use Rattle.reading.proofs.Members.{sequence_members}
use Rattle.finding.specs.Passing.{Stood, components_at, none}
use Rattle.finding.specs.Leading.{behind_of, Leads}
use Rattle.finding.specs.declared.spot.Opening.{Opening}
use Rattle.finding.proofs.Parts.{components_step, component_fitting}
use Rattle.finding.proofs.Members.{append, joined, components_stop, components_many, components_split}
use Rattle.finding.proofs.Members.{components_octets, component_at_lem, components_before_lem, marks_before_lem}
use Rattle.finding.proofs.Members.{presence_few}
use Rattle.finding.proofs.Openings.{group_stops, group_ends, group_gets}

next_same : {S T A B : Type 0} (o : Outcome S A) (k l : A → S → Outcome T B) → ((a : A) (s : S) → k a s ≡ l a s)
    → next o k ≡ next o l
unfolding next
next_same (refused n p) k l h = refl
next_same (got a s) k l h = h a s

-- ---- the marks of a row's components
pub marks_join : (f : ℕ → Ty) (items : List ℕ) (i n g : ℕ) → i ≤ n
    → mark_count (components_from f items g i) + mark_count (components_from f items (g + i) (n - i))
    ≡ mark_count (components_from f items g n)
unfolding mark_count items_from
marks_join f items zero n g h = rw (add-zero g, sub-zero n) (omega arith)
marks_join f items (suc i) zero g h = absurd (omega arith)
marks_join f items (suc i) (suc n) g h =
    let k : g + suc i ≡ suc g + i = omega arith in
    let less : suc n - suc i ≡ n - i = omega arith in
    let later = marks_join f items i n (suc g) (omega arith) in
    rw (k, less) (omega (arith, later))

pub all_marks : (items : List ℕ) (g n i b c : ℕ) → i < n
    → ((f : ℕ → Ty) → b ≡ mark_count (components_from f items g i))
    → ((f : ℕ → Ty) → c ≡ mark_count (components_from f items (g + i) (n - i)))
    → (f : ℕ → Ty) → b + c ≡ mark_count (components_from f items g n)
all_marks items g n i b c h eb ec f = rw (eb f, ec f) (marks_join f items i n g (omega arith))

-- no component past the last
components_none : (f : ℕ → Ty) (items : List ℕ) (n g i : ℕ) (vs : Vals) → n ≤ i
    → component_at (components_from f items g n) vs i ≡ no_child
unfolding component_at items_from
components_none f items zero g i vs h = refl
components_none f items (suc n) g i no_values h = refl
components_none f items (suc n) g zero (value v vs) h = absurd (omega arith)
components_none f items (suc n) g (suc i) (value v vs) h = components_none f items n (suc g) i vs (omega arith)

module _ (rows items msg : List ℕ) (row at count : ℕ) (inside : at ≤ length msg)
    (sound : row_sound rows items row ≡ true) (is : row_kind rows row ≡ 10) (g n i : ℕ)
    (eg : g ≡ row_first rows row) (en : n ≡ row_count rows row) where
  abbrev T : ℕ → Ty
  T = λ j. type_of rows items j

  abbrev D : Outcome Message Val
  D = inside_at (type_of rows items row) msg at count

  type_is : type_of rows items row ≡ sequence (components_from T items g n)
  type_is = rw (eg, en) (sequence_type rows items row sound is)

  pub past_components : n ≤ i → (v : Val) (s : Message) → D ≡ got v s → child_at (type_of rows items row) v i ≡ no_child
  unfolding child_at
  past_components h (node k x os vs) s e = rw type_is (components_none T items n g i vs h)

  module _ (h : i < n) (b c : ℕ) (eb : (f : ℕ → Ty) → b ≡ mark_count (components_from f items g i))
      (ec : (f : ℕ → Ty) → c ≡ mark_count (components_from f items (g + i) (n - i))) where
    marks : (f : ℕ → Ty) → b + c ≡ mark_count (components_from f items g n)
    marks = all_marks items g n i b c h eb ec

    abbrev S : Message
    S = message (drop (at + bit_octets (b + c)) msg) (count + 1)

    module _ (below : Below 8 msg)
        (bits-got : read_preamble (b + c) at (drop at msg)
        ≡ got (bits_at msg at (b + c)) (drop (at + bit_octets (b + c)) msg)) where
      members_first : D ≡ next (components_at rows items msg at 0 g n S) λ vs s. got (node 10 n [] vs) s
      members_first =
          sequence_members rows items msg row at count inside sound is g n (b + c) 0 eg en marks below bits-got

      pub before_stops : {x q : ℕ} → components_at rows items msg at 0 g i S ≡ refused x q → D ≡ refused x q
      before_stops e =
          members_first ∙ next_refused _ (components_stop rows items msg at i n 0 g S (omega arith) e)

      module _ {p : Cursor} (fore : Stood none msg (components_at rows items msg at 0 g i S) p) (o : Opening)
          (er : o.component.row ≡ component_row items (g + i)) (em : o.component.mark ≡ component_mark items (g + i))
          (ed : o.component.given ≡ component_default items (g + i)) (eo : o.bit ≡ b) (ea : o.at ≡ p.at)
          (ek : o.count ≡ p.count) (ef : o.after ≡ g + (i + 1))
          (el : o.later ≡ b + presence_count (component_mark items (g + i))) (ex : o.left ≡ n - (i + 1))
          (few : b ≤ i) (some : length items / item_width ≤ 1024) where
        abbrev us : Vals
        us = fore.what

        abbrev C : Outcome Message Val
        C = read_component node_limit (component_mark items (g + i)) (component_default items (g + i))
            (type_of rows items (component_row items (g + i))) (bit_at msg at b) (length msg)
            (message (drop p.at msg) p.count)

        abbrev B : Message → Outcome Message Vals
        B s = components_at rows items msg at (b + presence_count (component_mark items (g + i))) (g + (i + 1)) (n -
            (i + 1)) s

        child_is : read_component node_limit o.component.mark o.component.given (type_of rows items o.component.row) (bit_at msg at o.bit)
            (length msg) (message (drop o.at msg) o.count) ≡ C
        child_is = rw (er, em, ed, eo, ea, ek) refl

        behind_is : (s : Message) → behind_of rows items msg row at o s ≡ B s
        unfolding behind_of choose
        behind_is s = rw (is, el, ef, ex) refl

        group : D ≡ next (joined us (next C λ x s. next (B s) λ bs s. got (value x bs) s)) λ vs s. got
            (node 10 n [] vs) s
        group =
            members_first
            ∙ ap (λ o. next o λ vs s. got (node 10 n [] vs) s)
            (components_split rows items msg at i n 0 g S (omega arith) fore.reads
            ∙ ap (joined us) (rw (← eb T, zero-add b)
            (components_step rows items msg at b g n i (message (drop p.at msg) p.count) h)))

        many : (x : Val) (bs : Vals) → length (child_before (sequence (components_from T items g n)) (node 10 n []
            (append us (value x bs))) i)
            ≡ bit_octets (b + c) + length (encode_components (components_from T items g i) us)
        unfolding child_before
        many x bs =
            let is = components_from T items g n in
            let vs = append us (value x bs) in
            let count = components_many rows items msg at i 0 g S fore.reads in
            rw (
              length-append (preamble (mark_count is) (presence is vs)) (components_before is vs i),
              preamble_length (mark_count is) (presence is vs),
              components_before_lem rows items msg at i n g us x bs count h,
              ← marks T,
            ) refl

        pub sequence_leads : at + bit_octets (b + c) ≤ length msg → Leads rows items msg row at i D o
        unfolding child_at bits_before
        sequence_leads reach =
            let known = sequence_row rows items row sound is in
            let one = known.component i (omega arith) in
            let own : _ = rw (← eg) at one in
            let taken = ap length (components_octets rows items msg at i 0 g S (below_drop 8 msg (at + bit_octets
            (b + c)) below) fore.reads) in
            let count = components_many rows items msg at i 0 g S fore.reads in
            record {
              wrap = λ x bs. node 10 n [] (append us (value x bs));
              stops = λ x q e. group_stops _ us B group x q (sym child_is ∙ e);
              ends = λ x s k q e f. group_ends _ us B group x s k q (sym child_is ∙ e) (sym (behind_is s) ∙ f);
              gets = λ x s bs r e f. group_gets _ us B group x s bs r (sym child_is ∙ e) (sym (behind_is s) ∙ f);
              leads = λ x bs. rw (type_is, er, em, ed) (component_at_lem rows items msg at i n g us x bs count h);
              before = λ x bs.
                  rw (type_is, many x bs, ea)
                  (omega (
                    arith,
                    taken,
                    length-append (encode_components (components_from T items g i) us) (drop p.at msg),
                    length-drop (at + bit_octets (b + c)) msg,
                    length-drop p.at msg,
                    fore.inside,
                    reach,
                  ));
              bit = rw (type_is, eo, marks_before_lem rows items msg at i n g (omega arith)) (eb T);
              few = omega (arith, eo, few, known.range, some);
              lower = rw er own.lower;
              inside = rw ea fore.inside;
              fitting = rw (er, em, ed) (component_fitting rows items row (g + i) own);
              behind = λ _. (
                omega (arith, ef, ex, known.range, eg, en),
                (λ j l.
                    let e : o.after + j ≡ row_first rows row + (i + 1 + j) = omega (arith, ef, eg) in
                    rw e (known.component (i + 1 + j) (omega (arith, ex, en, l)))),
                omega (arith, el, ex, few, known.range, some, presence_few (component_mark items (g + i))),
              );
            }
