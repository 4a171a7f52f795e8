-- One step into a value: the answers of its opening, and a group that holds the child among its values.
-- Assumes nothing.
use mathlib.Core.Path.{◌≡◌, refl, sym, ◌∙◌}
use mathlib.Core.Bool.{Bool, true, false, not}
use mathlib.Core.List.{List}
use Prim.Native.Nat.{ℕ, ◌<◌, ◌≤◌}
use native.Mathlib.Omega.{arith}
use lib.ListN.{length, drop}
use lib.Dec.{eqb}
use borrow.Author.Tests.{ne_eqb, eqb-true, eqb-false}
use Rattle.x696.specs.Outcome.{Outcome, refused, got, next, must, choose}
use Rattle.x696.proofs.OutcomeLaws.{next_inv, must_inv, refused_never, cases}
use Rattle.x696.specs.Value.{Val, Vals, value, same}
use Rattle.x696.specs.Types.{Ty, missing}
use Rattle.x696.specs.Read.{Message, message, times, counted, read, read_component}
use Rattle.x696.specs.Path.{no_child, child_at}
use Rattle.x696.proofs.ChildLaws.{missing_childless, with_child_differs}
use Rattle.x696.specs.Operations.{node_limit}
use Rattle.x696.specs.Table.{row_kind, type_of}
use Rattle.x696.proofs.TableKinds.{leaf_type}
use Rattle.octets.specs.Presence.{bit_at}
use Rattle.octets.specs.Answers.{fault}
use Rattle.octets.specs.declared.faults.Fault.{Fault}
use Rattle.octets.proofs.Answered.{next_refused, next_got}
use Rattle.kinds.specs.Run.{inside_at}
use Rattle.reading.proofs.Marks.{counted_over}
use Rattle.reading.proofs.Elements.{value_full, value_inside}
use Rattle.finding.specs.Passing.{Passed, components_at, none}
use Rattle.finding.specs.Leading.{behind_of, Leads, Opens}
use Rattle.finding.specs.declared.spot.Opening.{Opening}
use Rattle.finding.proofs.Parts.{plain_is, missing_is, carried_is}
use Rattle.finding.proofs.Members.{append, joined}
use Rattle.std.proofs.Common.{Result}
use Rattle.octets.specs.Cause.{code_of}
use Rattle.std.proofs.Common.{Ok, Err, Option, Some, None}
use Rattle.octets.specs.declared.faults.Cause.{Cause}
use Rattle.kinds.specs.declared.cursor.Cursor.{Cursor}

-- ---- answers
module _ {rows items msg : List ℕ} {row at i : ℕ} {O : Outcome Message Val} where
  pub opened_into : {o : Opening} → Leads rows items msg row at i O o → Opens rows items msg row at i O (Ok (Some o))
  opened_into {o} h = record {
    into = λ x e. let q : o ≡ x = cc in rw (← q) h;
    nowhere = λ e. let z : ◌≡◌ {A = ℕ} 0 1 = cc in absurd (omega arith);
    stopped = λ x e. let z : ◌≡◌ {A = ℕ} 0 1 = cc in absurd (omega arith);
  }

  pub opened_nowhere : ((v : Val) (s : Message) → O ≡ got v s → child_at (type_of rows items row) v i ≡ no_child)
      → Opens rows items msg row at i O (Ok None)
  opened_nowhere h = record {
    into = λ x e. let z : ◌≡◌ {A = ℕ} 0 1 = cc in absurd (omega arith);
    nowhere = λ e. h;
    stopped = λ x e. let z : ◌≡◌ {A = ℕ} 0 1 = cc in absurd (omega arith);
  }

  pub opened_refused : {k : Cause} {q : ℕ} {f : Fault} → O ≡ refused (code_of k) q → f ≡ fault k q
      → Opens rows items msg row at i O (Err f)
  opened_refused h e = record {
    into = λ x g. let z : ◌≡◌ {A = ℕ} 0 1 = cc in absurd (omega arith);
    nowhere = λ g. let z : ◌≡◌ {A = ℕ} 0 1 = cc in absurd (omega arith);
    stopped = λ x g. cc;
  }

  pub opened_fault : (f : Fault) → O ≡ refused (code_of f.cause) f.place → Opens rows items msg row at i O (Err f)
  opened_fault f e = opened_refused e refl

-- ---- a group: its values are us, then the child C, then what B reads
module _ {D : Outcome Message Val} (whole : Vals → Val) (us : Vals) {C : Outcome Message Val}
    (B : Message → Outcome Message Vals)
    (e : D ≡ next (joined us (next C λ x s. next (B s) λ bs s. got (value x bs) s)) λ vs s. got (whole vs) s) where
  pub group_stops : (n q : ℕ) → C ≡ refused n q → D ≡ refused n q
  unfolding next joined
  group_stops n q f = rw (e, f) refl

  pub group_ends : (x : Val) (s : Message) (n q : ℕ) → C ≡ got x s → B s ≡ refused n q → D ≡ refused n q
  unfolding next joined
  group_ends x s n q f g = rw (e, f, g) refl

  pub group_gets : (x : Val) (s : Message) (bs : Vals) (r : Message) → C ≡ got x s → B s ≡ got bs r
      → D ≡ got (whole (append us (value x bs))) r
  unfolding next joined
  group_gets x s bs r f g = rw (e, f, g) refl

-- ---- a component: plain, or carried
module _ (rows items msg : List ℕ) (row m d pre b at count i : ℕ) (inside : at ≤ length msg) where
  abbrev t : Ty
  t = type_of rows items row

  abbrev P : Outcome Message Val
  P = read_component node_limit m d t (bit_at msg pre b) (length msg) (message (drop at msg) count)

  abbrev O : Outcome Message Val
  O = read node_limit t (length msg) (message (drop at msg) count)

  abbrev D : Outcome Message Val
  D = inside_at t msg at count

  module _ (room : count < 4096) where
    pub plain_opens : {r : Result (Option Opening) Fault} → m ≡ 0 → Opens rows items msg row at i D r → Opens rows items msg row at i P r
    plain_opens e w = rw (plain_is t m d msg pre b at count inside e, value_inside t msg at count room) w

    module _ (marked : m ≡ 0 → ⊥) (x : Bool) (ex : x ≡ eqb (bit_at msg pre b) 1) where
      pub missing_opens : x ≡ false → Opens rows items msg row at i P (Ok None)
      unfolding counted
      missing_opens e =
          opened_nowhere λ v s g.
          must_inv _ _ _ _ (sym (missing_is t m d msg pre b at count inside marked x ex e) ∙ g) λ _ h.
          let q : missing m d t ≡ v = cc in
          rw (← q) (missing_childless m d t i)

      module _ (there : x ≡ true) where
        carried : P ≡ next D λ v r. must (not (same v (missing m d t))) 6 at (got v r)
        carried =
            rw (value_inside t msg at count room) at (carried_is t m d msg pre b at count inside marked x ex there)

        refused_too : {n q : ℕ} → D ≡ refused n q → P ≡ refused n q
        refused_too e = carried ∙ next_refused _ e

        -- a value with a child is not the missing one
        got_too : {v : Val} {r : Message} → same v (missing m d t) ≡ false → D ≡ got v r → P ≡ got v r
        unfolding must
        got_too f e = carried ∙ next_got _ e ∙ rw f refl

        pub carried_opens : {r : Result (Option Opening) Fault} → Opens rows items msg row at i D r → Opens rows items msg row at i P r
        carried_opens w = record {
          into = λ o e.
              let l = w.into o e in
              record {
                wrap = l.wrap;
                stops = λ n q f. refused_too (l.stops n q f);
                ends = λ x s n q f g. refused_too (l.ends x s n q f g);
                gets = λ x s bs r f g. got_too (with_child_differs m d t _ i (l.leads x bs)) (l.gets x s bs r f g);
                leads = l.leads;
                before = l.before;
                bit = l.bit;
                few = l.few;
                lower = l.lower;
                inside = l.inside;
                fitting = l.fitting;
                behind = l.behind;
              };
          nowhere = λ e v s g.
              next_inv _ _ (sym carried ∙ g) λ v₁ r₁ was then.
              must_inv _ _ _ _ then λ _ h.
              let q : v₁ ≡ v = cc in
              rw (← q) (w.nowhere e v₁ r₁ was);
          stopped = λ f e. refused_too (w.stopped f e);
        }

  -- a node too many
  component_full : 4096 ≤ count → P ≡ refused 10 at
  component_full h =
      let full : O ≡ refused 10 at = value_full t msg at count inside h in
      cases (eqb m 0)
      (λ e. plain_is t m d msg pre b at count inside (eqb-true m 0 e) ∙ full)
      (λ e.
      let marked = eqb-false m 0 e in
      cases (eqb (bit_at msg pre b) 1)
      (λ f. carried_is t m d msg pre b at count inside marked _ refl f ∙ next_refused _ full)
      (λ f. missing_is t m d msg pre b at count inside marked _ refl f ∙ counted_over msg at count _ h inside))

  pub full_opens : 4096 ≤ count → Opens rows items msg row at i P (Ok None)
  full_opens h = opened_nowhere λ v s g. absurd (refused_never (sym (component_full h) ∙ g))

-- a kind without components
pub leaf_nowhere : (rows items : List ℕ) (row : ℕ) (O : Outcome Message Val) (i : ℕ) (v : Val) (s : Message)
    → row_kind rows row < 10 → O ≡ got v s → child_at (type_of rows items row) v i ≡ no_child
unfolding child_at
leaf_nowhere rows items row O i v s h e = rw (leaf_type rows items row h).1 refl

-- ---- what stands behind the child
module _ (rows items msg : List ℕ) (row at : ℕ) (o : Opening) where
  pub components_behind : (s : Message) {r : Result Cursor Fault} → row_kind rows row ≡ 10
      → Passed none msg (components_at rows items msg at o.later o.after o.left s) r
      → Passed none msg (behind_of rows items msg row at o s) r
  unfolding behind_of choose
  components_behind s e w = rw e w

  pub elements_behind : (s : Message) {r : Result Cursor Fault} → (row_kind rows row ≡ 10 → ⊥)
      → Passed none msg (times (λ s. read node_limit (type_of rows items o.component.row) (length msg) s) o.left s) r
      → Passed none msg (behind_of rows items msg row at o s) r
  unfolding behind_of choose
  elements_behind s e w = rw (ne_eqb (row_kind rows row) 10 e) w
