-- One member of a group, missing or carried, plain or with a mark: one law for each return of its reader.
-- Premises are the callees' `ensures`. Assumes nothing.
use mathlib.Core.Path.{◌≡◌, refl, sym, ◌∙◌, ap}
use mathlib.Core.Bool.{Bool, true, false, cond, not, ◌&&◌}
use mathlib.Core.List.{List, []}
use Prim.Native.Nat.{ℕ, ◌≤◌}
use native.Mathlib.Omega.{arith}
use lib.ListN.{length, drop}
use lib.Dec.{eqb}
use borrow.Author.Tests.{eq-eqb, ne_eqb, eqb-true, eqb-false, not-true}
use Rattle.x696.specs.Outcome.{Outcome, refused, got}
use Rattle.x696.proofs.OutcomeLaws.{cases, and_both}
use Rattle.x696.specs.Digits.{Below}
use Rattle.x696.specs.Value.{Val, node, no_values}
use Rattle.x696.specs.Read.{Message, message, counted, component_by, read, read_component}
use Rattle.x696.specs.Operations.{node_limit}
use Rattle.x696.specs.Table.{row_kind, component_row, component_mark, component_default, type_of}
use Rattle.octets.specs.Answers.{fault}
use Rattle.octets.specs.Presence.{bit_at}
use Rattle.kinds.specs.Run.{cursor, Gone, Ran}
use Rattle.kinds.specs.declared.cursor.Cursor.{Cursor}
use Rattle.kinds.proofs.Ran.{ran_gone, ran_by}
use Rattle.reading.specs.Parts.{checked}
use Rattle.reading.specs.Members.{member_at, Member}
use Rattle.reading.proofs.Sequences.{cases_eq}
use Rattle.reading.proofs.Components.{component_absent, component_default_lem, carried_stops, carried_goes}
use Rattle.std.proofs.Common.{Result, Ok, Err}
use Rattle.octets.specs.declared.faults.Cause.TheVariants.{NotCanonical}
use Rattle.octets.specs.declared.faults.Fault.{Fault}

-- ---- tests
pub bit_plain : (m : ℕ) (x : Bool) → m ≡ 0 → false ≡ not (eqb m 0) && x
bit_plain m x e = rw e refl

pub bit_marked : (m : ℕ) {x y : Bool} → (m ≡ 0 → ⊥) → x ≡ y → not x ≡ not (eqb m 0) && not y
bit_marked m h e = rw (ne_eqb m 0 h, e) refl

pub missing_marked : (m : ℕ) (x : Bool) {t : Bool} → t ≡ not (eqb m 0) && x → t ≡ true → m ≡ 0 → ⊥
missing_marked m x e y = eqb-false m 0 (not-true _ (and_both (not (eqb m 0)) x (sym e ∙ y)).0)

pub default_other : (m : ℕ) (x : Bool) → (m ≡ 2 → ⊥) → false ≡ eqb m 2 && x
default_other m x h = rw (ne_eqb m 2 h) refl

pub default_two : (m n : ℕ) {d given : ℕ} → m ≡ 2 → d ≡ given → eqb n d ≡ eqb m 2 && eqb n given
default_two m n e f = rw (eq-eqb m 2 e, f) refl

-- ---- the member of item i, with mark and presence bit b, or a plain one
module _ (rows items msg : List ℕ) (above row mark i pre b at count : ℕ) (inside : at ≤ length msg)
    (known : Member rows items above row mark i b) where
  abbrev M : Outcome Message Val
  M = member_at rows items msg mark i row pre b (message (drop at msg) count)

  abbrev O : Outcome Message Val
  O = read node_limit (type_of rows items row) (length msg) (message (drop at msg) count)

  abbrev x : Bool
  x = eqb (bit_at msg pre b) 1

  plain : mark ≡ 0 → M ≡ O
  unfolding member_at read_component component_by
  plain e = rw e refl

  -- in the terms of its item
  as_item : row ≡ component_row items i → mark ≡ component_mark items i
      → M ≡ read_component node_limit (component_mark items i) (component_default items i)
      (type_of rows items (component_row items i)) (bit_at msg pre b) (length msg) (message (drop at msg) count)
  unfolding member_at
  as_item er em = rw (← er, ← em) refl

  module _ {t : Bool} (et : t ≡ not (eqb mark 0) && not x) where
    pub member_missing : t ≡ true → (k given : ℕ) → k ≡ cond (eqb mark 1) 0 (row_kind rows row)
        → given ≡ component_default items i
        → M ≡ counted node_limit (length msg) (message (drop at msg) count) λ s. got (node k given [] no_values) s
    member_missing y k given ek eg =
        let two = and_both (not (eqb mark 0)) (not x) (sym et ∙ y) in
        let marked = missing_marked mark (not x) et y in
        let z = known.marked marked in
        as_item z.2 z.3
        ∙ cases (eqb mark 1)
        (λ e.
        let one = eqb-true mark 1 e in
        let none : given ≡ 0 = eg ∙ z.1.no_default (λ q. omega (arith, z.3)) in
        let absent : k ≡ 0 = ek ∙ rw e refl in
        component_absent rows items msg above i pre b at count inside z.1 row z.2 mark z.3
        marked given eg x refl
        two.1 one ∙ rw (none, absent) refl)
        (λ e.
        component_default_lem rows items msg above i pre b at count inside z.1 row z.2 mark z.3
        marked given eg x refl
        two.1 (eqb-false mark 1 e) k (ek ∙ rw e refl))

    module _ (no : t ≡ false) where
      there : (mark ≡ 0 → ⊥) → not x ≡ false
      there h = rw (ne_eqb mark 0 h) at (sym et ∙ no)

      pub member_stops : {j q : ℕ} → O ≡ refused j q → M ≡ refused j q
      member_stops f =
          cases_eq mark 0
          (λ e. plain e ∙ f)
          (λ h.
          let z = known.marked h in
          as_item z.2 z.3
          ∙ carried_stops rows items msg above i pre b at count inside z.1 row z.2 mark z.3 h _
          refl x refl (there h) f)

      module _ {u : ℕ} {l n l' n' : List ℕ} {d : Cursor} (g : Gone msg O at count u l n l' n' d) (below : Below 8 msg)
          {y : Bool} (ey : y ≡ eqb mark 2 && eqb d.number (component_default items i)) where
        by_check : {r : Result Cursor Fault} → (mark ≡ 0 → ⊥) → r ≡ checked mark (component_default items i) at d → Ran msg M at count u l n l' n' r
        by_check h e =
            let z = known.marked h in
            ran_by (as_item z.2 z.3)
            (carried_goes rows items msg above i pre b at count inside z.1 row z.2 mark z.3 h
            (component_default items i) refl x refl (there h) g below e)

        pub member_default_lem : {stop : Fault} → y ≡ true → stop ≡ fault NotCanonical at → Ran msg M at count u l n l' n' (Err stop)
        unfolding checked
        member_default_lem t e =
            let two = and_both (eqb mark 2) (eqb d.number (component_default items i)) (sym ey ∙ t) in
            let is : mark ≡ 2 = eqb-true mark 2 two.0 in
            by_check (λ z. omega arith) (rw (is, two.1) (ap Err e))

        pub member_goes : {r : Result Cursor Fault} → y ≡ false → r ≡ Ok (cursor d.at d.count d.used d.number)
            → Ran msg M at count u l n l' n' r
        unfolding checked
        member_goes t e =
            cases_eq mark 0
            (λ z. ran_by (plain z) (ran_gone g e))
            (λ h.
            let few = (known.marked h).1.mark in
            let em = (known.marked h).3 in
            cases_eq mark 1
            (λ one. by_check h (rw one e))
            (λ other.
            let is : mark ≡ 2 = omega arith in
            let differs : eqb d.number (component_default items i) ≡ false = rw is at (sym ey ∙ t) in
            by_check h (rw (is, differs) e)))
