-- One component of a SEQUENCE, plain, missing (ABSENT or its DEFAULT) or carried: one law for each return of its
-- reader. Premises are the callees' `ensures`.
-- Assumes nothing.
use mathlib.Core.Path.{◌≡◌, refl, ◌∙◌}
use mathlib.Core.Bool.{Bool, true, false, not}
use mathlib.Core.List.{List, []}
use Prim.Native.Nat.{ℕ, zero, suc, ◌+◌, ◌-◌, ◌/◌, ◌%◌, ◌^◌, ◌≤◌}
use native.Mathlib.Omega.{arith}
use lib.ListN.{length, drop, get_or}
use lib.Dec.{eqb}
use borrow.Author.Tests.{eq-eqb, eqb-true, eqb-false}
use Rattle.x696.specs.Outcome.{Outcome, refused, got, next, must, choose}
use Rattle.x696.proofs.OutcomeLaws.{cases}
use Rattle.x696.specs.Digits.{Below}
use Rattle.x696.specs.Value.{Val, node, no_values, same}
use Rattle.x696.specs.Types.{Ty, missing}
use Rattle.x696.specs.Read.{Message, message, offset, counted, component_by, read, read_component}
use Rattle.x696.proofs.Sound.{sound}
use Rattle.x696.specs.Operations.{node_limit}
use Rattle.x696.specs.Table.{row_kind, component_row, component_mark, component_default, type_of}
use Rattle.x696.specs.TableCheck.{default_sound}
use Rattle.x696.specs.SoundTable.{Component}
use Rattle.octets.specs.Presence.{bit_at}
use Rattle.octets.proofs.Answered.{next_refused, next_got}
use Rattle.octets.proofs.Octets.{below_drop}
use Rattle.kinds.specs.Run.{Gone, Ran}
use Rattle.reading.specs.Parts.{checked}
use Rattle.kinds.specs.declared.cursor.Cursor.{Cursor}
use Rattle.kinds.proofs.Ran.{ran_refused, ran_gone, offset_is}
use Rattle.reading.proofs.Defaults.{never_absent, default_same, missing_default, default_kind}
use Rattle.std.proofs.Common.{Result}
use Rattle.std.proofs.Common.{Err}
use Rattle.octets.specs.declared.faults.Cause.TheVariants.{NotCanonical}
use Rattle.octets.specs.Answers.{fault}
use Rattle.octets.specs.declared.faults.Fault.{Fault}

-- a bit is 0 exactly if it is not 1
pub bit_zero : (msg : List ℕ) (pre b : ℕ) → eqb (bit_at msg pre b) 0 ≡ not (eqb (bit_at msg pre b) 1)
unfolding bit_at
bit_zero msg pre b =
    let n = get_or msg (pre + b / 8) 0 / 2 ^ (7 - b % 8) in
    cases (eqb (n % 2) 1)
    (λ e. let one : n % 2 ≡ 1 = eqb-true (n % 2) 1 e in rw one)
    (λ e. let other = eqb-false (n % 2) 1 e in rw (e, eq-eqb (n % 2) 0 (omega arith)))

-- a component with a presence bit
pub marked_is : (m d : ℕ) (t : Ty) (x end : ℕ) (s : Message) → (m ≡ 0 → ⊥)
    → read_component node_limit m d t x end s
    ≡ choose (eqb x 0) (λ _. counted node_limit end s λ s. got (missing m d t) s)
    (λ _. next (read node_limit t end s) λ v r. must (not (same v (missing m d t))) 6 (offset end s.octets) (got v r))
unfolding read_component component_by
marked_is zero d t x end s h = absurd (h refl)
marked_is (suc m) d t x end s h = refl

module _ (rows items msg : List ℕ) (row i pre b at count : ℕ) (inside : at ≤ length msg)
    (known : Component rows items row i) (inner : ℕ) (ei : inner ≡ component_row items i)
    (mark : ℕ) (em : mark ≡ component_mark items i) where
  abbrev P : Outcome Message Val
  P = read_component node_limit (component_mark items i) (component_default items i)
      (type_of rows items (component_row items i)) (bit_at msg pre b) (length msg) (message (drop at msg) count)

  abbrev T : Ty
  T = type_of rows items inner

  abbrev O : Outcome Message Val
  O = read node_limit T (length msg) (message (drop at msg) count)

  module _ (marked : mark ≡ 0 → ⊥) (given : ℕ) (ed : given ≡ component_default items i)
      (x : Bool) (ex : x ≡ eqb (bit_at msg pre b) 1) where
    by_bit : P
        ≡ choose (not x)
        (λ _. counted node_limit (length msg) (message (drop at msg) count) λ s. got (missing mark given T) s)
        (λ _. next O λ v r. must (not (same v (missing mark given T))) 6 at (got v r))
    by_bit =
        rw (← em, ← ei, ← ed)
        (marked_is mark given T (bit_at msg pre b) (length msg) (message (drop at msg) count) marked
        ∙ rw (bit_zero msg pre b, ← ex, offset_is msg at inside))

    -- the default is one of its type
    sound_default : (mark ≡ 1 → ⊥) → default_sound T given ≡ true
    sound_default f = rw (ei, ed) (known.default (omega (arith, known.mark, em, marked, f)))

    pub component_absent : not x ≡ true → mark ≡ 1
        → P ≡ counted node_limit (length msg) (message (drop at msg) count) λ s. got (node 0 0 [] no_values) s
    unfolding choose missing
    component_absent e f = by_bit ∙ rw (e, f)

    pub component_default_lem : not x ≡ true → (mark ≡ 1 → ⊥) → (k : ℕ) → k ≡ row_kind rows inner
        → P ≡ counted node_limit (length msg) (message (drop at msg) count) λ s. got (node k given [] no_values) s
    unfolding choose
    component_default_lem e f k ek =
        let kind = default_kind rows items inner given (sound_default f) in
        by_bit ∙ rw (e, missing_default mark given T marked f, kind, ek)

    module _ (there : not x ≡ false) where
      carried : P ≡ next O λ v r. must (not (same v (missing mark given T))) 6 at (got v r)
      unfolding choose
      carried = by_bit ∙ rw there

      pub carried_stops : {k q : ℕ} → O ≡ refused k q → P ≡ refused k q
      carried_stops f = carried ∙ next_refused _ f

      module _ {u : ℕ} {l n l' n' : List ℕ} {d : Cursor} (g : Gone msg O at count u l n l' n' d) where
        carried_same : {t : Bool} → same g.what (missing mark given T) ≡ t
            → P ≡ must (not t) 6 at (got g.what (message (drop d.at msg) d.count))
        carried_same f = carried ∙ next_got _ g.reads ∙ rw f

        differing : same g.what (missing mark given T) ≡ false → Gone msg P at count u l n l' n' d
        unfolding must
        differing f = record {
          what = g.what;
          reads = carried_same f;
          number = g.number;
          inside = g.inside;
          count = g.count;
          used = g.used;
          ahead = g.ahead;
          stored = g.stored;
          copied = g.copied;
        }

        pub carried_goes : {r : Result Cursor Fault} → Below 8 msg → r ≡ checked mark given at d → Ran msg P at count u l n l' n' r
        unfolding must checked missing
        carried_goes {r} below e =
            let fit = (sound node_limit T (length msg) (message (drop at msg) count) (below_drop 8 msg at below)
            g.reads).fits in
            cases (eqb mark 1)
            (λ t.
            let one : mark ≡ 1 = eqb-true mark 1 t in
            ran_gone (differing (rw one (never_absent fit))) (rw t at e))
            (λ t.
            let other = eqb-false mark 1 t in
            let is : same g.what (missing mark given T) ≡ eqb d.number given =
            rw (missing_default mark given T marked other, g.number)
            (default_same T given g.what (sound_default other) fit) in
            cases (eqb d.number given)
            (λ y.
            let stops : r ≡ Err (fault NotCanonical at) = rw (t, y) at e in
            rw stops (ran_refused (carried_same (is ∙ y)) refl))
            (λ y. ran_gone (differing (is ∙ y)) (rw (t, y) at e)))
