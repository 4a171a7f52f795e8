-- Parts of a message passed over: an answer from a reading, one component with its mark and default, and the rest of a
-- group while it is passed. Premises are the callees' `ensures`. Assumes nothing.
use mathlib.Core.Path.{◌≡◌, refl, ◌∙◌, ap}
use mathlib.Core.Bool.{Bool, true, false, not}
use mathlib.Core.List.{List}
use Prim.Native.Nat.{ℕ, zero, suc, ◌+◌, ◌-◌, ◌<◌, ◌≤◌}
use native.Mathlib.Omega.{arith}
use lib.ListN.{length, drop}
use lib.Dec.{eqb}
use borrow.Author.Tests.{le-leb, lt-leb, eqb-true, eqb-false}
use Rattle.x696.specs.Outcome.{Outcome, refused, got, next, must, choose}
use Rattle.x696.proofs.OutcomeLaws.{cases, cases_lt}
use Rattle.x696.specs.Digits.{Below}
use Rattle.x696.specs.Value.{Val, Vals, value, same}
use Rattle.x696.specs.Types.{Ty, presence_count, missing}
use Rattle.x696.specs.Read.{Message, message, counted, component_by, read, read_component}
use Rattle.x696.proofs.Sound.{sound}
use Rattle.x696.specs.Operations.{node_limit}
use Rattle.x696.specs.Table.{component_row, component_mark, component_default, type_of}
use Rattle.x696.specs.SoundTable.{Component}
use Rattle.octets.specs.Presence.{bit_at}
use Rattle.octets.specs.Answers.{fault}
use Rattle.octets.specs.declared.faults.Fault.{Fault}
use Rattle.octets.proofs.Answered.{next_refused, next_got}
use Rattle.octets.proofs.Octets.{below_drop}
use Rattle.kinds.specs.Run.{cursor, number_of, Ran}
use Rattle.kinds.specs.declared.cursor.Cursor.{Cursor}
use Rattle.kinds.proofs.Ran.{offset_is}
use Rattle.reading.specs.Parts.{checked}
use Rattle.reading.specs.Members.{member_row, member_mark, member_at, members, RanAll}
use Rattle.reading.proofs.Components.{bit_zero, marked_is}
use Rattle.reading.proofs.Defaults.{never_absent, default_same, missing_default}
use Rattle.finding.specs.Passing.{Stood, Passed, Fitting, left_out_at, components_at, none}
use Rattle.std.proofs.Common.{Result, Ok, Err}
use Rattle.octets.specs.Cause.{code_of}
use Rattle.octets.specs.declared.faults.Cause.{Cause}
use Rattle.octets.specs.declared.faults.Cause.TheVariants.{NotCanonical}
use Rattle.octets.specs.declared.faults.Cause.TheVariants.{Nodes}

-- ---- answers
module _ {A : Type 0} {f : A → ℕ} {msg : List ℕ} {o : Outcome Message A} where
  pub passed_refused : {k : Cause} {q : ℕ} {stop : Fault} → o ≡ refused (code_of k) q → stop ≡ fault k q
      → Passed f msg o (Err stop)
  passed_refused e g =
      record { went = λ c h. let z : ◌≡◌ {A = ℕ} 0 1 = cc in absurd (omega arith); stopped = λ x h. cc }

  pub passed_fault : (x : Fault) → o ≡ refused (code_of x.cause) x.place → Passed f msg o (Err x)
  passed_fault x e = passed_refused e refl

  pub passed_got : {c : Cursor} {r : Result Cursor Fault} → Stood f msg o c → r ≡ Ok c → Passed f msg o r
  passed_got {c} g e = record {
    went = λ d h. let q : c ≡ d = cc in rw (← q) g;
    stopped = λ x h. let z : ◌≡◌ {A = ℕ} 0 1 = cc in absurd (omega arith);
  }

  pub passed_by : {q : Outcome Message A} {r : Result Cursor Fault} → q ≡ o → Passed f msg o r → Passed f msg q r
  passed_by e w = rw e w

pub ran_passed : {msg : List ℕ} {o : Outcome Message Val} {p n u : ℕ} {l b l' b' : List ℕ} {r : Result Cursor Fault}
    → Ran msg o p n u l b l' b' r → Passed number_of msg o r
ran_passed w = record {
  went = λ c e.
      let g = w.went c e in
      record { what = g.what; reads = g.reads; number = g.number; inside = g.inside };
  stopped = w.stopped;
}

-- values one after another, read as the members of a group
module _ {msg : List ℕ} {o q : Outcome Message Vals} {p n u : ℕ} {l b l' b' : List ℕ} {r : Result Cursor Fault} (e : q ≡ o)
    (w : RanAll msg o p n u l b l' b' r) where
  pub all_stopped : (f : Fault) → r ≡ Err f → Passed none msg q (Err f)
  all_stopped f g = passed_fault f (e ∙ w.stopped f g)

  pub all_passed : (d : Cursor) {s : Result Cursor Fault} → r ≡ Ok d → s ≡ Ok (cursor d.at d.count 0 0) → Passed none msg q s
  all_passed d g =
      let z = w.went d g in
      passed_got (record { what = z.what; reads = e ∙ z.reads; number = refl; inside = z.inside })

-- ---- a component that is not carried
pub left_over_lem : (d at count : ℕ) {stop : Fault} → 4096 ≤ count → stop ≡ fault Nodes at → Err stop ≡ left_out_at d at count
unfolding left_out_at
left_over_lem d at count h e = rw (le-leb node_limit count h) (ap Err e)

pub left_counted : (d at count : ℕ) {r : Result Cursor Fault} → count < 4096 → r ≡ Ok (cursor at (suc count) 0 d)
    → r ≡ left_out_at d at count
unfolding left_out_at
left_counted d at count h e = rw (lt-leb node_limit count h) e

-- ---- one component
missing_number : (m d : ℕ) (t : Ty) → (m ≡ 0 → ⊥) → Fitting t m d → d ≡ number_of (missing m d t)
unfolding missing number_of
missing_number zero d t h f = absurd (h refl)
missing_number (suc zero) d t h f = f.2 (λ z. omega arith)
missing_number (suc (suc m)) d t h f = refl

module _ (t : Ty) (m d : ℕ) (msg : List ℕ) (pre b at count : ℕ) (inside : at ≤ length msg) where
  abbrev P : Outcome Message Val
  P = read_component node_limit m d t (bit_at msg pre b) (length msg) (message (drop at msg) count)

  abbrev O : Outcome Message Val
  O = read node_limit t (length msg) (message (drop at msg) count)

  pub plain_is : m ≡ 0 → P ≡ O
  unfolding read_component component_by
  plain_is e = rw e

  module _ (marked : m ≡ 0 → ⊥) (x : Bool) (ex : x ≡ eqb (bit_at msg pre b) 1) where
    by_bit : P
        ≡ choose (not x)
        (λ _. counted node_limit (length msg) (message (drop at msg) count) λ s. got (missing m d t) s)
        (λ _. next O λ v r. must (not (same v (missing m d t))) 6 at (got v r))
    by_bit =
        marked_is m d t (bit_at msg pre b) (length msg) (message (drop at msg) count) marked
        ∙ rw (bit_zero msg pre b, ← ex, offset_is msg at inside)

    pub missing_is : x ≡ false
        → P ≡ counted node_limit (length msg) (message (drop at msg) count) λ s. got (missing m d t) s
    unfolding choose
    missing_is e = by_bit ∙ rw e

    pub carried_is : x ≡ true → P ≡ next O λ v r. must (not (same v (missing m d t))) 6 at (got v r)
    unfolding choose
    carried_is e = by_bit ∙ rw e

    module _ (fit : Fitting t m d) where
      pub missing_passed : {r : Result Cursor Fault} → x ≡ false → r ≡ left_out_at d at count → Passed number_of msg P r
      unfolding left_out_at counted must
      missing_passed {r} e f =
          passed_by (missing_is e)
          (cases_lt count 4096
          (λ l h.
          passed_got (record {
            what = missing m d t;
            reads = rw l refl;
            number = missing_number m d t marked fit;
            inside = inside;
          }) (rw (lt-leb node_limit count h) at f))
          (λ l h.
          let stops : r ≡ Err (fault Nodes at) = rw (le-leb node_limit count h) at f in
          rw stops (passed_refused (rw (l, offset_is msg at inside) refl) refl)))

      module _ (there : x ≡ true) where
        pub carried_stops : {k q : ℕ} → O ≡ refused k q → P ≡ refused k q
        carried_stops f = carried_is there ∙ next_refused _ f

        module _ {c : Cursor} (g : Stood number_of msg O c) where
          carried_same : {s : Bool} → same g.what (missing m d t) ≡ s
              → P ≡ must (not s) 6 at (got g.what (message (drop c.at msg) c.count))
          carried_same f = carried_is there ∙ next_got _ g.reads ∙ rw f

          differing : same g.what (missing m d t) ≡ false → Stood number_of msg P c
          unfolding must
          differing f =
              record { what = g.what; reads = carried_same f; number = g.number; inside = g.inside }

          pub carried_passed : {r : Result Cursor Fault} → Below 8 msg → r ≡ checked m d at c → Passed number_of msg P r
          unfolding must checked missing
          carried_passed {r} below e =
              let fits = (sound node_limit t (length msg) (message (drop at msg) count) (below_drop 8 msg at below)
              g.reads).fits in
              cases (eqb m 1)
              (λ s.
              let one : m ≡ 1 = eqb-true m 1 s in
              passed_got (differing (rw one (never_absent fits))) (rw s at e))
              (λ s.
              let other = eqb-false m 1 s in
              let two : m ≡ 2 = omega (arith, fit.0) in
              let is : same g.what (missing m d t) ≡ eqb c.number d =
              rw (missing_default m d t marked other, g.number)
              (default_same t d g.what (fit.1 two) fits) in
              cases (eqb c.number d)
              (λ y.
              let stops : r ≡ Err (fault NotCanonical at) = rw (s, y) at e in
              rw stops (passed_refused (carried_same (is ∙ y)) refl))
              (λ y. passed_got (differing (is ∙ y)) (rw (s, y) at e)))

-- ---- the first of some components, and those after it
module _ (rows items msg : List ℕ) (pre b first n i : ℕ) (s : Message) where
  abbrev pub component_after : Message → Outcome Message Vals
  component_after = λ s. components_at rows items msg pre (b + presence_count (component_mark items (first + i)))
      (first + (i + 1)) (n - (i + 1)) s

  pub components_step : i < n
      → components_at rows items msg pre b (first + i) (n - i) s
      ≡ next (read_component node_limit (component_mark items (first + i)) (component_default items (first + i))
      (type_of rows items (component_row items (first + i))) (bit_at msg pre b) (length msg) s) λ v s.
      next (component_after s) λ vs s. got (value v vs) s
  unfolding members member_at member_mark member_row
  components_step h =
      let k : n - i ≡ suc (n - (i + 1)) = omega arith in
      let j : suc (first + i) ≡ first + (i + 1) = omega arith in
      rw (k, j)

-- the mark and the default of a row's component
pub component_fitting : (rows items : List ℕ) (row i : ℕ) → Component rows items row i
    → Fitting (type_of rows items (component_row items i)) (component_mark items i) (component_default items i)
component_fitting rows items row i c = (c.mark, c.default, c.no_default)
