-- Values that are a number and a test of it: INTEGER, ENUMERATED, REAL.
-- Premises are the callees' `ensures` and the tests as they went. Assumes nothing.
use mathlib.Core.Path.{◌≡◌, refl, ap, ◌∙◌}
use mathlib.Core.Bool.{Bool, true, false}
use mathlib.Core.List.{List, []}
use Prim.Native.Nat.{ℕ, ◌+◌, ◌-◌, ◌<◌, ◌≤◌}
use native.Mathlib.Omega.{arith}
use lib.ListN.{length, take, drop}
use Rattle.x696.specs.Outcome.{Outcome, refused, got, next, must}
use Rattle.x696.specs.Digits.{from_digits}
use Rattle.x696.specs.Length.{run}
use Rattle.x696.specs.Integer.{fixed_unsigned, allowed, integer_form, read_form}
use Rattle.x696.specs.Enumerated.{listed, read_enumerated}
use Rattle.x696.specs.Real.{Precision, binary32, binary64, real_octets, real_allowed}
use Rattle.x696.specs.Value.{Val, node, no_values}
use Rattle.x696.specs.Leaf.{integer, enumerated, real, real_kind, read_leaf}
use Rattle.x696.specs.Read.{Message}
use Rattle.octets.specs.Answers.{fault, number, NumberAnswer}
use Rattle.octets.specs.declared.faults.Fault.{Fault}
use Rattle.octets.specs.declared.answers.Number.{Number}
use Rattle.kinds.specs.Run.{ScalarAnswer, leaf_at, in_message}
use Rattle.kinds.proofs.Ran.{leaf_is}
use Rattle.kinds.proofs.Scalars.{scalar_refused, scalar_found}
use Rattle.kinds.proofs.Fixed.{unsigned_lacks, unsigned_there}
use Rattle.std.proofs.Common.{Result, Ok, Err}
use Rattle.octets.specs.declared.faults.Cause.TheVariants.{Short, NotCanonical, NotAllowed}
use Rattle.octets.specs.declared.faults.Cause.{Cause}
use Rattle.octets.specs.Cause.{code_of}

-- the number that o gives, refused with j where it fails the test, else a node of kind k
pub record Tested (q : Outcome Message Val) (o : Outcome (List ℕ) ℕ) (t : ℕ → Bool) (j : Cause) (k p count : ℕ) : Type 0 where
  pub is : q ≡ in_message (next o λ w r. must (t w) (code_of j) p (got (node k w [] no_values) r)) count

-- ---- the kinds
pub real_few : (w : Precision) → real_octets w ≤ 8
unfolding real_octets
real_few binary32 = omega arith
real_few binary64 = omega arith

-- bits are an unsigned number of a fixed size
number_in : (o : Outcome (List ℕ) (List ℕ)) (g : ℕ → List ℕ → Outcome (List ℕ) Val)
    → next o (λ os r. g (from_digits 8 os) r) ≡ next (next o λ os r. got (from_digits 8 os) r) g
unfolding next
number_in (refused j q) g = refl
number_in (got os r) g = refl

module _ (msg : List ℕ) (at count : ℕ) (h : at ≤ length msg) where
  pub integer_tested : (f a b : ℕ)
      → Tested (leaf_at (integer f a b) msg at count) (read_form (integer_form f a b) at (drop at msg)) (allowed f a b)
      NotAllowed 2 at count
  unfolding read_leaf
  integer_tested f a b = record { is = leaf_is (integer f a b) msg at count h }

  pub enumerated_tested : (ns : List ℕ)
      → Tested (leaf_at (enumerated ns) msg at count) (read_enumerated at (drop at msg)) (λ w. listed w ns) NotAllowed 3 at count
  unfolding read_leaf
  enumerated_tested ns = record { is = leaf_is (enumerated ns) msg at count h }

  real_tested : (w : Precision) {n : ℕ} → n ≡ real_octets w
      → Tested (leaf_at (real w) msg at count) (read_form (fixed_unsigned n) at (drop at msg)) (real_allowed w) NotCanonical
      (real_kind w) at count
  unfolding read_leaf read_form
  real_tested w {n} e = record {
    is =
        leaf_is (real w) msg at count h
        ∙ rw (← e)
        (ap (λ o. in_message o count)
        (number_in (run at n (drop at msg)) (λ x r. must (real_allowed w x) 6 at (got (node (real_kind w) x [] no_values) r))));
  }

-- ---- the answers
module _
    {msg : List ℕ} {q : Outcome Message Val} {o : Outcome (List ℕ) ℕ} {t : ℕ → Bool} {j : Cause} {k at count : ℕ}
    {r : Result Number Fault} (w : Tested q o t j k at count) (answer : NumberAnswer msg o at r)
  where
    pub tested_stops : (f : Fault) → r ≡ Err f → ScalarAnswer msg q k at count (Err f)
    unfolding next
    tested_stops f e = scalar_refused (w.is ∙ rw (answer.stopped f e)) refl

    module _ (n : Number) (e : r ≡ Ok n) {y : Bool} (ey : y ≡ t n.value) where
      pub tested_refuses : {stop : Fault} → y ≡ false → stop ≡ fault j at → ScalarAnswer msg q k at count (Err stop)
      unfolding next must
      tested_refuses bad = scalar_refused (w.is ∙ rw ((answer.went n e).reads, ← ey, bad))

      pub tested_goes : {x : Result Number Fault} → y ≡ true → x ≡ Ok (number n.value n.next) → ScalarAnswer msg q k at count x
      unfolding next must
      tested_goes good =
          scalar_found (w.is ∙ rw ((answer.went n e).reads, ← ey, good))
          (answer.went n e).inside (answer.went n e).ahead

-- ---- REAL: its octets there or not
module _
    (w : Precision) {m : ℕ} (f : m ≡ real_octets w) (msg : List ℕ) {at count : ℕ} (h : at ≤ length msg)
  where
    pub real_lacks : {stop : Fault} → length msg - at < m → stop ≡ fault Short at
        → ScalarAnswer msg (leaf_at (real w) msg at count) (real_kind w) at count (Err stop)
    real_lacks {stop} g e = tested_stops (real_tested msg at count h w f) (unsigned_lacks msg at m h g e) stop refl

    module _
        (g : m ≤ length msg - at) {n : ℕ} (en : n ≡ from_digits 8 (take m (drop at msg))) {y : Bool}
        (ey : y ≡ real_allowed w n)
      where
        pub real_refuses : {stop : Fault} → y ≡ false → stop ≡ fault NotCanonical at
            → ScalarAnswer msg (leaf_at (real w) msg at count) (real_kind w) at count (Err stop)
        real_refuses =
            tested_refuses (real_tested msg at count h w f)
            (unsigned_there msg at m h g en refl) (number n (at + m)) refl ey

        pub real_goes : {x : Result Number Fault} → y ≡ true → x ≡ Ok (number n (at + m))
            → ScalarAnswer msg (leaf_at (real w) msg at count) (real_kind w) at count x
        real_goes =
            tested_goes (real_tested msg at count h w f)
            (unsigned_there msg at m h g en refl) (number n (at + m)) refl ey
