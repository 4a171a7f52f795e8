-- BOOLEAN and NULL. Premises are the callees' `ensures` and the tests as they went. Assumes nothing.
use mathlib.Core.Path.{◌≡◌, ◌∙◌}
use mathlib.Core.List.{List}
use Prim.Native.Nat.{ℕ, ◌+◌, ◌<◌, ◌≤◌}
use native.Mathlib.Omega.{arith}
use lib.ListN.{length, get_or}
use borrow.Author.Tests.{ne_eqb}
use Rattle.x696.specs.Outcome.{next, must}
use Rattle.x696.specs.Leaf.{boolean, null, read_leaf}
use Rattle.octets.specs.Answers.{fault, number}
use Rattle.octets.proofs.CountedRuns.{octet_past, octet_at}
use Rattle.kinds.specs.Run.{ScalarAnswer, leaf_at}
use Rattle.kinds.proofs.Ran.{leaf_is}
use Rattle.kinds.proofs.Scalars.{scalar_refused, scalar_found}
use Rattle.std.proofs.Common.{Result, Ok, Err}
use Rattle.octets.specs.declared.faults.Cause.TheVariants.{Short, NotCanonical}
use Rattle.octets.specs.declared.faults.Fault.{Fault}
use Rattle.octets.specs.declared.answers.Number.{Number}

module _ (msg : List ℕ) {at count : ℕ} (h : at ≤ length msg) where
  pub null_goes : {r : Result Number Fault} → r ≡ Ok (number 0 at) → ScalarAnswer msg (leaf_at null msg at count) 6 at count r
  unfolding read_leaf next
  null_goes = scalar_found (leaf_is null msg at count h) h (omega arith)

  pub boolean_past : {stop : Fault} → length msg ≤ at → stop ≡ fault Short at
      → ScalarAnswer msg (leaf_at boolean msg at count) 1 at count (Err stop)
  unfolding read_leaf next
  boolean_past g = scalar_refused (leaf_is boolean msg at count h ∙ rw (octet_past msg at at g))

  module _ (g : at < length msg) {x : ℕ} (ex : x ≡ get_or msg at 0) where
    pub boolean_other : {stop : Fault} → (x ≡ 0 → ⊥) → (x ≡ 255 → ⊥) → stop ≡ fault NotCanonical at
        → ScalarAnswer msg (leaf_at boolean msg at count) 1 at count (Err stop)
    unfolding read_leaf next must
    boolean_other p q =
        scalar_refused (leaf_is boolean msg at count h ∙ rw (octet_at msg at at g, ← ex, ne_eqb x 0 p, ne_eqb x 255 q))

    pub boolean_false : {r : Result Number Fault} → x ≡ 0 → r ≡ Ok (number 0 (at + 1))
        → ScalarAnswer msg (leaf_at boolean msg at count) 1 at count r
    unfolding read_leaf next must
    boolean_false e =
        scalar_found (leaf_is boolean msg at count h ∙ rw (octet_at msg at at g, ← ex, e)) (omega arith) (omega arith)

    pub boolean_true : {r : Result Number Fault} → x ≡ 255 → r ≡ Ok (number 1 (at + 1))
        → ScalarAnswer msg (leaf_at boolean msg at count) 1 at count r
    unfolding read_leaf next must
    boolean_true e =
        scalar_found (leaf_is boolean msg at count h ∙ rw (octet_at msg at at g, ← ex, e)) (omega arith) (omega arith)
