-- Answers of the readers of kinds 1 to 6: a refusal, a number; and what its node then makes of it.
-- Premises are the callees' `ensures`. Assumes nothing.
use mathlib.Core.Path.{◌≡◌, refl}
use mathlib.Core.List.{List, [], ◌∷◌}
use Prim.Native.Nat.{ℕ, suc, ◌+◌, ◌*◌, ◌≤◌}
use native.Mathlib.Omega.{arith}
use lib.ListN.{length, drop}
use lib.Seq.{sets}
use Rattle.x696.specs.Outcome.{Outcome, refused, got}
use Rattle.x696.specs.Value.{Val, node, no_values, node_width}
use Rattle.x696.specs.Read.{Message, message}
use Rattle.octets.specs.Answers.{fault, number}
use Rattle.octets.specs.declared.answers.Number.{Number}
use Rattle.kinds.specs.Run.{cursor, ScalarAnswer, Ran}
use Rattle.kinds.proofs.Ran.{ran_leaf}
use Rattle.std.proofs.Common.{Result, Ok, Err}
use Rattle.octets.specs.Cause.{code_of}
use Rattle.octets.specs.declared.faults.Cause.{Cause}
use Rattle.octets.specs.declared.faults.Fault.{Fault}
use Rattle.kinds.specs.declared.cursor.Cursor.{Cursor}

module _ {msg : List ℕ} {o : Outcome Message Val} {k p n : ℕ} where
  pub scalar_refused : {j : Cause} {q : ℕ} {stop : Fault} → o ≡ refused (code_of j) q → stop ≡ fault j q
      → ScalarAnswer msg o k p n (Err stop)
  scalar_refused e f = record {
    went = λ x g. let z : ◌≡◌ {A = ℕ} 0 1 = cc in absurd (omega arith);
    stopped = λ h g. cc;
  }

  pub scalar_found : {r : Result Number Fault} {x q : ℕ} → o ≡ got (node k x [] no_values) (message (drop q msg) (suc n)) → q ≤ length msg → p ≤ q
      → r ≡ Ok (number x q) → ScalarAnswer msg o k p n r
  scalar_found {x} {q} e h g f = record {
    went = λ y d.
        let z : number x q ≡ y = cc in
        rw (← z) (record { reads = e; inside = h; ahead = g });
    stopped = λ y d. let z : ◌≡◌ {A = ℕ} 0 1 = cc in absurd (omega arith);
  }

  pub scalar_by : {r : Result Number Fault} {q : Outcome Message Val} {j : ℕ} → q ≡ o → j ≡ k → ScalarAnswer msg o k p n r
      → ScalarAnswer msg q j p n r
  scalar_by e f w = rw (e, f) w

  -- its node stored
  pub scalar_stored : {r : Result Number Fault} {u : ℕ} (l b : List ℕ) {l' : List ℕ} {y : Result Cursor Fault} → ScalarAnswer msg o k p n r
      → (x : Number) → r ≡ Ok x → l' ≡ sets l (n * node_width) (k ∷ x.value ∷ [])
      → y ≡ Ok (cursor x.next (n + 1) u x.value) → Ran msg o p n u l b l' b y
  scalar_stored {u} l b w x e s =
      let z = w.went x e in
      ran_leaf msg p x.next n u l b k x.value [] z.reads z.inside (omega arith)
      (omega (arith, z.ahead)) s refl
