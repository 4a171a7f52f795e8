-- Answers of writers: a refusal, a fault passed up, a value written. Premises are the callees' `ensures`.
-- Assumes nothing.
use mathlib.Core.Path.{◌≡◌, refl}
use mathlib.Core.List.{List}
use Prim.Native.Nat.{ℕ}
use native.Mathlib.Omega.{arith}
use Rattle.x696.specs.Outcome.{Outcome, refused}
use Rattle.x696.specs.Value.{Val}
use Rattle.x696.specs.Walk.{Listed}
use Rattle.octets.specs.Answers.{fault}
use Rattle.octets.specs.declared.faults.Fault.{Fault}
use Rattle.pens.specs.Put.{Penned, Put}
use Rattle.pens.specs.declared.pen.Pen.{Pen}
use Rattle.std.proofs.Common.{Result, Ok, Err}
use Rattle.octets.specs.declared.faults.Cause.{Cause}
use Rattle.octets.specs.Cause.{code_of}

module _ {ws cs : List ℕ} {o : Outcome Listed Val} {octets : Val → List ℕ} {n u p : ℕ} {l l' : List ℕ} where
  pub put_refused : {k : Cause} {q : ℕ} {stop : Fault} → o ≡ refused (code_of k) q → stop ≡ fault k q
      → Put ws cs o octets n u p l l' (Err stop)
  put_refused e f = record { went = λ c g. let z : ◌≡◌ {A = ℕ} 0 1 = cc in absurd (omega arith); stopped = λ h g. cc }

  pub put_penned : {c : Pen} {r : Result Pen Fault} → Penned ws cs o octets n u p l l' c → r ≡ Ok c
      → Put ws cs o octets n u p l l' r
  put_penned {c} g f = record {
    went = λ d e. let q : c ≡ d = cc in rw (← q) g;
    stopped = λ h e. let z : ◌≡◌ {A = ℕ} 0 1 = cc in absurd (omega arith);
  }

  -- a fault of a part, passed up
  pub put_fault : (f : Fault) → o ≡ refused (code_of f.cause) f.place → Put ws cs o octets n u p l l' (Err f)
  put_fault f e = put_refused e refl

  pub put_by : {q : Outcome Listed Val} {r : Result Pen Fault} → q ≡ o → Put ws cs o octets n u p l l' r
      → Put ws cs q octets n u p l l' r
  put_by e w = rw e w
