-- Answers of the readers: what one says, from the outcome of X.696's definition and the code's result; a part's answer
-- taken over as the whole's.
-- Assumes nothing.
use mathlib.Core.Path.{◌≡◌, refl, ◌∙◌}
use mathlib.Core.List.{List}
use Prim.Native.Nat.{ℕ, ◌+◌, ◌≤◌}
use native.Mathlib.Omega.{arith}
use lib.ListN.{length, take, drop}
use Rattle.x696.specs.Outcome.{Outcome, refused, got, next}
use Rattle.std.proofs.Common.{Result, Ok, Err}
use Rattle.octets.specs.Cause.{code_of}
use Rattle.octets.specs.Answers.{fault, piece, RunAnswer, number, NumberAnswer, QuantityAnswer}
use Rattle.octets.specs.declared.faults.Cause.{Cause}
use Rattle.octets.specs.declared.faults.Fault.{Fault}
use Rattle.octets.specs.declared.answers.Piece.{Piece}
use Rattle.octets.specs.declared.answers.Number.{Number}
use Rattle.octets.specs.declared.answers.Quantity.{Quantity}

-- ---- what follows a reading
module _ {S T A B : Type 0} {o : Outcome S A} (k : A → S → Outcome T B) where
  pub next_refused : {n p : ℕ} → o ≡ refused n p → next o k ≡ refused n p
  unfolding next
  next_refused e = rw e

  pub next_got : {a : A} {s : S} → o ≡ got a s → next o k ≡ k a s
  unfolding next
  next_got e = rw e

-- ---- runs
module _ {msg : List ℕ} {o : Outcome (List ℕ) (List ℕ)} {at : ℕ} where
  pub run_refused : {k : Cause} {p : ℕ} {f : Fault} → o ≡ refused (code_of k) p → f ≡ fault k p
      → RunAnswer msg o at (Err f)
  run_refused e h =
      record { went = λ x g. let z : ◌≡◌ {A = ℕ} 0 1 = cc in absurd (omega arith); stopped = λ x g. cc }

  pub run_found : {r : Result Piece Fault} {s n : ℕ} → o ≡ got (take n (drop s msg)) (drop (s + n) msg) → s + n ≤ length msg → at ≤ s
      → r ≡ Ok (piece s n) → RunAnswer msg o at r
  run_found {s} {n} e h g f =
      record {
        went = λ x w. let q : piece s n ≡ x = cc in rw (← q) (record { reads = e; inside = h; ahead = g });
        stopped = λ x w. let z : ◌≡◌ {A = ℕ} 0 1 = cc in absurd (omega arith);
      }

-- the same outcome, from a place further back
pub run_from : {msg : List ℕ} {o o' : Outcome (List ℕ) (List ℕ)} {at at' : ℕ} {r : Result Piece Fault} → o ≡ o' → at ≤ at'
    → RunAnswer msg o' at' r → RunAnswer msg o at r
run_from e h w =
    record {
      went = λ x f.
          let g = w.went x f in
          record { reads = e ∙ g.reads; inside = g.inside; ahead = omega (arith, g.ahead) };
      stopped = λ x f. e ∙ w.stopped x f;
    }

-- ---- numbers
module _ {msg : List ℕ} {o : Outcome (List ℕ) ℕ} {at : ℕ} where
  pub number_refused : {k : Cause} {p : ℕ} {f : Fault} → o ≡ refused (code_of k) p → f ≡ fault k p
      → NumberAnswer msg o at (Err f)
  number_refused e h =
      record { went = λ x g. let z : ◌≡◌ {A = ℕ} 0 1 = cc in absurd (omega arith); stopped = λ x g. cc }

  -- a part's fault handed on
  pub number_fault : (f : Fault) → o ≡ refused (code_of f.cause) f.place → NumberAnswer msg o at (Err f)
  number_fault f e = number_refused e refl

  pub number_found : {r : Result Number Fault} {v n : ℕ} → o ≡ got v (drop n msg) → n ≤ length msg → at ≤ n
      → r ≡ Ok (number v n) → NumberAnswer msg o at r
  number_found {v = v} {n = n} e h g f =
      record {
        went = λ x w. let q : number v n ≡ x = cc in rw (← q) (record { reads = e; inside = h; ahead = g });
        stopped = λ x w. let z : ◌≡◌ {A = ℕ} 0 1 = cc in absurd (omega arith);
      }

pub number_from : {msg : List ℕ} {o o' : Outcome (List ℕ) ℕ} {at at' : ℕ} {r : Result Number Fault} → o ≡ o' → at ≤ at'
    → NumberAnswer msg o' at' r → NumberAnswer msg o at r
number_from e h w =
    record {
      went = λ x f.
          let g = w.went x f in
          record { reads = e ∙ g.reads; inside = g.inside; ahead = omega (arith, g.ahead) };
      stopped = λ x f. e ∙ w.stopped x f;
    }

-- ---- quantities, from numbers
abbrev quantity : (many next : ℕ) → Quantity
quantity m n = record { many = record { 0 = m }; next = n }

module _ {msg : List ℕ} {o : Outcome (List ℕ) ℕ} {at : ℕ} {r : Result Number Fault} (w : NumberAnswer msg o at r) where
  pub quantity_fault : (f : Fault) → r ≡ Err f → QuantityAnswer msg o at (Err f)
  quantity_fault f e =
      record {
        went = λ x g. let z : ◌≡◌ {A = ℕ} 0 1 = cc in absurd (omega arith);
        stopped = λ x g. let q : f ≡ x = cc in rw (← q) (w.stopped f e);
      }

  pub quantity_found : (x : Number) → r ≡ Ok x
      → QuantityAnswer msg o at (Ok (quantity x.value x.next))
  quantity_found x e =
      record {
        went = λ y g. let q : quantity x.value x.next ≡ y = cc in rw (← q) (w.went x e);
        stopped = λ y g. let z : ◌≡◌ {A = ℕ} 0 1 = cc in absurd (omega arith);
      }
