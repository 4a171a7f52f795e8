-- Answers of readers: a refusal, a fault passed up, a value with no values in it; and the place of a refusal.
-- Premises are the callees' `ensures`. Assumes nothing.
use mathlib.Core.Path.{◌≡◌, refl, sym, ap, ◌∙◌}
use mathlib.Core.List.{List, [], ◌∷◌, append-nil}
use Prim.Native.Nat.{ℕ, suc, ◌+◌, ◌*◌, ◌≤◌}
use native.Mathlib.Omega.{arith}
use native.Mathlib.Numerals.{add-one}
use lib.ListN.{length, drop, length-drop}
use lib.Seq.{sets}
use Rattle.x696.specs.Outcome.{Outcome, refused, got}
use Rattle.x696.specs.Value.{Val, node, no_values, node_width, size, nodes, contents}
use Rattle.x696.specs.Leaf.{Leaf, read_leaf}
use Rattle.x696.specs.Read.{Message, message, offset, read_inside}
use Rattle.octets.specs.Answers.{fault}
use Rattle.octets.specs.Cause.{code_of}
use Rattle.octets.specs.declared.faults.Cause.{Cause}
use Rattle.octets.specs.declared.faults.Fault.{Fault}
use Rattle.kinds.specs.Run.{cursor, number_of, Gone, Ran, inside_at, leaf_at, in_message}
use Rattle.kinds.specs.declared.cursor.Cursor.{Cursor}
use Rattle.std.proofs.Common.{Result, Ok, Err}
use Rattle.octets.specs.Cause.{code_of}

module _ {msg : List ℕ} {o : Outcome Message Val} {p n u : ℕ} {l b l' b' : List ℕ} where
  pub ran_refused : {k : Cause} {q : ℕ} {stop : Fault} → o ≡ refused (code_of k) q → stop ≡ fault k q
      → Ran msg o p n u l b l' b' (Err stop)
  ran_refused e f = record { went = λ c g. let z : ◌≡◌ {A = ℕ} 0 1 = cc in absurd (omega arith); stopped = λ h g. cc }

  pub ran_gone : {c : Cursor} {r : Result Cursor Fault} → Gone msg o p n u l b l' b' c → r ≡ Ok c → Ran msg o p n u l b l' b' r
  ran_gone {c} g f = record {
    went = λ d e. let q : c ≡ d = cc in rw (← q) g;
    stopped = λ h e. let z : ◌≡◌ {A = ℕ} 0 1 = cc in absurd (omega arith);
  }

  -- a fault of a part, passed up
  pub ran_fault : (f : Fault) → o ≡ refused (code_of f.cause) f.place → Ran msg o p n u l b l' b' (Err f)
  ran_fault f e = ran_refused e refl

  pub ran_by : {q : Outcome Message Val} {r : Result Cursor Fault} → q ≡ o → Ran msg o p n u l b l' b' r → Ran msg q p n u l b l' b' r
  ran_by e w = rw e w

-- the place of a value is where its octets begin
pub offset_is : (msg : List ℕ) (at : ℕ) → at ≤ length msg → offset (length msg) (drop at msg) ≡ at
unfolding offset
offset_is msg at h = rw (length-drop) (omega arith)

-- a value without components, read at its place
pub leaf_is : (l : Leaf) (msg : List ℕ) (at count : ℕ) → at ≤ length msg
    → leaf_at l msg at count ≡ in_message (read_leaf l at (drop at msg)) count
unfolding inside_at read_inside
leaf_is l msg at count h = rw (offset_is msg at h)

-- a value with no values in it: read as far as q, its node stored, its octets copied
pub ran_leaf : (msg : List ℕ) {o : Outcome Message Val} (p q n u : ℕ) {w : ℕ} (l b : List ℕ) {l' b' : List ℕ} {r : Result Cursor Fault}
    (k x : ℕ) (os : List ℕ) → o ≡ got (node k x os no_values) (message (drop q msg) (suc n)) → q ≤ length msg
    → w ≡ u + length os → p + length os ≤ q → l' ≡ sets l (n * node_width) (k ∷ x ∷ []) → b' ≡ sets b u os
    → r ≡ Ok (cursor q (n + 1) w x) → Ran msg o p n u l b l' b' r
unfolding number_of nodes contents size
ran_leaf msg p q n u l b k x os e h f g s c =
    ran_gone (record {
      what = node k x os no_values;
      reads = e ∙ ap (λ m. got (node k x os no_values) (message (drop q msg) m)) (sym (add-one n));
      number = refl;
      inside = h;
      count = omega arith;
      used = simp append-nil f;
      ahead = simp append-nil g;
      stored = s;
      copied = simp append-nil c;
    })
