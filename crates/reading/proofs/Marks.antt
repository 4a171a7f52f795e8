-- Presence bits of components counted from the last one on, a component compared with its DEFAULT, and a node counted
-- or one too many. Premises are the callees' `ensures`. Assumes nothing.
use mathlib.Core.Path.{◌≡◌, refl, ap}
use mathlib.Core.List.{List, [], ◌∷◌}
use Prim.Native.Nat.{ℕ, zero, suc, ◌+◌, ◌*◌, ◌-◌, ◌<◌, ◌≤◌}
use native.Mathlib.Omega.{arith}
use native.Mathlib.Nat.{add-zero}
use lib.ListN.{length, drop}
use lib.Seq.{sets}
use borrow.Author.Tests.{lt-ltb, le-ltb, eq-eqb, ne_eqb}
use Rattle.x696.specs.Outcome.{Outcome, refused, got, must}
use Rattle.x696.specs.Value.{Val, node, no_values, node_width}
use Rattle.x696.specs.Types.{Ty, presence_count, mark_count}
use Rattle.x696.specs.Read.{Message, message, counted}
use Rattle.x696.specs.Operations.{node_limit}
use Rattle.x696.specs.Table.{component_mark, components_from, items_from}
use Rattle.octets.specs.Answers.{fault}
use Rattle.kinds.specs.Run.{cursor, Ran}
use Rattle.reading.specs.Parts.{checked}
use Rattle.kinds.specs.declared.cursor.Cursor.{Cursor}
use Rattle.kinds.proofs.Ran.{offset_is, ran_refused, ran_leaf}
use Rattle.std.proofs.Common.{Result, Ok, Err}
use Rattle.octets.specs.declared.faults.Cause.TheVariants.{NotCanonical, Nodes}
use Rattle.octets.specs.declared.faults.Fault.{Fault}

-- ---- presence bits
pub mark_none : (m : ℕ) → m ≡ 0 → 0 ≡ presence_count m
unfolding presence_count
mark_none m e = rw e

pub mark_one : (m : ℕ) → (m ≡ 0 → ⊥) → 1 ≡ presence_count m
unfolding presence_count
mark_one zero h = absurd (h refl)
mark_one (suc m) h = refl

module _ (items : List ℕ) (first n : ℕ) where
  -- the presence bits of the components from i on are counted
  pub record CountedFrom (i sum : ℕ) : Type 0 where
    pub inside : i ≤ n
    pub most : sum ≤ n - i
    pub bits : (f : ℕ → Ty) → sum ≡ mark_count (components_from f items (first + i) (n - i))

  pub counted_none : CountedFrom n 0
  unfolding mark_count items_from
  counted_none = record {
    inside = omega arith;
    most = omega arith;
    bits = λ f. let e : n - n ≡ 0 = omega arith in rw e;
  }

  pub counted_one : {i j sum x : ℕ} → CountedFrom i sum → j + 1 ≡ i
      → x ≡ presence_count (component_mark items (first + j)) → x ≤ 1 → CountedFrom j (sum + x)
  unfolding mark_count items_from
  counted_one {i} {j} {sum} {x} k e isX h = record {
    inside = omega (arith, k.inside);
    most = omega (arith, k.inside, k.most);
    bits = λ f.
        let b = k.bits f in
        let q : n - j ≡ suc (n - i) = omega (arith, k.inside) in
        let s : suc (first + j) ≡ first + i = omega arith in
        rw (q, s, ← isX, ← b) (omega arith);
  }

  pub counted_all : {i sum : ℕ} → CountedFrom i sum → i ≤ 0
      → ((f : ℕ → Ty) → sum ≡ mark_count (components_from f items first n)) × (sum ≤ n)
  counted_all {i} {sum} k h =
      let z : i ≡ 0 = omega arith in
      let w : n - i ≡ n = omega arith in
      ((λ f. rw (w, z, add-zero) at (k.bits f)), omega (arith, k.most))

-- ---- a component and its DEFAULT
module _ (m d p : ℕ) (c : Cursor) where
  pub checked_optional : m ≡ 1 → Ok c ≡ checked m d p c
  unfolding checked
  checked_optional e = rw (eq-eqb m 1 e)

  pub checked_equal : {stop : Fault} → (m ≡ 1 → ⊥) → c.number ≡ d → stop ≡ fault NotCanonical p → Err stop ≡ checked m d p c
  unfolding checked
  checked_equal h e f = rw (ne_eqb m 1 h, eq-eqb c.number d e) (ap Err f)

  pub checked_other : (m ≡ 1 → ⊥) → (c.number ≡ d → ⊥) → Ok c ≡ checked m d p c
  unfolding checked
  checked_other h g = rw (ne_eqb m 1 h, ne_eqb c.number d g)

-- ---- one node more
module _ (msg : List ℕ) (at count : ℕ) (k : Message → Outcome Message Val) where
  pub counted_over : 4096 ≤ count → at ≤ length msg
      → counted node_limit (length msg) (message (drop at msg) count) k ≡ refused 10 at
  unfolding counted must
  counted_over h g = rw (le-ltb count 4096 h, offset_is msg at g)

  pub counted_room : count < 4096
      → counted node_limit (length msg) (message (drop at msg) count) k ≡ k (message (drop at msg) (suc count))
  unfolding counted must
  counted_room h = rw (lt-ltb count 4096 h)

-- a node too many, whatever its value
pub ran_over : (msg : List ℕ) (at count : ℕ) (k : Message → Outcome Message Val) {used : ℕ}
    {l b l' b' : List ℕ} {stop : Fault} → 4096 ≤ count → at ≤ length msg → stop ≡ fault Nodes at
    → Ran msg (counted node_limit (length msg) (message (drop at msg) count) k) at count used l b l' b' (Err stop)
ran_over msg at count k h g f = ran_refused (counted_over msg at count k h g) f

-- a component that is not carried
pub ran_missing : (msg : List ℕ) (at count kind number : ℕ) {used : ℕ} {l b l' : List ℕ} {r : Result Cursor Fault}
    → count < 4096 → at ≤ length msg → l' ≡ sets l (count * node_width) (kind ∷ number ∷ [])
    → r ≡ Ok (cursor at (count + 1) used number)
    → Ran msg (counted node_limit (length msg) (message (drop at msg) count) λ s. got (node kind number [] no_values) s)
    at count used l b l' b r
ran_missing msg at count kind number {used} {l} {b} h g s f =
    ran_leaf msg at at count used l b kind number [] (counted_room msg at count _ h) g (omega arith) (omega arith) s
    refl f
