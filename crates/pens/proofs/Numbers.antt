-- Numbers, kinds 1 to 6: what their node is checked for, and the answers of their writers, one law for each way out.
-- Premises are the callees' `ensures` and the tests as they went. Assumes nothing.
use mathlib.Core.Path.{◌≡◌, refl, ◌∙◌}
use mathlib.Core.Bool.{Bool, true, false}
use mathlib.Core.List.{List, [], ◌∷◌}
use Prim.Native.Nat.{ℕ, ◌+◌, ◌-◌, ◌*◌, ◌^◌, ◌<◌, ◌≤◌}
use native.Mathlib.Omega.{arith}
use lib.ListN.{length, set}
use lib.Seq.{sets}
use lib.Dec.{ltb, eqb}
use borrow.Author.Tests.{lt-ltb, le-ltb}
use Rattle.x696.specs.Outcome.{refused, got, must}
use Rattle.x696.specs.Digits.{digits}
use Rattle.x696.proofs.DigitsLaws.{digits_length}
use Rattle.x696.specs.Integer.{allowed, integer_form, form_octets}
use Rattle.x696.specs.Enumerated.{listed, enumerated_octets}
use Rattle.x696.specs.Real.{Precision, binary32, binary64, real_octets, real_allowed}
use Rattle.x696.specs.Value.{node, no_values}
use Rattle.x696.specs.Leaf.{Leaf, boolean, null, integer, enumerated, real, leaf_kind, encode_leaf}
use Rattle.x696.specs.Walk.{Listed, walk_leaf}
use Rattle.kinds.specs.Format.{Format}
use Rattle.pens.specs.Flat.{Stored, Numbered}
use Rattle.std.proofs.Common.{Ok, Err}
use Rattle.octets.specs.declared.faults.Cause.{Cause}
use Rattle.octets.specs.declared.faults.Cause.TheVariants.{BadList, NotAllowed}
use Rattle.octets.specs.Cause.{code_of}

-- the number n of the kind k: whether its form is right (11) and whether it is allowed (7), and its octets
pub record Checked (k : Leaf) (n : ℕ) (form good : Bool) (os : List ℕ) : Type 0 where
  pub is : (q : ℕ) (s : Listed)
      → walk_leaf k q n s ≡ must form 11 q (must good 7 q (got (node (leaf_kind k) n [] no_values) s))
  pub octets : encode_leaf k n [] ≡ os

-- ---- the kinds
module _ (n : ℕ) where
  pub boolean_checked : Checked boolean n (ltb n 2) true ((255 * n) ∷ [])
  unfolding walk_leaf leaf_kind encode_leaf must
  boolean_checked = record { is = λ q s. refl; octets = refl }

  pub null_checked : Checked null n (eqb n 0) true []
  unfolding walk_leaf leaf_kind encode_leaf must
  null_checked = record { is = λ q s. refl; octets = refl }

  pub integer_checked : (f a b : ℕ)
      → Checked (integer f a b) n true (allowed f a b n) (form_octets (integer_form f a b) n)
  unfolding walk_leaf leaf_kind encode_leaf must
  integer_checked f a b = record { is = λ q s. refl; octets = refl }

  pub listed_checked : (ns : List ℕ) → Checked (enumerated ns) n true (listed n ns) (enumerated_octets n)
  unfolding walk_leaf leaf_kind encode_leaf must
  listed_checked ns = record { is = λ q s. refl; octets = refl }

  pub real_checked : (w : Precision)
      → Checked (real w) n (ltb n (2 ^ (8 * real_octets w))) (real_allowed w n) (digits 8 (real_octets w) n)
  unfolding walk_leaf leaf_kind encode_leaf
  real_checked w = record { is = λ q s. refl; octets = refl }

-- the form of a REAL by the weight s of its sign
twice : (w : Precision) (s : ℕ) → s + s ≡ 2 ^ (8 * real_octets w) → (0 < s) × (s + s ≤ 2 ^ 64)
unfolding real_octets
twice binary32 s h = (omega (arith, h), omega (arith, h))
twice binary64 s h = (omega (arith, h), omega (arith, h))

module _ {w : Precision} {m sign infinity nan s : ℕ} (f : Format w m sign infinity nan) (e : s ≡ sign) where
  weight : s + s ≡ 2 ^ (8 * real_octets w)
  weight = rw e f.has_sign

  pub sign_fits : (0 < s) × (s + s ≤ 2 ^ 64)
  sign_fits = twice w s weight

  pub real_formed : {n : ℕ} → n ≤ s - 1 + s → ltb n (2 ^ (8 * real_octets w)) ≡ true
  real_formed {n} h = lt-ltb n _ (rw (← weight) (omega (arith, sign_fits)))

  pub real_unformed : {n : ℕ} → s - 1 + s < n → ltb n (2 ^ (8 * real_octets w)) ≡ false
  real_unformed {n} h = le-ltb n _ (rw (← weight) (omega (arith, sign_fits)))

-- a form by the greatest number that has it
module _ {n m : ℕ} where
  pub formed : n ≤ m → ltb n (m + 1) ≡ true
  formed h = lt-ltb n (m + 1) (omega arith)

  pub unformed : m < n → ltb n (m + 1) ≡ false
  unformed h = le-ltb n (m + 1) (omega arith)

-- ---- the answers
module _ {k : Leaf} {n : ℕ} {form good : Bool} {os : List ℕ} (w : Checked k n form good os) {p : ℕ} {l l' : List ℕ}
  where
    stops : (j : Cause) → ((q : ℕ) (s : Listed) → walk_leaf k q n s ≡ refused (code_of j) q) → Numbered k n p l l' (Err j)
    stops j h = record {
      went = λ to g. let z : ◌≡◌ {A = ℕ} 0 1 = cc in absurd (omega arith);
      stopped = λ x g. let same : j ≡ x = cc in rw (← same) h;
    }

    pub misformed : form ≡ false → Numbered k n p l l' (Err BadList)
    unfolding must
    misformed f = stops BadList (λ q s. w.is q s ∙ rw f)

    module _ (f : form ≡ true) {y : Bool} (ey : y ≡ good) where
      pub unallowed : y ≡ false → Numbered k n p l l' (Err NotAllowed)
      unfolding must
      unallowed g = stops NotAllowed (λ q s. w.is q s ∙ rw (f, ← ey, g))

      pub goes : y ≡ true → {to : ℕ} → Stored l l' p to os → Numbered k n p l l' (Ok to)
      unfolding must
      goes g {to} s = record {
        went = λ x h.
            let same : to ≡ x = cc in
            rw (← same) (record { walks = λ q s. w.is q s ∙ rw (f, ← ey, g); stored = rw w.octets s });
        stopped = λ x h. let z : ◌≡◌ {A = ℕ} 0 1 = cc in absurd (omega arith);
      }

-- ---- octets stored
module _ {l l' : List ℕ} {p : ℕ} where
  pub stored_octet : {x : ℕ} → l' ≡ set l p x → Stored l l' p (p + 1) (x ∷ [])
  stored_octet e = record { stores = e; ends = refl; near = omega arith }

  pub stored_digits : (k n : ℕ) → k ≤ 8 → l' ≡ sets l p (digits 8 k n) → Stored l l' p (p + k) (digits 8 k n)
  stored_digits k n h e = record { stores = e; ends = rw (digits_length 8 k n); near = omega arith }

  -- what the writers of octets ensure
  pub stored_nine : {q : ℕ} {os : List ℕ} → (l' ≡ sets l p os) × (q ≡ p + length os) × (q ≤ p + 9)
      → Stored l l' p q os
  stored_nine s = record { stores = s.0; ends = s.1; near = omega (arith, s.2) }

pub stored_none : {l : List ℕ} {p : ℕ} → Stored l l p p []
stored_none = record { stores = refl; ends = omega arith; near = omega arith }
