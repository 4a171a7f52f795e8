-- Values against what stands for a component that is not carried: a value of a type is never ABSENT, and it equals a
-- DEFAULT of its type exactly if its number is the default's (a DEFAULT is only for kinds 1, 2, 3 and 11).
-- Assumes nothing.
use mathlib.Core.Path.{◌≡◌, refl, sym, ap, ◌∙◌}
use mathlib.Core.Bool.{Bool, true, false, false≢true, ◌&&◌}
use mathlib.Core.List.{List, []}
use Prim.Native.Nat.{ℕ, zero, suc}
use native.Mathlib.Omega.{arith}
use lib.Dec.{eqb}
use borrow.Author.Tests.{eqb-true, ne_eqb}
use Rattle.x696.specs.Outcome.{choose}
use Rattle.x696.proofs.OutcomeLaws.{choose_inv}
use Rattle.x696.specs.Real.{binary32, binary64}
use Rattle.x696.specs.Value.{Val, node, Vals, no_values, value, absent, value_count, same_octets, same, sames}
use Rattle.x696.specs.Leaf.{Leaf, boolean, null, integer, enumerated, real, octet_string, bit_string, visible_string}
use Rattle.x696.specs.Leaf.{leaf_kind, real_kind, boolean_fits, integer_fits, enumerated_fits}
use Rattle.x696.specs.Types.{Ty, leaf, sequence, sequence_of, choice, kind_of, missing}
use Rattle.x696.specs.Fits.{Fits, leaf_fits, sequence_fits, sequence_of_fits, choice_fits}
use Rattle.x696.specs.Table.{row_kind, type_by, type_of}
use Rattle.x696.specs.TableCheck.{default_sound}
use Rattle.x696.proofs.TableLaws.{type_of_row}
use Rattle.kinds.specs.Run.{number_of}

-- ---- never ABSENT
leaf_kind_lem : (l : Leaf) → eqb (leaf_kind l) 0 ≡ false
unfolding leaf_kind real_kind
leaf_kind_lem boolean = refl
leaf_kind_lem null = refl
leaf_kind_lem (integer f a b) = refl
leaf_kind_lem (enumerated ns) = refl
leaf_kind_lem (real binary32) = refl
leaf_kind_lem (real binary64) = refl
leaf_kind_lem (octet_string f a b) = refl
leaf_kind_lem (bit_string f a b) = refl
leaf_kind_lem (visible_string f a b) = refl

pub never_absent : {t : Ty} {v : Val} → Fits t v → same v absent ≡ false
unfolding same
never_absent (leaf_fits {l = l} e f) = rw (e, leaf_kind_lem l)
never_absent (sequence_fits e f) = refl
never_absent (sequence_of_fits e h f) = refl
never_absent (choice_fits e f) = refl

-- ---- equal to a DEFAULT
and_true : (b : Bool) → b && true ≡ b
and_true true = refl
and_true false = refl

module _ (d : ℕ) where
  boolean_same : {v : Val} → Fits (leaf boolean) v → same v (node 1 d [] no_values) ≡ eqb (number_of v) d
  unfolding same number_of same_octets leaf_kind
  boolean_same (leaf_fits e (boolean_fits h)) = rw e (and_true _)

  integer_same : {f a b : ℕ} {v : Val} → Fits (leaf (integer f a b)) v
      → same v (node 2 d [] no_values) ≡ eqb (number_of v) d
  unfolding same number_of same_octets leaf_kind
  integer_same (leaf_fits e (integer_fits h g)) = rw e (and_true _)

  enumerated_same : {ns : List ℕ} {v : Val} → Fits (leaf (enumerated ns)) v
      → same v (node 3 d [] no_values) ≡ eqb (number_of v) d
  unfolding same number_of same_octets leaf_kind
  enumerated_same (leaf_fits e (enumerated_fits h g)) = rw e (and_true _)

none_same : (n : ℕ) (vs : Vals) → n ≡ value_count vs → eqb n 0 && (true && sames vs no_values) ≡ eqb n 0
unfolding value_count same
none_same n no_values e = and_true _
none_same n (value v vs) e = rw (ne_eqb n 0 (λ z. omega arith))

empty_same : {t : Ty} {v : Val} → Fits (sequence_of t) v → same v (node 11 0 [] no_values) ≡ eqb (number_of v) 0
unfolding same number_of same_octets
empty_same (sequence_of_fits {n = n} {vs = vs} e h f) = none_same n vs e

pub default_same : (t : Ty) (d : ℕ) (v : Val) → default_sound t d ≡ true → Fits t v
    → same v (node (kind_of t) d [] no_values) ≡ eqb (number_of v) d
unfolding default_sound kind_of leaf_kind
default_same (leaf boolean) d v e f = boolean_same d f
default_same (leaf null) d v e f = absurd (false≢true e)
default_same (leaf (integer g a b)) d v e f = integer_same d f
default_same (leaf (enumerated ns)) d v e f = enumerated_same d f
default_same (leaf (real w)) d v e f = absurd (false≢true e)
default_same (leaf (octet_string g a b)) d v e f = absurd (false≢true e)
default_same (leaf (bit_string g a b)) d v e f = absurd (false≢true e)
default_same (leaf (visible_string g a b)) d v e f = absurd (false≢true e)
default_same (sequence is) d v e f = absurd (false≢true e)
default_same (sequence_of t) d v e f = let z : d ≡ 0 = eqb-true d 0 e in rw z (empty_same f)
default_same (choice is) d v e f = absurd (false≢true e)

pub missing_default : (m d : ℕ) (t : Ty) → (m ≡ 0 → ⊥) → (m ≡ 1 → ⊥) → missing m d t ≡ node (kind_of t) d [] no_values
unfolding missing
missing_default zero d t h g = absurd (h refl)
missing_default (suc zero) d t h g = absurd (g refl)
missing_default (suc (suc m)) d t h g = refl

-- ---- the kind of a row's type, where it has a DEFAULT
module _ (rows : List ℕ) (r d : ℕ) where
  abbrev OfKind : Ty → Type 0
  OfKind t = default_sound t d ≡ true → kind_of t ≡ row_kind rows r

  either : (k : ℕ) (x y : Unit {0} → Ty) → kind_of (x tt) ≡ k → OfKind (y tt)
      → OfKind (choose (eqb (row_kind rows r) k) x y)
  either k x y e f s =
      choose_inv (eqb (row_kind rows r) k) x y refl
      (λ t u. ap kind_of (sym u) ∙ e ∙ sym (eqb-true _ k t))
      (λ t u. ap kind_of (sym u) ∙ f (ap (λ z. default_sound z d) u ∙ s))

  no_default : OfKind (leaf null)
  unfolding default_sound
  no_default s = absurd (false≢true s)

pub default_kind : (rows items : List ℕ) (r d : ℕ) → default_sound (type_of rows items r) d ≡ true
    → kind_of (type_of rows items r) ≡ row_kind rows r
unfolding type_by kind_of leaf_kind real_kind
default_kind rows items r d =
    rw (type_of_row rows items r)
    (either rows r d 1 _ _ refl (either rows r d 2 _ _ refl (either rows r d 3 _ _ refl (either rows r d 4 _ _ refl
    (either rows r d 5 _ _ refl (either rows r d 7 _ _ refl (either rows r d 8 _ _ refl (either rows r d 9 _ _ refl
    (either rows r d 10 _ _ refl (either rows r d 11 _ _ refl (either rows r d 12 _ _ refl
    (no_default rows r d))))))))))))
