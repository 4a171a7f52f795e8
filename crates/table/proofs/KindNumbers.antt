-- The numbers of the kinds: no two have the same, and what is none of some kinds is one of the others.
-- Assumes nothing.
use Rattle.std.proofs.Common.{◌≡◌, refl, sym, ap, ◌∙◌, ℕ, ◌<◌, cond, eqb, arith}
use Rattle.std.specs.Prelude.{◌⊎◌}
use Rattle.std.proofs.Math.Logic.{⊎_elim}
use Rattle.table.specs.Kind.{code_of}
use Rattle.table.specs.declared.kind.Kind.{Kind}
use Rattle.table.specs.declared.kind.Kind.TheVariants.{Boolean, Integer, Enumerated, Single, Double, Null}
use Rattle.table.specs.declared.kind.Kind.TheVariants.{OctetString, BitString, VisibleString, Sequence, SequenceOf, Choice}

-- ---- the kind that has a number
kind_of : ℕ → Kind
kind_of n =
    cond (eqb n 1) Boolean (cond (eqb n 2) Integer (cond (eqb n 3) Enumerated (cond (eqb n 4) Single (cond (eqb n 5) Double
    (cond (eqb n 6) Null (cond (eqb n 7) OctetString (cond (eqb n 8) BitString (cond (eqb n 9) VisibleString
    (cond (eqb n 10) Sequence (cond (eqb n 11) SequenceOf Choice))))))))))

kind_back : (k : Kind) → kind_of (code_of k) ≡ k
unfolding kind_of
kind_back Boolean = refl
kind_back Integer = refl
kind_back Enumerated = refl
kind_back Single = refl
kind_back Double = refl
kind_back Null = refl
kind_back OctetString = refl
kind_back BitString = refl
kind_back VisibleString = refl
kind_back Sequence = refl
kind_back SequenceOf = refl
kind_back Choice = refl

pub kind_once : (a b : Kind) → code_of a ≡ code_of b → a ≡ b
kind_once a b e = sym (kind_back a) ∙ ap kind_of e ∙ kind_back b

-- ---- the number of a row's kind
module _ {k : Kind} {n : ℕ} (is : code_of k ≡ n) where
  pub kind_number : {v : Kind} → k ≡ v → n ≡ code_of v
  kind_number e = sym (rw e at is)

  number : {v : Kind} → code_of v < 7 → k ≡ v → n < 7
  number l e = rw (← is, e) l

  pub is_number : (k ≡ Boolean) ⊎ (k ≡ Integer) ⊎ (k ≡ Enumerated) ⊎ (k ≡ Single) ⊎ (k ≡ Double) ⊎ (k ≡ Null) → n < 7
  is_number =
      ⊎_elim (number (omega arith)) (⊎_elim (number (omega arith)) (⊎_elim (number (omega arith)) (⊎_elim (number (omega arith))
      (⊎_elim (number (omega arith)) (number (omega arith))))))

  string : {v : Kind} → (6 < code_of v) × (code_of v < 10) → k ≡ v → (6 < n) × (n < 10)
  string l e = rw (← is, e) l

  pub is_string : (k ≡ OctetString) ⊎ (k ≡ BitString) ⊎ (k ≡ VisibleString) → (6 < n) × (n < 10)
  is_string =
      ⊎_elim (string (omega arith, omega arith)) (⊎_elim (string (omega arith, omega arith)) (string (omega arith, omega arith)))

-- ---- what is none of some kinds
-- of the groups: it has no components
pub leaf_left : (k : Kind) → (k ≡ Sequence → ⊥) → (k ≡ SequenceOf → ⊥) → (k ≡ Choice → ⊥) → code_of k < 10
leaf_left Sequence s o c = absurd (s refl)
leaf_left SequenceOf s o c = absurd (o refl)
leaf_left Choice s o c = absurd (c refl)
leaf_left _ s o c = omega arith

-- nor of the strings: it is a number
pub number_left : (k : Kind) → code_of k < 10 → (k ≡ OctetString → ⊥) → (k ≡ BitString → ⊥) → (k ≡ VisibleString → ⊥) → code_of k < 7
number_left OctetString h o b v = absurd (o refl)
number_left BitString h o b v = absurd (b refl)
number_left VisibleString h o b v = absurd (v refl)
number_left _ h o b v = omega arith

-- the last number, and the last string
pub null_left : (k : Kind) → code_of k < 7 → (k ≡ Boolean → ⊥) → (k ≡ Integer → ⊥) → (k ≡ Enumerated → ⊥) → (k ≡ Single → ⊥)
    → (k ≡ Double → ⊥) → k ≡ Null
null_left Boolean h b i e s d = absurd (b refl)
null_left Integer h b i e s d = absurd (i refl)
null_left Enumerated h b i e s d = absurd (e refl)
null_left Single h b i e s d = absurd (s refl)
null_left Double h b i e s d = absurd (d refl)
null_left Null h b i e s d = refl
null_left _ h b i e s d = absurd (omega arith)

pub visible_left : (k : Kind) → 6 < code_of k → code_of k < 10 → (k ≡ OctetString → ⊥) → (k ≡ BitString → ⊥) → k ≡ VisibleString
visible_left OctetString l h o b = absurd (o refl)
visible_left BitString l h o b = absurd (b refl)
visible_left VisibleString l h o b = refl
visible_left _ l h o b = absurd (omega arith)
