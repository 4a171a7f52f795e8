-- The kinds without components: what is written is read back, and what is read was written so.
-- Assumes nothing.
use Rattle.std.specs.Prelude.{◌≡◌, refl, true, ◌||◌, List, [], ◌++◌, ℕ, zero, suc, ◌*◌, ◌/◌, ◌<◌, length, eqb}
use Rattle.std.proofs.Common.{sym, ⊎_elim, arith, eqb-true}
use Rattle.x696.specs.Outcome.{got, next, must}
use Rattle.x696.proofs.OutcomeLaws.{next_inv, must_inv, or_either}
use Rattle.x696.specs.Digits.{digits, from_digits, Below}
use Rattle.x696.proofs.DigitsLaws.{digits_length, from_digits_lt, digits_from_digits, from_digits_digits, below_split}
use Rattle.x696.specs.Length.{octet}
use Rattle.x696.proofs.LengthLaws.{octet_sound, run_complete, run_sound}
use Rattle.x696.specs.Integer.{integer_form}
use Rattle.x696.proofs.IntegerLaws.{allowed_holds, integer_form_sane, form_complete, form_sound}
use Rattle.x696.proofs.EnumeratedLaws.{enumerated_complete, enumerated_sound_lem}
use Rattle.x696.specs.Real.{real_octets}
use Rattle.x696.specs.String.{any_octets, visible}
use Rattle.x696.proofs.StringLaws.{text_complete, text_sound, bit_string_complete, bit_string_sound}
use Rattle.x696.specs.Value.{Val, node, no_values}
use Rattle.x696.specs.Leaf.{Leaf, boolean, null, integer, enumerated, real, octet_string, bit_string, visible_string}
use Rattle.x696.specs.Leaf.{leaf_kind, LeafFits, boolean_fits, null_fits, integer_fits, enumerated_fits, real_fits}
use Rattle.x696.specs.Leaf.{octets_fit, visible_fits, bits_fit, encode_leaf, read_leaf}

pub leaf_complete : {l : Leaf} {n : ℕ} {os : List ℕ} → LeafFits l n os → (p : ℕ) (r : List ℕ)
    → read_leaf l p (encode_leaf l n os ++ r) ≡ got (node (leaf_kind l) n os no_values) r
unfolding read_leaf encode_leaf leaf_kind next must octet any_octets
leaf_complete (boolean_fits {n = zero} h) p r = refl
leaf_complete (boolean_fits {n = suc zero} h) p r = refl
leaf_complete (boolean_fits {n = suc (suc n)} h) p r = absurd (omega arith)
leaf_complete null_fits p r = refl
leaf_complete (integer_fits {f = f} {a = a} {b = b} {n = n} l h) p r =
    rw (form_complete (integer_form f a b) n p r (integer_form_sane f a b) l (allowed_holds f a b n l h), h)
leaf_complete (enumerated_fits {n = n} l h) p r = rw (enumerated_complete n p r l, h)
leaf_complete (real_fits {w = w} {n = n} l h) p r =
    rw (
      run_complete p (digits 8 (real_octets w) n) r (real_octets w) (sym (digits_length 8 (real_octets w) n)),
      from_digits_digits 8 (real_octets w) n l,
      h,
    )
leaf_complete (octets_fit {f = f} {a = a} {b = b} {os = os} o l h) p r =
    rw (← l) (text_complete any_octets 7 f a b os p r (rw l h) refl)
leaf_complete (visible_fits {f = f} {a = a} {b = b} {os = os} o l h v) p r =
    rw (← l) (text_complete visible 9 f a b os p r (rw l h) v)
leaf_complete (bits_fit {f = f} {a = a} {b = b} {n = n} {os = os} o l z h) p r = bit_string_complete f a b n os p r l z h

-- 00 and FF
truth_octet : (x : ℕ) → eqb x 0 || eqb x 255 ≡ true → (x / 255 < 2) × (255 * (x / 255) ≡ x)
truth_octet x e =
    ⊎_elim
    (λ e. rw (eqb-true x 0 e) (omega arith, refl))
    (λ e. rw (eqb-true x 255 e) (omega arith, refl))
    (or_either (eqb x 0) (eqb x 255) e)

pub leaf_sound : (l : Leaf) (p : ℕ) (s : List ℕ) {v : Val} {r : List ℕ} {X : Type 0} → Below 8 s
    → read_leaf l p s ≡ got v r
    → ((n : ℕ) (os : List ℕ) → LeafFits l n os → v ≡ node (leaf_kind l) n os no_values → s ≡ encode_leaf l n os ++ r
    → X) → X
unfolding read_leaf encode_leaf leaf_kind
leaf_sound boolean p s b e k =
    next_inv _ _ e λ x r₁ was then.
    must_inv _ _ _ _ then λ t q.
    let a = octet_sound p s was in
    let h = truth_octet x t in
    k (x / 255) [] (boolean_fits h.0) (cc) (rw h.1 (cc a))
leaf_sound null p s b e k = k 0 [] null_fits (cc) (cc)
leaf_sound (integer f a d) p s b e k =
    next_inv _ _ e λ w r₁ was then.
    must_inv _ _ _ _ then λ t q.
    let m = form_sound (integer_form f a d) p s (integer_form_sane f a d) b was in
    k w [] (integer_fits m.1 t) (cc) (cc m.0)
leaf_sound (enumerated ns) p s b e k =
    next_inv _ _ e λ w r₁ was then.
    must_inv _ _ _ _ then λ t q.
    let m = enumerated_sound_lem p s b was in
    k w [] (enumerated_fits m.1 t) (cc) (cc m.0)
leaf_sound (real w) p s b e k =
    next_inv _ _ e λ os r₁ was then.
    must_inv _ _ _ _ then λ t q.
    let m = run_sound p (real_octets w) s was in
    let bo = (below_split 8 os r₁ b m.0).0 in
    let d : digits 8 (real_octets w) (from_digits 8 os) ≡ os = rw (← m.1) (digits_from_digits 8 os bo) in
    k (from_digits 8 os) [] (real_fits (rw m.1 at (from_digits_lt 8 os bo)) t) (cc) (rw d (cc m.0))
leaf_sound (octet_string f a d) p s b e k =
    text_sound any_octets 7 f a d p s b e λ os o h g v from. k (length os) os (octets_fit o refl h) v from
leaf_sound (visible_string f a d) p s b e k =
    text_sound visible 9 f a d p s b e λ os o h g v from. k (length os) os (visible_fits o refl h g) v from
leaf_sound (bit_string f a d) p s b e k =
    bit_string_sound f a d p s b e λ n os o l z h v from. k n os (bits_fit o l z h) v from
