-- INTEGER: the form that the bounds give holds every word that they allow; what is written is read back, and what is
-- read was written so.
-- Assumes nothing.
use Rattle.std.specs.Prelude.{◌≡◌, true, not, ◌&&◌, ◌||◌, List, ◌++◌, ℕ, zero, suc, ◌+◌, ◌*◌, ◌^◌, ◌%◌, ◌-◌, ◌<◌, ◌≤◌, length, ltb, leb}
use Rattle.std.proofs.Common.{sym, ◌∙◌, mod-eq_of_lt, arith, ltb-true, leb-true}
use Rattle.x696.specs.Outcome.{got, next}
use Rattle.x696.proofs.OutcomeLaws.{next_inv, cases, cases_lt, and_both}
use Rattle.x696.specs.Digits.{digits, from_digits, Below}
use Rattle.x696.proofs.DigitsLaws.{digits_length, from_digits_lt, digits_from_digits, from_digits_digits}
use Rattle.x696.proofs.DigitsLaws.{from_digits_digits_mod, digits_low, below_split}
use Rattle.x696.specs.Fewest.{magnitude, word_in, signed_word}
use Rattle.x696.proofs.SignedLaws.{octets_le, word_back, word_in_lem}
use Rattle.x696.proofs.LengthLaws.{run_complete, run_sound}
use Rattle.x696.proofs.VariableLaws.{unsigned_complete, unsigned_sound, signed_complete, signed_sound}
use Rattle.x696.specs.Integer.{has_lower, has_upper, rank, is_unsigned, allowed, unsigned_width, within, signed_width}
use Rattle.x696.specs.Integer.{Form, fixed_unsigned, fixed_signed, any_unsigned, any_signed, integer_form, form_octets}
use Rattle.x696.specs.Integer.{read_form}

-- the words that a form holds
abbrev pub Holds : Form → (word : ℕ) → Type 0
Holds (fixed_unsigned k) w = w < 2 ^ (8 * k)
Holds (fixed_signed k) w = 2 * magnitude w < 2 ^ (8 * k)
Holds any_unsigned w = Unit {0}
Holds any_signed w = Unit {0}

unsigned_width_holds : (w b : ℕ) → w ≤ b → w < 2 ^ 64 → w < 2 ^ (8 * unsigned_width b)
unfolding unsigned_width
unsigned_width_holds w b h g =
    cases_lt b (2 ^ 8)
    (λ e l. rw e (omega arith))
    (λ e _.
    cases_lt b (2 ^ 16)
    (λ f l. rw (e, f) (omega arith))
    (λ f _. cases_lt b (2 ^ 32) (λ k l. rw (e, f, k) (omega arith)) (λ k _. rw (e, f, k) g)))

-- a word between two bounds that lie in -h .. h - 1
within_holds : (h a b w : ℕ) → h ≤ 2 ^ 63 → w < 2 ^ 64 → rank a ≤ rank w → rank w ≤ rank b → within h a b ≡ true
    → magnitude w < h
unfolding within magnitude rank
within_holds h a b w l g x y e =
    let (e₁, e₂) = and_both (leb (2 ^ 63 - h) ((a + 2 ^ 63) % 2 ^ 64)) _ e in
    let lo = leb-true (2 ^ 63 - h) ((a + 2 ^ 63) % 2 ^ 64) e₁ in
    let hi = ltb-true ((b + 2 ^ 63) % 2 ^ 64) (2 ^ 63 + h) e₂ in
    cases_lt w (2 ^ 63) (λ f k. rw f (omega arith)) (λ f k. rw f (omega arith))

magnitude_fits : (w : ℕ) → w < 2 ^ 64 → 2 * magnitude w < 2 ^ 64
unfolding magnitude
magnitude_fits w h = cases_lt w (2 ^ 63) (λ e l. rw e (omega arith)) (λ e l. rw e (omega arith))

signed_width_holds : (a b w : ℕ) → w < 2 ^ 64 → rank a ≤ rank w → rank w ≤ rank b
    → 2 * magnitude w < 2 ^ (8 * signed_width a b)
unfolding signed_width
signed_width_holds a b w g x y =
    cases (within (2 ^ 7) a b)
    (λ e. rw e (omega (arith, within_holds (2 ^ 7) a b w (omega arith) g x y e)))
    (λ e.
    cases (within (2 ^ 15) a b)
    (λ f. rw (e, f) (omega (arith, within_holds (2 ^ 15) a b w (omega arith) g x y f)))
    (λ f.
    cases (within (2 ^ 31) a b)
    (λ k. rw (e, f, k) (omega (arith, within_holds (2 ^ 31) a b w (omega arith) g x y k)))
    (λ k. rw (e, f, k) (magnitude_fits w g))))

-- widths are 1 to 8
signed_width_range : (a b : ℕ) → (1 ≤ signed_width a b) × (signed_width a b ≤ 8)
unfolding signed_width
signed_width_range a b =
    cases (within (2 ^ 7) a b)
    (λ e. rw e (omega arith))
    (λ e.
    cases (within (2 ^ 15) a b)
    (λ f. rw (e, f) (omega arith))
    (λ f. cases (within (2 ^ 31) a b) (λ k. rw (e, f, k) (omega arith)) (λ k. rw (e, f, k) (omega arith))))

unsigned_width_range : (b : ℕ) → (1 ≤ unsigned_width b) × (unsigned_width b ≤ 8)
unfolding unsigned_width
unsigned_width_range b =
    cases (ltb b (2 ^ 8))
    (λ e. rw e (omega arith))
    (λ e.
    cases (ltb b (2 ^ 16))
    (λ f. rw (e, f) (omega arith))
    (λ f. cases (ltb b (2 ^ 32)) (λ k. rw (e, f, k) (omega arith)) (λ k. rw (e, f, k) (omega arith))))

-- every word that the bounds allow is held by the form that they give
pub allowed_holds : (f a b w : ℕ) → w < 2 ^ 64 → allowed f a b w ≡ true → Holds (integer_form f a b) w
unfolding allowed integer_form
allowed_holds f a b w h q =
    cases (is_unsigned f a)
    (λ u.
    let q' : leb a w && (not (has_upper f) || leb w b) ≡ true = rw u at q in
    cases (has_upper f)
    (λ v.
    let m : leb w b ≡ true = rw v at (and_both (leb a w) _ q').1 in
    rw (u, v) (unsigned_width_holds w b (leb-true w b m) h))
    (λ v. rw (u, v) tt))
    (λ u.
    let q' : (not (has_lower f) || leb (rank a) (rank w)) && (not (has_upper f) || leb (rank w) (rank b)) ≡ true =
    rw u at q in
    cases (has_lower f)
    (λ v.
    cases (has_upper f)
    (λ v'.
    let m = rw (v, v') at q' in
    let (m₁, m₂) = and_both (leb (rank a) (rank w)) (leb (rank w) (rank b)) m in
    rw (u, v, v') (signed_width_holds a b w h (leb-true _ _ m₁) (leb-true _ _ m₂)))
    (λ v'. rw (u, v, v') tt))
    (λ v. rw (u, v) tt))

-- fixed forms have 1 to 8 octets
abbrev pub Sane : Form → Type 0
Sane (fixed_unsigned k) = (1 ≤ k) × (k ≤ 8)
Sane (fixed_signed k) = (1 ≤ k) × (k ≤ 8)
Sane any_unsigned = Unit {0}
Sane any_signed = Unit {0}

pub integer_form_sane : (f a b : ℕ) → Sane (integer_form f a b)
unfolding integer_form
integer_form_sane f a b =
    cases (is_unsigned f a)
    (λ u. cases (has_upper f) (λ v. rw (u, v) (unsigned_width_range b)) (λ v. rw (u, v) tt))
    (λ u. cases (has_lower f && has_upper f) (λ v. rw (u, v) (signed_width_range a b)) (λ v. rw (u, v) tt))

pub form_complete : (z : Form) (w p : ℕ) (r : List ℕ) → Sane z → w < 2 ^ 64 → Holds z w
    → read_form z p (form_octets z w ++ r) ≡ got w r
unfolding read_form form_octets next signed_word
form_complete (fixed_unsigned k) w p r s l h =
    rw (run_complete p (digits 8 k w) r k (sym (digits_length 8 k w)), from_digits_digits 8 k w h)
form_complete (fixed_signed zero) w p r s l h = absurd (omega (arith, s.0))
form_complete (fixed_signed (suc k)) w p r s l h =
    rw (
      run_complete p (digits 8 (suc k) w) r (suc k) (sym (digits_length 8 (suc k) w)),
      digits_length 8 (suc k) w,
      from_digits_digits_mod 8 (suc k) w,
      (word_back k w s.1 l h).0,
    )
form_complete any_unsigned w p r s l h = unsigned_complete p w r l
form_complete any_signed w p r s l h = signed_complete p w r l

signed_run : (os : List ℕ) (k : ℕ) → Below 8 os → length os ≡ k → 1 ≤ k → k ≤ 8
    → (digits 8 k (signed_word os) ≡ os) × (signed_word os < 2 ^ 64)
unfolding signed_word
signed_run os zero b l s s' = absurd (omega arith)
signed_run os (suc k) b l s s' =
    let lt : from_digits 8 os < 2 ^ (8 * suc k) = rw l at (from_digits_lt 8 os b) in
    let m = word_in_lem k (from_digits 8 os) s' lt in
    let q : digits 8 (suc k) (word_in (suc k) (from_digits 8 os)) ≡ digits 8 (suc k) (from_digits 8 os) =
    digits_low 8 (suc k) _ _ (m.2 ∙ sym (mod-eq_of_lt lt)) in
    let d : digits 8 (suc k) (from_digits 8 os) ≡ os = rw (← l) (digits_from_digits 8 os b) in
    rw l (q ∙ d, m.0)

pub form_sound : (z : Form) (p : ℕ) (s : List ℕ) {w : ℕ} {r : List ℕ} → Sane z → Below 8 s → read_form z p s ≡ got w r
    → (s ≡ form_octets z w ++ r) × (w < 2 ^ 64)
unfolding read_form form_octets
form_sound (fixed_unsigned k) p s {w} h b e =
    next_inv _ _ e λ os r₁ was then.
    let a = run_sound p k s was in
    let bo = (below_split 8 os r₁ b a.0).0 in
    let m : from_digits 8 os ≡ w = cc in
    let d : digits 8 k (from_digits 8 os) ≡ os = rw (← a.1) (digits_from_digits 8 os bo) in
    let lt : from_digits 8 os < 2 ^ (8 * k) = rw a.1 at (from_digits_lt 8 os bo) in
    rw (← m, d) (cc a.0, omega (arith, octets_le k h.1))
form_sound (fixed_signed k) p s {w} h b e =
    next_inv _ _ e λ os r₁ was then.
    let a = run_sound p k s was in
    let g = signed_run os k (below_split 8 os r₁ b a.0).0 a.1 h.0 h.1 in
    let m : signed_word os ≡ w = cc in
    rw (← m, g.0) (cc a.0, g.1)
form_sound any_unsigned p s h b e = unsigned_sound p s b e
form_sound any_signed p s h b e = signed_sound p s b e
