-- Strings: what is written is read back, and what is read was written so.
-- Assumes nothing.
use Rattle.std.specs.Prelude.{◌≡◌, Bool, true, List, [], ◌∷◌, ◌++◌, ℕ, suc, ◌*◌, ◌-◌, length, leb}
use Rattle.std.proofs.Common.{sym, append_assoc, arith, ltb-true, leb-true, eqb-true, lt-ltb, le-leb}
use Rattle.x696.specs.Outcome.{got, next, must, choose}
use Rattle.x696.proofs.OutcomeLaws.{next_inv, must_inv, choose_inv, cases, and_both}
use Rattle.x696.specs.Digits.{Below}
use Rattle.x696.proofs.DigitsLaws.{below_split}
use Rattle.x696.specs.Length.{run, length_octets, read_run}
use Rattle.x696.proofs.LengthLaws.{run_complete, run_sound, read_run_complete, read_run_sound}
use Rattle.x696.specs.Bits.{bit_octets, unused_bits, low_bits_clear}
use Rattle.x696.specs.Integer.{has_upper}
use Rattle.x696.specs.Value.{Val, node, no_values}
use Rattle.x696.specs.String.{fixed_size, size_allowed, text_octets, read_text, bit_string_octets, read_fixed_bits}
use Rattle.x696.specs.String.{bits_in, read_bit_string}

-- of a fixed size only the least size is allowed
fixed_size_lem : (f a b n : ℕ) → fixed_size f a b ≡ true → size_allowed f a b n ≡ true → n ≡ a
unfolding fixed_size size_allowed
fixed_size_lem f a b n e h =
    let (e₁, e₂) = and_both (has_upper f) _ e in
    let (h₁, h₂) = and_both (leb a n) _ h in
    let k : leb n b ≡ true = rw e₁ at h₂ in
    omega (arith, eqb-true a b e₂, leb-true a n h₁, leb-true n b k)

fixed_allowed : (f a b : ℕ) → fixed_size f a b ≡ true → size_allowed f a b a ≡ true
unfolding fixed_size size_allowed
fixed_allowed f a b e =
    let (e₁, e₂) = and_both (has_upper f) _ e in
    rw (e₁, le-leb a a (omega arith), le-leb a b (omega (arith, eqb-true a b e₂)))

pub text_complete : (g : List ℕ → Bool) (kind f a b : ℕ) (os : List ℕ) (p : ℕ) (r : List ℕ)
    → size_allowed f a b (length os) ≡ true
    → g os ≡ true → read_text g kind f a b p (text_octets f a b os ++ r) ≡ got (node kind (length os) os no_values) r
unfolding read_text text_octets next must choose
text_complete g kind f a b os p r h t =
    cases (fixed_size f a b)
    (λ e. rw (e, run_complete p os r a (sym (fixed_size_lem f a b (length os) e h)), h, t))
    (λ e. rw (e, append_assoc (length_octets (length os)) os r, read_run_complete p os r, h, t))

pub text_sound : (g : List ℕ → Bool) (kind f a b p : ℕ) (s : List ℕ) {v : Val} {r : List ℕ} {X : Type 0} → Below 8 s
    → read_text g kind f a b p s ≡ got v r
    → ((os : List ℕ) → Below 8 os → size_allowed f a b (length os) ≡ true → g os ≡ true
    → v ≡ node kind (length os) os no_values
    → s ≡ text_octets f a b os ++ r → X) → X
unfolding read_text text_octets choose
text_sound g kind f a b p s {v} {r} bs e k =
    next_inv _ _ e λ os r₁ was then.
    must_inv _ _ _ _ then λ h q.
    must_inv _ _ _ _ q λ t q'.
    let qr : r₁ ≡ r = cc in
    choose_inv (fixed_size f a b) (λ _. run p a s) (λ _. read_run p s) was
    (λ u w. let m = run_sound p a s w in k os (below_split 8 os r₁ bs m.0).0 h t (cc) (rw (u, ← qr) m.0))
    (λ u w.
    let m = read_run_sound p s bs w in
    k os m.1 h t (cc) (rw (u, ← qr, append_assoc (length_octets (length os)) os r₁) m.0))

-- the octets that a determinant of a BIT STRING counts
bits_in_complete : (f a b n : ℕ) (os : List ℕ) (p : ℕ) (r : List ℕ) → length os ≡ bit_octets n
    → low_bits_clear (unused_bits n) os ≡ true
    → size_allowed f a b n ≡ true → bits_in f a b p (unused_bits n ∷ os) r ≡ got (node 8 n os no_values) r
unfolding bits_in must
bits_in_complete f a b n os p r l z h =
    let q : 8 * length os - unused_bits n ≡ n = omega arith in
    rw (
      lt-ltb 0 (suc (length os)) (omega arith),
      lt-ltb (unused_bits n) 8 (omega arith),
      le-leb (unused_bits n) (8 * length os) (omega arith),
      z,
      q,
      h,
    )

pub bit_string_complete : (f a b n : ℕ) (os : List ℕ) (p : ℕ) (r : List ℕ) → length os ≡ bit_octets n
    → low_bits_clear (unused_bits n) os ≡ true → size_allowed f a b n ≡ true
    → read_bit_string f a b p (bit_string_octets f a b n os ++ r) ≡ got (node 8 n os no_values) r
unfolding read_bit_string bit_string_octets read_fixed_bits next must choose
bit_string_complete f a b n os p r l z h =
    cases (fixed_size f a b)
    (λ e. rw (e, ← (fixed_size_lem f a b n e h), run_complete p os r (bit_octets n) (sym l), z))
    (λ e.
    rw (
      e,
      append_assoc (length_octets (suc (length os))) (unused_bits n ∷ os) r,
      read_run_complete p (unused_bits n ∷ os) r,
      bits_in_complete f a b n os p r l z h,
    ))

bits_in_sound : (f a b p : ℕ) (ys r : List ℕ) {v : Val} {r' : List ℕ} {X : Type 0} → bits_in f a b p ys r ≡ got v r'
    → ((n : ℕ) (os : List ℕ) → ys ≡ unused_bits n ∷ os → length os ≡ bit_octets n → low_bits_clear (unused_bits n) os ≡ true
    → size_allowed f a b n ≡ true → v ≡ node 8 n os no_values → r ≡ r' → X) → X
unfolding bits_in
bits_in_sound f a b p [] r e k = must_inv _ _ _ _ e λ t q. absurd (omega (arith, ltb-true 0 0 t))
bits_in_sound f a b p (u ∷ os) r e k =
    must_inv _ _ _ _ e λ _ q₀.
    must_inv _ _ _ _ q₀ λ t₁ q₁.
    must_inv _ _ _ _ q₁ λ t₂ q₂.
    must_inv _ _ _ _ q₂ λ t₃ q₃.
    must_inv _ _ _ _ q₃ λ t₄ q₄.
    let h₁ = ltb-true u 8 t₁ in
    let h₂ = leb-true u (8 * length os) t₂ in
    let l : length os ≡ bit_octets (8 * length os - u) = omega arith in
    let unused : unused_bits (8 * length os - u) ≡ u = omega arith in
    k (8 * length os - u) os (rw unused) l (rw unused t₃) t₄ (cc) (cc)

pub bit_string_sound : (f a b p : ℕ) (s : List ℕ) {v : Val} {r : List ℕ} {X : Type 0} → Below 8 s
    → read_bit_string f a b p s ≡ got v r
    → ((n : ℕ) (os : List ℕ) → Below 8 os → length os ≡ bit_octets n → low_bits_clear (unused_bits n) os ≡ true
    → size_allowed f a b n ≡ true → v ≡ node 8 n os no_values → s ≡ bit_string_octets f a b n os ++ r → X) → X
unfolding read_bit_string bit_string_octets read_fixed_bits choose
bit_string_sound f a b p s {v} {r} {X} bs e k =
    choose_inv _ _ _ e
    (λ t q.
    next_inv _ _ q λ os r₁ was then.
    must_inv _ _ _ _ then λ u w.
    let m = run_sound p (bit_octets a) s was in
    k a os (below_split 8 os r₁ bs m.0).0 m.1 u (fixed_allowed f a b t) (cc) (rw t (cc m.0)))
    (λ t q.
    next_inv _ _ q λ ys r₁ was then.
    let m = read_run_sound p s bs was in
    bits_in_sound f a b p ys r₁ then λ n os is l z h v qr.
    let from : s ≡ (length_octets (suc (length os)) ++ (unused_bits n ∷ os)) ++ r =
    rw (append_assoc (length_octets (suc (length os))) (unused_bits n ∷ os) r, ← qr) (rw is at m.0) in
    k n os (rw is at m.1).1 l z h v (rw t from))
