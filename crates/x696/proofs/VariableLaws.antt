-- Variable-size numbers and quantities: what is written is read back, and what is read was written so.
-- Assumes nothing.
use Rattle.std.specs.Prelude.{◌≡◌, refl, List, ◌++◌, ℕ, ◌*◌, ◌^◌, ◌<◌, ◌≤◌, length}
use Rattle.std.proofs.Common.{append_assoc, arith, leb-true, lt-ltb, le-leb}
use Rattle.x696.specs.Outcome.{got, next, must}
use Rattle.x696.proofs.OutcomeLaws.{next_inv, must_inv}
use Rattle.x696.specs.Digits.{from_digits, Below}
use Rattle.x696.proofs.DigitsLaws.{from_digits_lt}
use Rattle.x696.specs.Fewest.{fewest, unsigned_octets, fewest_signed, signed_octets, signed_word}
use Rattle.x696.proofs.FewestLaws.{fewest_pos, fewest_least, unsigned_back, unsigned_length, unsigned_fewest, unsigned_only}
use Rattle.x696.proofs.FewestLaws.{is_fewest_length}
use Rattle.x696.proofs.SignedLaws.{octets_le, fewest_signed_pos, fewest_signed_le, signed_length, signed_back, signed_only}
use Rattle.x696.specs.Length.{length_octets}
use Rattle.x696.proofs.LengthLaws.{read_run_complete, read_run_sound}
use Rattle.x696.specs.Variable.{variable_unsigned, read_unsigned, variable_signed, read_signed}

-- a determinant, the octets that it counts, and what follows
counted : (k : ℕ) (os r : List ℕ) → length os ≡ k → (length_octets k ++ os) ++ r ≡ length_octets (length os) ++ (os ++ r)
counted k os r e = rw (e) (append_assoc (length_octets k) os r)

pub unsigned_complete : (p n : ℕ) (r : List ℕ) → n < 2 ^ 64 → read_unsigned p (variable_unsigned n ++ r) ≡ got n r
unfolding read_unsigned variable_unsigned next must
unsigned_complete p n r h =
    let few : length (unsigned_octets n) ≤ 8 = rw (unsigned_length n) (fewest_least 8 n 7 h) in
    rw (
      counted (fewest 8 n) (unsigned_octets n) r (unsigned_length n),
      read_run_complete p (unsigned_octets n) r,
      lt-ltb 0 (length (unsigned_octets n)) (rw (unsigned_length n) (fewest_pos 8 n)),
      unsigned_fewest n,
      le-leb (length (unsigned_octets n)) 8 few,
      unsigned_back n,
    )

pub unsigned_sound : (p : ℕ) (s : List ℕ) {n : ℕ} {r : List ℕ} → Below 8 s → read_unsigned p s ≡ got n r
    → (s ≡ variable_unsigned n ++ r) × (n < 2 ^ 64)
unfolding read_unsigned variable_unsigned
unsigned_sound p s {n} {r} b e =
    next_inv _ _ e λ os r₁ was then.
    must_inv _ _ _ _ then λ _ q.
    must_inv _ _ _ _ q λ t u.
    must_inv _ _ _ _ u λ t' v.
    let a = read_run_sound p s b was in
    let m : from_digits 8 os ≡ n = cc in
    let qr : r₁ ≡ r = cc in
    let le : 2 ^ (8 * length os) ≤ 2 ^ 64 = octets_le (length os) (leb-true (length os) 8 t') in
    rw (← m, unsigned_only os a.1 t, ← (is_fewest_length 8 os t), counted (length os) os r refl, ← qr)
    (a.0, omega (arith, from_digits_lt 8 os a.1))

pub signed_complete : (p w : ℕ) (r : List ℕ) → w < 2 ^ 64 → read_signed p (variable_signed w ++ r) ≡ got w r
unfolding read_signed variable_signed next must
signed_complete p w r h =
    let few : length (signed_octets w) ≤ 8 = rw (signed_length w) (fewest_signed_le w h) in
    rw (
      counted (fewest_signed w) (signed_octets w) r (signed_length w),
      read_run_complete p (signed_octets w) r,
      lt-ltb 0 (length (signed_octets w)) (rw (signed_length w) (fewest_signed_pos w)),
      (signed_back w h).1,
      le-leb (length (signed_octets w)) 8 few,
      (signed_back w h).0,
    )

pub signed_sound : (p : ℕ) (s : List ℕ) {w : ℕ} {r : List ℕ} → Below 8 s → read_signed p s ≡ got w r
    → (s ≡ variable_signed w ++ r) × (w < 2 ^ 64)
unfolding read_signed variable_signed
signed_sound p s {w} {r} b e =
    next_inv _ _ e λ os r₁ was then.
    must_inv _ _ _ _ then λ _ q.
    must_inv _ _ _ _ q λ t u.
    must_inv _ _ _ _ u λ t' v.
    let a = read_run_sound p s b was in
    let m : signed_word os ≡ w = cc in
    let qr : r₁ ≡ r = cc in
    let z = signed_only os a.1 (leb-true (length os) 8 t') t in
    rw (← m, z.1, z.2, counted (length os) os r refl, ← qr) (a.0, z.0)
