-- Octets, runs and length determinants: what is written is read back, and what is read was written so.
-- Assumes nothing.
use Rattle.std.specs.Prelude.{◌≡◌, refl, List, [], ◌∷◌, ◌++◌, ℕ, ◌+◌, ◌-◌, length, take, drop}
use Rattle.std.proofs.Common.{sym, arith, length-append, take-append-drop, length-take-le, ltb-false, leb-true, lt-ltb, le-ltb, le-leb}
use Rattle.std.proofs.Math.Seq.{take-append_seam, drop-append_seam}
use Rattle.x696.specs.Outcome.{got, next, must, choose}
use Rattle.x696.proofs.OutcomeLaws.{next_inv, must_inv, choose_inv, refused_never, cases_lt}
use Rattle.x696.specs.Digits.{from_digits, Below}
use Rattle.x696.proofs.DigitsLaws.{below_split}
use Rattle.x696.specs.Fewest.{fewest, unsigned_octets}
use Rattle.x696.proofs.FewestLaws.{fewest_pos, unsigned_back, unsigned_length, unsigned_fewest, unsigned_only, is_fewest_length}
use Rattle.x696.specs.Length.{octet, run, length_octets, read_length, read_run}

pub octet_sound : (p : ℕ) (s : List ℕ) {x : ℕ} {r : List ℕ} → octet p s ≡ got x r → s ≡ x ∷ r
unfolding octet
octet_sound p [] e = absurd (refused_never e)
octet_sound p (y ∷ s) e = cc

pub run_complete : (p : ℕ) (os r : List ℕ) (n : ℕ) → n ≡ length os → run p n (os ++ r) ≡ got os r
unfolding run must
run_complete p os r n e =
    rw (
      e,
      le-leb (length os) (length (os ++ r)) (omega (arith, length-append os r)),
      take-append_seam os r,
      drop-append_seam os r,
    )

pub run_sound : (p n : ℕ) (s : List ℕ) {os r : List ℕ} → run p n s ≡ got os r → (s ≡ os ++ r) × (length os ≡ n)
unfolding run
run_sound p n s {os} {r} e =
    must_inv _ _ _ _ e λ t q.
    let qo : take n s ≡ os = cc in
    let qr : drop n s ≡ r = cc in
    (rw (← qo, ← qr, take-append-drop n s), rw (← qo) (length-take-le n s (leb-true n (length s) t)))

pub length_complete : (p n : ℕ) (r : List ℕ) → read_length p (length_octets n ++ r) ≡ got n r
unfolding read_length length_octets octet next must choose
length_complete p n r =
    cases_lt n 128
    (λ e h. rw (e, e))
    (λ e h.
    let x : 128 + fewest 8 n - 128 ≡ fewest 8 n = omega arith in
    rw (
      e,
      le-ltb (128 + fewest 8 n) 128 (omega arith),
      x,
      lt-ltb 0 (fewest 8 n) (fewest_pos 8 n),
      run_complete p (unsigned_octets n) r (fewest 8 n) (sym (unsigned_length n)),
      unsigned_fewest n,
      unsigned_back n,
      le-leb 128 n h,
    ))

pub length_sound : (p : ℕ) (s : List ℕ) {n : ℕ} {r : List ℕ} → Below 8 s → read_length p s ≡ got n r
    → s ≡ length_octets n ++ r
unfolding read_length length_octets choose
length_sound p s {n} {r} b e =
    next_inv _ _ e λ x r₁ was then.
    let a = octet_sound p s was in
    choose_inv _ _ _ then
    (λ t q. let m : x ≡ n = cc in rw (← m, t) (cc a))
    (λ t q₀.
    must_inv _ _ _ _ q₀ λ _ q.
    next_inv _ _ q λ os r₂ was' then'.
    must_inv _ _ _ _ then' λ u v.
    must_inv _ _ _ _ v λ u' v'.
    let g = run_sound p (x - 128) r₁ was' in
    let m : from_digits 8 os ≡ n = cc in
    let h = leb-true 128 (from_digits 8 os) u in
    let k = ltb-false x 128 t in
    let bo = (below_split 8 os r₂ (below_split 8 (x ∷ []) r₁ b a).1 g.0).0 in
    let y : 128 + fewest 8 (from_digits 8 os) ≡ x = omega (arith, is_fewest_length 8 os u', g.1) in
    rw (← m, le-ltb (from_digits 8 os) 128 h, y, unsigned_only os bo u') (cc (a, g.0)))

-- a determinant and what it counts
pub read_run_complete : (p : ℕ) (os r : List ℕ) → read_run p (length_octets (length os) ++ (os ++ r)) ≡ got os r
unfolding read_run next
read_run_complete p os r = rw (length_complete p (length os) (os ++ r), run_complete p os r (length os) refl)

pub read_run_sound : (p : ℕ) (s : List ℕ) {os r : List ℕ} → Below 8 s → read_run p s ≡ got os r
    → (s ≡ length_octets (length os) ++ (os ++ r)) × Below 8 os
unfolding read_run
read_run_sound p s {os} {r} b e =
    next_inv _ _ e λ n r₁ was then.
    let a = length_sound p s b was in
    let g = run_sound p n r₁ then in
    (rw (g.1, ← g.0) a, (below_split 8 os r (below_split 8 (length_octets n) r₁ b a).1 g.0).0)
