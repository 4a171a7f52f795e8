-- Tags: what is written is read back, and what is read was written so.
-- Assumes nothing.
use Rattle.std.specs.Prelude.{◌≡◌, refl, List, [], ◌∷◌, ◌++◌, ℕ, ◌+◌, ◌*◌, ◌/◌, ◌%◌, ◌-◌, ◌≤◌, length}
use Rattle.std.proofs.Common.{sym}
use native.Mathlib.Omega.{arith}
use borrow.Author.Tests.{ltb-true, ltb-false, leb-true, lt-ltb, le-ltb, le-leb, eq-eqb}
use Rattle.x696.specs.Outcome.{got, next, must, choose}
use Rattle.x696.proofs.OutcomeLaws.{next_inv, must_inv, choose_inv, refused_never, cases_lt}
use Rattle.x696.specs.Digits.{digits, from_digits, Below}
use Rattle.x696.proofs.DigitsLaws.{digits_length, digits_below, from_digits_digits, digits_from_digits}
use Rattle.x696.specs.Fewest.{fewest, is_fewest}
use Rattle.x696.proofs.FewestLaws.{fewest_holds, fewest_pos, is_fewest_length}
use Rattle.x696.specs.Length.{octet}
use Rattle.x696.proofs.LengthLaws.{octet_sound}
use Rattle.x696.specs.Tag.{Tag, tag, group_octets, tag_octets, read_groups, read_tag}

groups_complete : (p : ℕ) (ds r : List ℕ) → 1 ≤ length ds → Below 7 ds → read_groups p (group_octets ds ++ r) ≡ got ds r
unfolding read_groups group_octets choose next
groups_complete p [] r l b = absurd (omega arith)
groups_complete p (d ∷ []) r l b = rw (lt-ltb d 128 b.0)
groups_complete p (d ∷ e ∷ ds) r l b =
    let m : 128 + d - 128 ≡ d = omega arith in
    rw (le-ltb (128 + d) 128 (omega arith), groups_complete p (e ∷ ds) r (omega arith) b.1, m)

groups_more : (d : ℕ) (ds : List ℕ) → 1 ≤ length ds → group_octets (d ∷ ds) ≡ (128 + d) ∷ group_octets ds
unfolding group_octets
groups_more d [] l = absurd (omega arith)
groups_more d (e ∷ ds) l = refl

groups_sound : (p : ℕ) (s : List ℕ) {ds r : List ℕ} → Below 8 s → read_groups p s ≡ got ds r
    → (s ≡ group_octets ds ++ r) × Below 7 ds × (1 ≤ length ds)
unfolding read_groups
groups_sound p [] b e = absurd (refused_never e)
groups_sound p (x ∷ s) {ds} {r} b e =
    choose_inv _ _ _ e
    (λ t q.
    let m : x ∷ [] ≡ ds = cc in
    rw (← m) (unfold group_octets in cc, (ltb-true x 128 t, tt), omega arith))
    (λ t q.
    next_inv _ _ q λ es r₁ was then.
    let a = groups_sound p s b.1 was in
    let m : (x - 128) ∷ es ≡ ds = cc in
    let h = ltb-false x 128 t in
    let k : 128 + (x - 128) ≡ x = omega arith in
    rw (← m) (rw (groups_more (x - 128) es a.2, k) (cc a.0), (omega (arith, b.0), a.1), omega arith))

pub tag_complete : (p : ℕ) (g : Tag) (r : List ℕ) → read_tag p (tag_octets g ++ r) ≡ got g r
unfolding read_tag tag_octets octet next must choose is_fewest
tag_complete p (tag k n) r =
    cases_lt n 63
    (λ e h.
    let a : (64 * k + n) / 64 ≡ k = omega arith in
    let b : (64 * k + n) % 64 ≡ n = omega arith in
    rw (e, b, e, a))
    (λ e h.
    let a : (64 * k + 63) / 64 ≡ k = omega arith in
    let b : (64 * k + 63) % 64 ≡ 63 = omega arith in
    let l = digits_length 7 (fewest 7 n) n in
    rw (
      e,
      b,
      groups_complete p (digits 7 (fewest 7 n) n) r (omega (arith, fewest_pos 7 n)) (digits_below 7 (fewest 7 n) n),
      from_digits_digits 7 (fewest 7 n) n (fewest_holds 7 n (omega arith)),
      l,
      le-leb 63 n h,
      eq-eqb (fewest 7 n) (fewest 7 n) refl,
      a,
    ))

pub tag_sound : (p : ℕ) (s : List ℕ) {t : Tag} {r : List ℕ} → Below 8 s → read_tag p s ≡ got t r → s ≡ tag_octets t ++ r
unfolding read_tag tag_octets choose
tag_sound p s {t} {r} b e =
    next_inv _ _ e λ x r₁ was then.
    let a = octet_sound p s was in
    choose_inv _ _ _ then
    (λ u q.
    let m : tag (x / 64) (x % 64) ≡ t = cc in
    let h : 64 * (x / 64) + x % 64 ≡ x = omega arith in
    rw (← m, u, h) (cc a))
    (λ u q.
    next_inv _ _ q λ ds r₂ was' then'.
    must_inv _ _ _ _ then' λ v w.
    must_inv _ _ _ _ w λ v' w'.
    let g = groups_sound p r₁ (rw a at b).1 was' in
    let m : tag (x / 64) (from_digits 7 ds) ≡ t = cc in
    let u' = ltb-false (x % 64) 63 u in
    let h : 64 * (x / 64) + 63 ≡ x = omega arith in
    let f : fewest 7 (from_digits 7 ds) ≡ length ds = sym (is_fewest_length 7 ds v') in
    rw (← m, le-ltb (from_digits 7 ds) 63 (leb-true 63 (from_digits 7 ds) v), h, f, digits_from_digits 7 ds g.1)
    (cc (a, g.0)))
