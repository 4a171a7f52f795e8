-- ENUMERATED: what is written is read back, and what is read was written so.
-- Assumes nothing.
use Rattle.std.specs.Prelude.{◌≡◌, List, [], ◌∷◌, ◌++◌, ℕ, ◌+◌, ◌*◌, ◌^◌, ◌-◌, ◌<◌, ◌≤◌, length, ltb}
use Rattle.std.proofs.Common.{sym, arith, pow_mono, ltb-true, ltb-false, leb-true, lt-ltb, le-ltb, le-leb}
use Rattle.x696.specs.Outcome.{got, next, must, choose}
use Rattle.x696.proofs.OutcomeLaws.{next_inv, must_inv, choose_inv, cases, cases_lt}
use Rattle.x696.specs.Digits.{from_digits, Below}
use Rattle.x696.proofs.DigitsLaws.{below_split}
use Rattle.x696.specs.Fewest.{fewest_signed, signed_octets, word_in, signed_word}
use Rattle.x696.proofs.SignedLaws.{fewest_signed_le, fewest_signed_pos, signed_length, signed_back, signed_only}
use Rattle.x696.specs.Length.{octet}
use Rattle.x696.proofs.LengthLaws.{octet_sound, run_complete, run_sound}
use Rattle.x696.specs.Enumerated.{enumerated_octets, read_enumerated}

-- octets whose number is below 128 stand for that number, unless they are none
low_word : (os : List ℕ) → 1 ≤ length os → from_digits 8 os < 128 → signed_word os ≡ from_digits 8 os
unfolding signed_word word_in
low_word os h l =
    let le : 2 ^ 8 ≤ 2 ^ (8 * length os) = pow_mono {i = 8} (omega arith) in
    rw (lt-ltb (2 * from_digits 8 os) (2 ^ (8 * length os)) (omega arith))

high_octets : (w : ℕ) → w < 2 ^ 64 → 128 ≤ w → 128 ≤ from_digits 8 (signed_octets w)
high_octets w h g =
    cases_lt (from_digits 8 (signed_octets w)) 128
    (λ e l.
    let few : 1 ≤ length (signed_octets w) = rw (signed_length w) (fewest_signed_pos w) in
    absurd (omega (arith, low_word (signed_octets w) few l, (signed_back w h).0)))
    (λ e l. l)

high_word : (os : List ℕ) → from_digits 8 os ≤ signed_word os
unfolding signed_word word_in
high_word os =
    cases (ltb (2 * from_digits 8 os) (2 ^ (8 * length os))) (λ e. rw e (omega arith)) (λ e. rw e (omega arith))

pub enumerated_complete : (w p : ℕ) (r : List ℕ) → w < 2 ^ 64 → read_enumerated p (enumerated_octets w ++ r) ≡ got w r
unfolding read_enumerated enumerated_octets octet next must choose
enumerated_complete w p r h =
    cases_lt w 128
    (λ e l. rw (e, e))
    (λ e l.
    let x : 128 + fewest_signed w - 128 ≡ fewest_signed w = omega arith in
    let few : length (signed_octets w) ≤ 8 = rw (signed_length w) (fewest_signed_le w h) in
    rw (
      e,
      le-ltb (128 + fewest_signed w) 128 (omega arith),
      x,
      lt-ltb 0 (fewest_signed w) (fewest_signed_pos w),
      run_complete p (signed_octets w) r (fewest_signed w) (sym (signed_length w)),
      le-leb 128 (from_digits 8 (signed_octets w)) (high_octets w h l),
      (signed_back w h).1,
      le-leb (length (signed_octets w)) 8 few,
      (signed_back w h).0,
    ))

pub enumerated_sound_lem : (p : ℕ) (s : List ℕ) {w : ℕ} {r : List ℕ} → Below 8 s → read_enumerated p s ≡ got w r
    → (s ≡ enumerated_octets w ++ r) × (w < 2 ^ 64)
unfolding read_enumerated enumerated_octets choose
enumerated_sound_lem p s {w} {r} b e =
    next_inv _ _ e λ x r₁ was then.
    let a = octet_sound p s was in
    choose_inv _ _ _ then
    (λ t q. let m : x ≡ w = cc in rw (← m, t) (cc a, omega (arith, ltb-true x 128 t)))
    (λ t q₀.
    must_inv _ _ _ _ q₀ λ _ q.
    next_inv _ _ q λ os r₂ was' then'.
    must_inv _ _ _ _ then' λ u v.
    must_inv _ _ _ _ v λ u' v'.
    must_inv _ _ _ _ v' λ u'' v''.
    let g = run_sound p (x - 128) r₁ was' in
    let m : signed_word os ≡ w = cc in
    let h = leb-true 128 (from_digits 8 os) u in
    let k = ltb-false x 128 t in
    let bo = (below_split 8 os r₂ (below_split 8 (x ∷ []) r₁ b a).1 g.0).0 in
    let z = signed_only os bo (leb-true (length os) 8 u'') u' in
    let y : 128 + length os ≡ x = omega (arith, g.1) in
    rw (← m, le-ltb (signed_word os) 128 (omega (arith, high_word os)), z.1, z.2, y) (cc (a, g.0), z.0))
