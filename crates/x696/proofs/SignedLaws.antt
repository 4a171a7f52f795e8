-- Two's complement: fewest octets of a word hold it and no fewer do; what is written is read back, and what is read was
-- written so.
-- Assumes nothing.
use Rattle.std.specs.Prelude.{◌≡◌, refl, ◌⊎◌, true, List, length}
use Rattle.std.proofs.Common.{ap, sym, ◌∙◌, inl, inr, ⊎_elim, mod-eq_of_lt, arith, pow_mono, pow-add}
use Prim.Native.Nat.{ℕ, zero, suc, ◌+◌, ◌*◌, ◌^◌, ◌%◌, ◌-◌, ◌<◌, ◌≤◌}
use Rattle.std.proofs.Math.Pow.{not_mod}
use borrow.Author.Tests.{lt-ltb, le-ltb, eqb-true, eq-eqb}
use Rattle.x696.proofs.OutcomeLaws.{cases_lt}
use Rattle.x696.specs.Digits.{digits, from_digits, Below}
use Rattle.x696.proofs.DigitsLaws.{digits_length, from_digits_lt, digits_from_digits, from_digits_digits_mod}
use Rattle.x696.proofs.DigitsLaws.{digits_low, mul_step}
use Rattle.x696.specs.Fewest.{fewest, magnitude, fewest_signed, signed_octets, magnitude_in, word_in, is_fewest_signed}
use Rattle.x696.specs.Fewest.{signed_word}
use Rattle.x696.proofs.FewestLaws.{fewest_holds, fewest_pos, fewest_least}

pub octets_le : (k : ℕ) → k ≤ 8 → 2 ^ (8 * k) ≤ 2 ^ 64
octets_le k h = pow_mono {i = 8 * k} {j = 64} (omega arith)

octet_more : (k : ℕ) → 2 ^ (8 * suc k) ≡ 256 * 2 ^ (8 * k)
octet_more k = rw (mul_step 8 k, pow-add)

complement_mod : (k d : ℕ) → k ≤ 8 → d < 2 ^ (8 * k) → (2 ^ 64 - 1 - d) % 2 ^ (8 * k) ≡ 2 ^ (8 * k) - 1 - d
complement_mod k d h g = let e : (64 - 8 * k) + 8 * k ≡ 64 = omega arith in rw e at (not_mod (64 - 8 * k) (8 * k) g)

-- a word from its low k octets
pub word_back : (k w : ℕ) → suc k ≤ 8 → w < 2 ^ 64 → 2 * magnitude w < 2 ^ (8 * suc k)
    → (word_in (suc k) (w % 2 ^ (8 * suc k)) ≡ w) × (magnitude_in (suc k) (w % 2 ^ (8 * suc k)) ≡ magnitude w)
unfolding word_in magnitude_in magnitude
word_back k w h g b =
    cases_lt w (2 ^ 63)
    (λ e l.
    let b' : 2 * w < 2 ^ (8 * suc k) = rw e at b in
    let q : w % 2 ^ (8 * suc k) ≡ w = mod-eq_of_lt (omega arith) in
    rw (e, q, lt-ltb (2 * w) (2 ^ (8 * suc k)) b') (refl, refl))
    (λ e l.
    let b' : 2 * (2 ^ 64 - 1 - w) < 2 ^ (8 * suc k) = rw e at b in
    let v : w ≡ 2 ^ 64 - 1 - (2 ^ 64 - 1 - w) = omega arith in
    let q : w % 2 ^ (8 * suc k) ≡ 2 ^ (8 * suc k) - 1 - (2 ^ 64 - 1 - w) =
    ap (λ x. x % 2 ^ (8 * suc k)) v ∙ complement_mod (suc k) (2 ^ 64 - 1 - w) h (omega arith) in
    let n = octets_le (suc k) h in
    let m = octet_more k in
    rw (e, q, le-ltb (2 * (2 ^ (8 * suc k) - 1 - (2 ^ 64 - 1 - w))) (2 ^ (8 * suc k)) (omega arith))
    (omega arith, omega arith))

-- the word that k octets stand for
pub word_in_lem : (k m : ℕ) → suc k ≤ 8 → m < 2 ^ (8 * suc k)
    → (word_in (suc k) m < 2 ^ 64) × (magnitude (word_in (suc k) m) ≡ magnitude_in (suc k) m)
    × (word_in (suc k) m % 2 ^ (8 * suc k) ≡ m)
unfolding word_in magnitude_in magnitude
word_in_lem k m h g =
    let n = octets_le (suc k) h in
    let o = octet_more k in
    cases_lt (2 * m) (2 ^ (8 * suc k))
    (λ e l. rw (e, lt-ltb m (2 ^ 63) (omega arith)) (omega arith, refl, mod-eq_of_lt g))
    (λ e l.
    let q : 2 ^ 64 - 2 ^ (8 * suc k) + m ≡ 2 ^ 64 - 1 - (2 ^ (8 * suc k) - 1 - m) = omega arith in
    let f = complement_mod (suc k) (2 ^ (8 * suc k) - 1 - m) h (omega arith) in
    rw (e, q, le-ltb (2 ^ 64 - 1 - (2 ^ (8 * suc k) - 1 - m)) (2 ^ 63) (omega arith))
    (omega arith, omega arith, f ∙ omega arith))

pub magnitude_lt : (w : ℕ) → w < 2 ^ 64 → magnitude w < 2 ^ 63
unfolding magnitude
magnitude_lt w h = cases_lt w (2 ^ 63) (λ e l. rw e l) (λ e l. rw e (omega arith))

-- ---- fewest octets
-- k octets hold the words from -h to h - 1, where 2 * h is 2 ^ (8 * k)
abbrev pub HoldsSigned : (h word : ℕ) → Type 0
HoldsSigned h w = (w < h) ⊎ (2 ^ 64 ≤ w + h)

magnitude_holds : (h w : ℕ) → h ≤ 2 ^ 63 → w < 2 ^ 64 → magnitude w < h → HoldsSigned h w
unfolding magnitude
magnitude_holds h w l g m =
    cases_lt w (2 ^ 63)
    (λ e k. inl (let m' : w < h = rw e at m in m'))
    (λ e k. let m' : 2 ^ 64 - 1 - w < h = rw e at m in inr (omega arith))

holds_magnitude : (h w : ℕ) → h ≤ 2 ^ 63 → w < 2 ^ 64 → HoldsSigned h w → magnitude w < h
unfolding magnitude
holds_magnitude h w l g m =
    cases_lt w (2 ^ 63)
    (λ e k. rw e (⊎_elim (λ a. a) (λ a. absurd (omega arith)) m))
    (λ e k. rw e (⊎_elim (λ a. omega arith) (λ a. omega arith) m))

pub fewest_signed_le : (w : ℕ) → w < 2 ^ 64 → fewest_signed w ≤ 8
unfolding fewest_signed
fewest_signed_le w h = fewest_least 8 (2 * magnitude w) 7 (omega (arith, magnitude_lt w h))

pub fewest_signed_pos : (w : ℕ) → 1 ≤ fewest_signed w
unfolding fewest_signed
fewest_signed_pos w = fewest_pos 8 (2 * magnitude w)

-- the fewest octets hold the word
pub fewest_signed_holds : (w h : ℕ) → w < 2 ^ 64 → 2 * h ≡ 2 ^ (8 * fewest_signed w) → HoldsSigned h w
fewest_signed_holds w h l e =
    let n = octets_le (fewest_signed w) (fewest_signed_le w l) in
    let m : 2 * magnitude w < 2 ^ (8 * fewest_signed w) =
    unfold fewest_signed in fewest_holds 8 (2 * magnitude w) (omega arith) in
    magnitude_holds h w (omega arith) l (omega arith)

-- no fewer hold it
pub fewest_signed_least : (w h j : ℕ) → suc j ≤ 8 → w < 2 ^ 64 → 2 * h ≡ 2 ^ (8 * suc j) → HoldsSigned h w
    → fewest_signed w ≤ suc j
unfolding fewest_signed
fewest_signed_least w h j l g e m =
    let n = octets_le (suc j) l in
    fewest_least 8 (2 * magnitude w) j (omega (arith, holds_magnitude h w (omega arith) g m))

pub signed_length : (w : ℕ) → length (signed_octets w) ≡ fewest_signed w
unfolding signed_octets
signed_length w = digits_length 8 (fewest_signed w) w

-- ---- a word in its fewest octets, and back
pub signed_back : (w : ℕ) → w < 2 ^ 64 → (signed_word (signed_octets w) ≡ w) × (is_fewest_signed (signed_octets w) ≡ true)
unfolding signed_word is_fewest_signed signed_octets
signed_back w h =
    let g = go (fewest_signed w) (fewest_signed_pos w) (fewest_signed_le w h)
    (unfold fewest_signed in fewest_holds 8 (2 * magnitude w) (omega arith)) in
    rw (digits_length 8 (fewest_signed w) w, g.0, g.1)
    (refl, eq-eqb (fewest_signed w) (fewest 8 (2 * magnitude w)) (unfold fewest_signed in refl))
  where
    go : (k : ℕ) → 1 ≤ k → k ≤ 8 → 2 * magnitude w < 2 ^ (8 * k)
        → (word_in k (from_digits 8 (digits 8 k w)) ≡ w) × (magnitude_in k (from_digits 8 (digits 8 k w)) ≡ magnitude w)
    go zero p l b = absurd (omega arith)
    go (suc k) p l b = rw (from_digits_digits_mod 8 (suc k) w) (word_back k w l h b)

-- octets that are the fewest are their word's
pub signed_only : (os : List ℕ) → Below 8 os → length os ≤ 8 → is_fewest_signed os ≡ true
    → (signed_word os < 2 ^ 64) × (fewest_signed (signed_word os) ≡ length os) × (signed_octets (signed_word os) ≡ os)
unfolding signed_word is_fewest_signed signed_octets fewest_signed
signed_only os b h e = go (length os) refl h (eqb-true _ _ e)
  where
    go : (k : ℕ) → length os ≡ k → k ≤ 8 → k ≡ fewest 8 (2 * magnitude_in k (from_digits 8 os))
        → (word_in k (from_digits 8 os) < 2 ^ 64) × (fewest 8 (2 * magnitude (word_in k (from_digits 8 os))) ≡ k)
        × (digits 8 (fewest 8 (2 * magnitude (word_in k (from_digits 8 os)))) (word_in k (from_digits 8 os)) ≡ os)
    go zero l h e = absurd (omega (arith, fewest_pos 8 (2 * magnitude_in 0 (from_digits 8 os))))
    go (suc k) l h e =
        let lt : from_digits 8 os < 2 ^ (8 * suc k) = rw l at (from_digits_lt 8 os b) in
        let a = word_in_lem k (from_digits 8 os) h lt in
        let f : fewest 8 (2 * magnitude (word_in (suc k) (from_digits 8 os))) ≡ suc k = rw a.1 (sym e) in
        let d : digits 8 (suc k) (word_in (suc k) (from_digits 8 os)) ≡ digits 8 (suc k) (from_digits 8 os) =
        digits_low 8 (suc k) _ _ (a.2 ∙ sym (mod-eq_of_lt lt)) in
        (a.0, f, rw (f, d, ← l) (digits_from_digits 8 os b))
