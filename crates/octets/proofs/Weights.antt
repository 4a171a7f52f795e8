-- Bits of an octet by their weight 2 ^ (7 - j): the lowest of some octets, one set or cleared; and zero octets stored.
-- Assumes nothing.
use mathlib.Core.Path.{◌≡◌, sym, ap, ◌∙◌}
use mathlib.Core.Bool.{Bool, true, false, cond}
use mathlib.Core.List.{List, [], ◌∷◌, ◌++◌}
use Prim.Native.Nat.{ℕ, suc, ◌+◌, ◌*◌, ◌-◌, ◌/◌, ◌%◌, ◌^◌, ◌<◌, ◌≤◌}
use native.Mathlib.Nat.{mod-lt, mod-one, mod-eq_of_lt}
use native.Mathlib.Omega.{arith}
use lib.ListN.{length, get_or, set, take, drop, replicate, length-drop, length-set}
use lib.Seq.{sets, take-suc, get_or-drop}
use lib.Arith.{digits_lt}
use lib.Dec.{eqb}
use lib.Pow.{mod-mod-pow, high, split, shr_lt, shr-shr, pow_pos, pow-add}
use Rattle.x696.specs.Digits.{from_digits}
use Rattle.x696.specs.Bits.{low_bits_clear}
use Rattle.x696.specs.Encode.{bit}
use Rattle.octets.specs.Presence.{with_bit}
use Rattle.x696.proofs.Complete.{bit_lt}
use Rattle.octets.proofs.DigitsAt.{from_digits_snoc}

-- ---- the lowest bits
pub clear_none : (os : List ℕ) {u : ℕ} → u ≡ 0 → true ≡ low_bits_clear u os
unfolding low_bits_clear
clear_none os e = sym (rw (e, mod-one (from_digits 8 os)))

-- up to eight of them stand in the last octet
low_bits : (a d u : ℕ) → u ≤ 8 → (a * 2 ^ 8 + d) % 2 ^ u ≡ d % 2 ^ u
low_bits a d u h =
    let e : 8 - u + u ≡ 8 = omega arith in
    let f : (x : ℕ) → x % 2 ^ 8 % 2 ^ u ≡ x % 2 ^ u = λ x. rw e at (mod-mod-pow x (8 - u) u) in
    let g : (a * 2 ^ 8 + d) % 2 ^ 8 ≡ d % 2 ^ 8 = omega arith in
    sym (f (a * 2 ^ 8 + d)) ∙ ap (λ z. z % 2 ^ u) g ∙ f d

pub clear_last : (msg : List ℕ) (start n u d w : ℕ) → u < 8 → u ≤ 8 * n → start + n ≤ length msg → (u ≡ 0 → ⊥)
    → d ≡ get_or msg (start + n - 1) 0 → w ≡ 2 ^ (7 - (7 - u)) → eqb (d % w) 0 ≡ low_bits_clear u (take n (drop start msg))
unfolding low_bits_clear
clear_last msg start n u d w h g l z ed ew =
    let k : suc (n - 1) ≡ n = omega arith in
    let a : start + n - 1 ≡ start + (n - 1) = omega arith in
    let b : 7 - (7 - u) ≡ u = omega arith in
    let t = take-suc (drop start msg) (n - 1) 0 (omega (arith, length-drop start msg)) in
    let s : take n (drop start msg) ≡ take (n - 1) (drop start msg) ++ (d ∷ []) =
    rw (k, get_or-drop start msg (n - 1) 0, ← a, ← ed) at t in
    let m = from_digits 8 (take (n - 1) (drop start msg)) in
    rw (ew, b, s, from_digits_snoc 8 (take (n - 1) (drop start msg)) d, low_bits m d u (omega arith))

-- ---- one bit
-- the bit in the middle, h above it, l below it
pub with_bit_is : (h x l j : ℕ) (t : Bool) → x < 2 → l < 2 ^ (7 - j)
    → with_bit ((h * 2 + x) * 2 ^ (7 - j) + l) j t ≡ (h * 2 + bit t) * 2 ^ (7 - j) + l
unfolding with_bit bit
with_bit_is h x l j t hx hl =
    let e : (h * 2 + x) % 2 ≡ x = omega arith in
    rw (high (h * 2 + x) (7 - j) hl, e) (turn t)
  where
    turn : (t : Bool)
        → (h * 2 + x) * 2 ^ (7 - j) + l - x * 2 ^ (7 - j) + cond t (2 ^ (7 - j)) 0 ≡ (h * 2 + bit t) * 2 ^ (7 - j) + l
    turn true = omega arith
    turn false = omega arith

-- an octet is a bit with what stands above and below it
module _ (o j : ℕ) (h : j < 8) (b : o < 256) where
  abbrev q : ℕ
  q = o / 2 ^ (7 - j)

  split_bit : o ≡ (q / 2 * 2 + q % 2) * 2 ^ (7 - j) + o % 2 ^ (7 - j)
  split_bit = let a : q / 2 * 2 + q % 2 ≡ q = omega arith in rw a (sym (split o (7 - j)))

  octet_size : 2 ^ (j + (7 - j + 1)) ≡ 256
  octet_size = let e : j + (7 - j + 1) ≡ 8 = omega arith in ap (λ z. 2 ^ z) e

  octet_parts : 2 ^ j * 2 * 2 ^ (7 - j) ≡ 256
  octet_parts = rw (← octet_size, pow-add 2 j (7 - j + 1), pow-add 2 (7 - j) 1) (omega arith)

  above_lt : q / 2 < 2 ^ j
  above_lt = rw (shr-shr o (7 - j) 1) (shr_lt j (7 - j + 1) (rw octet_size b))

  -- with the bit set or cleared it is one, too
  pub with_bit_octet : (t : Bool) → with_bit o j t < 256
  with_bit_octet t =
      let l : o % 2 ^ (7 - j) < 2 ^ (7 - j) = mod-lt o (pow_pos (7 - j)) in
      let e = ap (λ z. with_bit z j t) split_bit ∙ with_bit_is (q / 2) (q % 2) (o % 2 ^ (7 - j)) j t (omega arith) l in
      let m : q / 2 * 2 + bit t < 2 ^ j * 2 = omega (arith, above_lt, bit_lt t) in
      rw (e, ← octet_parts) (digits_lt m l)

-- a bit stored in the octet k
module _ (l : List ℕ) (k j : ℕ) (t : Bool) {l' : List ℕ} (o w : ℕ) (h : j < 8) (ew : w ≡ 2 ^ (7 - j))
    (eo : o ≡ get_or l k 0) (bo : o < 256) where
  stored : (v : ℕ) → with_bit o j t ≡ v → l' ≡ set l k (v % 256) → l' ≡ set l k (with_bit (get_or l k 0) j t)
  stored v e f = rw (← eo, e) (rw (mod-eq_of_lt (rw e at (with_bit_octet o j h bo t))) at f)

  pub put_set : t ≡ true → l' ≡ set l k ((o - o / w % 2 * w + w) % 256) → l' ≡ set l k (with_bit (get_or l k 0) j t)
  unfolding with_bit
  put_set et f = stored _ (rw (et, ← ew)) f

  pub put_clear : t ≡ false → l' ≡ set l k ((o - o / w % 2 * w) % 256) → l' ≡ set l k (with_bit (get_or l k 0) j t)
  unfolding with_bit
  put_clear et f = stored _ (rw (et, ← ew) (omega arith)) f

-- ---- zero octets
-- what is left to store, and what was to be stored in all
pub record Zeroed (l₀ : List ℕ) (to n : ℕ) (l : List ℕ) (i : ℕ) : Type 0 where
  pub same : sets l (to + i) (replicate (n - i) 0) ≡ sets l₀ to (replicate n 0)
  pub kept : length l ≡ length l₀
  pub within : i ≤ n

module _ (l₀ : List ℕ) (to n : ℕ) where
  module _ {l : List ℕ} {i : ℕ} (z : Zeroed l₀ to n l i) where
    pub zeroed_more : {l' : List ℕ} → i < n → l' ≡ set l (to + i) 0 → Zeroed l₀ to n l' (i + 1)
    zeroed_more h e =
        let a : n - i ≡ suc (n - (i + 1)) = omega arith in
        let b : suc (to + i) ≡ to + (i + 1) = omega arith in
        rw e (record {
          same = rw (← b) (rw a at z.same);
          kept = length-set l (to + i) 0 ∙ z.kept;
          within = omega arith;
        })
