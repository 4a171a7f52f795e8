-- A presence bit set in place: the preamble of the bits so far, padded with zeros, becomes that of one bit more; the
-- octets stored behind the preamble stay. Stores that find no room change nothing, here as there.
-- Assumes nothing.
use mathlib.Core.Path.{◌≡◌, refl, sym, ap, ◌∙◌}
use mathlib.Core.Bool.{true}
use mathlib.Core.List.{List, [], ◌∷◌, ◌++◌}
use Prim.Native.Nat.{ℕ, zero, suc, ◌+◌, ◌-◌, ◌/◌, ◌%◌, ◌<◌, ◌≤◌}
use native.Mathlib.Omega.{arith}
use native.Mathlib.Nat.{add-zero}
use lib.ListN.{length, get_or, set, replicate, length-append, length-set, length-replicate}
use lib.Seq.{sets, set_out, set-set, get_or-set_same, get_or-set_other, append_snoc, length-sets}
use Rattle.x696.specs.Outcome.{choose}
use Rattle.x696.proofs.OutcomeLaws.{cases_lt}
use Rattle.x696.specs.Digits.{Below}
use Rattle.x696.specs.Bits.{bit_octets, preamble}
use Rattle.x696.proofs.BitsLaws.{preamble_length}
use Rattle.x696.specs.Encode.{bit}
use Rattle.octets.specs.Presence.{with_bit}
use Rattle.octets.proofs.Stores.{set_sets}
use Rattle.octets.proofs.PresenceBits.{preamble_set}
use Rattle.writing.specs.Noted.{noted}

-- ---- a store inside a run of stores, and what it finds there
get_d_before : (vs l : List ℕ) (i j : ℕ) → i < j → get_or (sets l j vs) i 0 ≡ get_or l i 0
get_d_before [] l i j h = refl
get_d_before (v ∷ vs) l i j h =
    get_d_before vs (set l j v) i (suc j) (omega arith) ∙ get_or-set_other l j i v 0 (λ e. omega arith)

get_d_in : (vs l : List ℕ) (i j : ℕ) → j < length vs → i + j < length l → get_or (sets l i vs) (i + j) 0 ≡ get_or vs j 0
get_d_in [] l i j h g = absurd (omega arith)
get_d_in (v ∷ vs) l i zero h g =
    rw (add-zero i)
    (get_d_before vs (set l i v) i (suc i) (omega arith) ∙ get_or-set_same l i v 0 (omega (arith, g)))
get_d_in (v ∷ vs) l i (suc j) h g =
    let e : i + suc j ≡ suc i + j = omega arith in
    rw e (get_d_in vs (set l i v) (suc i) j (omega arith) (rw (length-set l i v) (omega arith)))

set_in : (vs l : List ℕ) (i j x : ℕ) → j < length vs → set (sets l i vs) (i + j) x ≡ sets l i (set vs j x)
set_in [] l i j x h = absurd (omega arith)
set_in (v ∷ vs) l i zero x h =
    rw (add-zero i) (set_sets vs (set l i v) i (suc i) x (omega arith) ∙ ap (λ (z : List ℕ). sets z (suc i) vs)
    (set-set l i v x))
set_in (v ∷ vs) l i (suc j) x h =
    let e : i + suc j ≡ suc i + j = omega arith in
    rw e (set_in vs (set l i v) (suc i) j x (omega arith))

-- a run over another one that is no longer
pub sets_over : (vs ws l : List ℕ) (i : ℕ) → length vs ≤ length ws → sets (sets l i vs) i ws ≡ sets l i ws
sets_over [] ws l i h = refl
sets_over (v ∷ vs) [] l i h = absurd (omega arith)
sets_over (v ∷ vs) (w ∷ ws) l i h =
    ap (λ (z : List ℕ). sets z (suc i) ws)
    (set_sets vs (set l i v) i (suc i) w (omega arith) ∙ ap (λ (z : List ℕ). sets z (suc i) vs) (set-set l i v w))
    ∙ sets_over vs ws (set l i w) (suc i) (omega arith)

-- the same, of a list that is known by an equation
pub sets_anew : (vs ws l : List ℕ) {m : List ℕ} (i : ℕ) → m ≡ sets l i vs → length vs ≤ length ws
    → sets m i ws ≡ sets l i ws
sets_anew vs ws l i e h = rw e (sets_over vs ws l i h)

-- an element of a first run changed, behind which a second run stands
pub changed_in : (vs ws l : List ℕ) (i q j : ℕ) (f : ℕ → ℕ) → j < length vs → i + length vs ≤ q
    → set (sets (sets l i vs) q ws) (i + j) (f (get_or (sets (sets l i vs) q ws) (i + j) 0))
    ≡ sets (sets l i (set vs j (f (get_or vs j 0)))) q ws
changed_in vs ws l i q j f h g =
    cases_lt (i + j) (length l)
    (λ _ room.
    let is : get_or (sets (sets l i vs) q ws) (i + j) 0 ≡ get_or vs j 0 =
    get_d_before ws (sets l i vs) (i + j) q (omega arith) ∙ get_d_in vs l i j h room in
    rw is (set_sets ws (sets l i vs) (i + j) q (f (get_or vs j 0)) (omega arith)
    ∙ ap (λ (z : List ℕ). sets z q ws) (set_in vs l i j (f (get_or vs j 0)) h)))
    (λ _ none.
    let y = f (get_or vs j 0) in
    let first : length (sets l i vs) ≤ i + j = rw (length-sets l i vs) none in
    let both : length (sets (sets l i vs) q ws) ≤ i + j = rw (length-sets (sets l i vs) q ws) first in
    set_out (sets (sets l i vs) q ws) (i + j) _ both
    ∙ ap (λ (z : List ℕ). sets z q ws) (sym (set_out (sets l i vs) (i + j) y first) ∙ set_in vs l i j y h))

-- ---- bits so far, padded with zeros
below_zeros : (n : ℕ) → Below 1 (replicate n 0)
below_zeros zero = tt
below_zeros (suc n) = (omega arith, below_zeros n)

-- the buffer l with a preamble of k bits at pre, of which `front` are known, and `back` behind it
unfoldable pub filled : (k pre : ℕ) → (l front back : List ℕ) → List ℕ
filled k pre l front back = sets (sets l pre (preamble k (front ++ replicate (k - length front) 0))) (pre + bit_octets
    k) back

module _ (k pre : ℕ) (l front back : List ℕ) (h : length front < k) where
  abbrev zeros : List ℕ
  zeros = replicate (k - suc (length front)) 0

  one_zero : replicate (k - length front) 0 ≡ 0 ∷ zeros
  one_zero = let e : k - length front ≡ suc (k - suc (length front)) = omega arith in rw e

  later : (x : ℕ) → k - length (front ++ (x ∷ [])) ≡ k - suc (length front)
  later x = omega (arith, length-append front (x ∷ []))

  noted_zero : filled k pre l (front ++ (0 ∷ [])) back ≡ filled k pre l front back
  unfolding filled
  noted_zero = rw (later 0, append_snoc front 0 zeros, one_zero)

  noted_one : set (filled k pre l front back) (pre + length front / 8)
      (with_bit (get_or (filled k pre l front back) (pre + length front / 8) 0) (length front % 8) true)
      ≡ filled k pre l (front ++ (1 ∷ [])) back
  unfolding filled bit
  noted_one =
      let P = preamble k (front ++ replicate (k - length front) 0) in
      let len = preamble_length k (front ++ replicate (k - length front) 0) in
      changed_in P back l pre (pre + bit_octets k) (length front / 8) (λ o. with_bit o (length front % 8) true)
      (rw len (omega arith)) (rw len (omega arith))
      ∙ rw (later 1, append_snoc front 1 zeros, one_zero)
      (ap (λ z. sets (sets l pre z) (pre + bit_octets k) back)
      (sym (preamble_set k (length front) front zeros (below_zeros (k - suc (length front)))
      (omega (arith, length-replicate {A = ℕ} (k - suc (length front)) 0)) refl 0 1 true (omega arith) refl)))

  pub noted_filled : (x : ℕ) → x < 2
      → noted (x ∷ []) (filled k pre l front back) pre (length front) ≡ filled k pre l (front ++ (x ∷ [])) back
  unfolding noted choose
  noted_filled zero h = sym noted_zero
  noted_filled (suc zero) h = noted_one
  noted_filled (suc (suc x)) h = absurd (omega arith)
