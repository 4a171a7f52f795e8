-- Runs of octets of a message: the first octet and the rest; whether they are the fewest for their number, by the first
-- two.
-- Assumes nothing.
use mathlib.Core.Path.{◌≡◌, refl, sym, subst, ◌∙◌}
use mathlib.Core.Bool.{true, false, not}
use mathlib.Core.List.{List, [], ◌∷◌}
use Prim.Native.Nat.{ℕ, zero, suc, ◌+◌, ◌-◌, ◌<◌, ◌≤◌}
use native.Mathlib.Numerals.{add-one}
use native.Mathlib.Omega.{arith}
use lib.ListN.{length, get_or, take, drop}
use lib.Seq.{drop-cons}
use lib.Dec.{ltb, eqb}
use borrow.Author.Tests.{lt-ltb, ne_eqb}
use Rattle.x696.specs.Digits.{Below}
use Rattle.x696.specs.Fewest.{is_fewest, is_fewest_signed}
use Rattle.x696.proofs.FewestLaws.{is_fewest_none, is_fewest_one, is_fewest_more}
use Rattle.octets.proofs.Octets.{below_drop, below_take}
use Rattle.octets.proofs.Few.{is_fewest_signed_none, is_fewest_signed_one, is_fewest_signed_plus, is_fewest_signed_minus}

-- a run's first octet and the rest
pub run_cons : (s : List ℕ) (a n m : ℕ) → n ≡ suc m → a < length s
    → take n (drop a s) ≡ get_or s a 0 ∷ take m (drop (a + 1) s)
run_cons s a n m e g = rw (drop-cons s a 0 g, add-one a, e)

pub run_two : (s : List ℕ) (a n : ℕ) → 2 ≤ n → a + n ≤ length s
    → take n (drop a s) ≡ get_or s a 0 ∷ get_or s (a + 1) 0 ∷ take (n - 2) (drop (a + 1 + 1) s)
run_two s a n h g =
    let e = run_cons s a n (n - 1) (omega arith) (omega arith) in
    let f = run_cons s (a + 1) (n - 1) (n - 2) (omega arith) (omega arith) in
    rw (e, f)

-- ---- whether a run of k octets is the fewest for its number
pub run_none : (msg : List ℕ) (start k : ℕ) → k ≡ 0
    → (false ≡ is_fewest 8 (take k (drop start msg))) × (false ≡ is_fewest_signed (take k (drop start msg)))
run_none msg start k e = rw e (sym (is_fewest_none 8), sym is_fewest_signed_none)

pub run_one : (msg : List ℕ) (start k : ℕ) → Below 8 msg → start + k ≤ length msg → k ≡ 1
    → (true ≡ is_fewest 8 (take k (drop start msg))) × (true ≡ is_fewest_signed (take k (drop start msg)))
run_one msg start k b h e =
    let q : take 1 (drop start msg) ≡ get_or msg start 0 ∷ [] = run_cons msg start 1 0 refl (omega arith) in
    let w = below_take 8 (drop start msg) 1 (below_drop 8 msg start b) in
    let o : Below 8 (get_or msg start 0 ∷ []) = subst (λ (os : List ℕ). Below 8 os) q w in
    rw (e, q) (sym (is_fewest_one 8 (get_or msg start 0) o.0), sym (is_fewest_signed_one (get_or msg start 0) o.0))

not_zero : (d : ℕ) → ltb 0 d ≡ not (eqb d 0)
not_zero zero = refl
not_zero (suc d) = rw (lt-ltb 0 (suc d) (omega arith), ne_eqb (suc d) 0 (λ e. omega arith))

module _
    (msg : List ℕ) (start k : ℕ) (b : Below 8 msg) (h : start + k ≤ length msg) (z : k ≡ 0 → ⊥) (u : k ≡ 1 → ⊥)
  where
    run_below : Below 8 (get_or msg start 0 ∷ get_or msg (start + 1) 0 ∷ take (k - 2) (drop (start + 1 + 1) msg))
    run_below =
        let w = below_take 8 (drop start msg) k (below_drop 8 msg start b) in
        subst (λ (os : List ℕ). Below 8 os) (run_two msg start k (omega arith) h) w

    pub run_more : (first : ℕ) → first ≡ get_or msg start 0 → not (eqb first 0) ≡ is_fewest 8 (take k (drop start msg))
    run_more first e =
        rw (run_two msg start k (omega arith) h, e)
        (sym (is_fewest_more 8 _ _ _ (omega arith) run_below ∙ not_zero (get_or msg start 0)))

    pub run_plus : (first second : ℕ) → first ≡ get_or msg start 0 → second ≡ get_or msg (start + 1) 0 → second < 128
        → not (eqb first 0) ≡ is_fewest_signed (take k (drop start msg))
    run_plus first second e f l =
        rw (run_two msg start k (omega arith) h, e) (sym (is_fewest_signed_plus _ _ _ run_below (omega arith)))

    pub run_minus : (first second : ℕ) → first ≡ get_or msg start 0 → second ≡ get_or msg (start + 1) 0 → 128 ≤ second
        → not (eqb first 255) ≡ is_fewest_signed (take k (drop start msg))
    run_minus first second e f l =
        rw (run_two msg start k (omega arith) h, e) (sym (is_fewest_signed_minus _ _ _ run_below (omega arith)))
