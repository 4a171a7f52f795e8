-- Runs of stores (`sets`): one run after another, stores that find no room, and a run that is copied.
-- Assumes nothing.
use mathlib.Core.Path.{◌≡◌, refl, sym, ap, ◌∙◌}
use mathlib.Core.List.{List, [], ◌∷◌, ◌++◌}
use Prim.Native.Nat.{ℕ, suc, ◌+◌, ◌-◌, ◌<◌, ◌≤◌}
use native.Mathlib.Nat.{add-zero}
use native.Mathlib.Omega.{arith}
use lib.ListN.{length, get_or, set, take, drop, length-drop}
use lib.Seq.{sets, sets-eq, set_out, set_comm, take-add, take-append_seam, drop-drop, drop-cons, length-take-le}
use lib.Seq.{length-sets}
use Rattle.x696.proofs.OutcomeLaws.{cases_lt}

-- one run after another
pub sets_append : (vs ws l : List ℕ) (i : ℕ) → sets (sets l i vs) (i + length vs) ws ≡ sets l i (vs ++ ws)
sets_append [] ws l i = rw add-zero
sets_append (v ∷ vs) ws l i =
    let e : i + suc (length vs) ≡ suc i + length vs = omega arith in
    rw e (sets_append vs ws (set l i v) (suc i))

-- the same, of a list and a place that are known by equations
pub sets_after : (vs ws l : List ℕ) {m : List ℕ} (i : ℕ) {j : ℕ} → m ≡ sets l i vs → j ≡ i + length vs
    → sets m j ws ≡ sets l i (vs ++ ws)
sets_after vs ws l i e f = rw (e, f) (sets_append vs ws l i)

-- a run with no room leaves the list as it is
pub sets_out : (vs l : List ℕ) (i : ℕ) → length l ≤ i → sets l i vs ≡ l
sets_out [] l i h = refl
sets_out (v ∷ vs) l i h = rw (set_out l i v h) (sets_out vs l (suc i) (omega arith))

-- stores at different places commute
pub set_sets : (vs l : List ℕ) (i j v : ℕ) → i < j → set (sets l j vs) i v ≡ sets (set l i v) j vs
set_sets [] l i j v h = refl
set_sets (w ∷ vs) l i j v h =
    set_sets vs (set l j w) i (suc j) v (omega arith)
    ∙ ap (λ (x : List ℕ). sets x (suc j) vs) (set_comm l j i w v (omega arith))

pub sets_comm : (vs ws l : List ℕ) (i j : ℕ) → i + length vs ≤ j → sets (sets l j ws) i vs ≡ sets (sets l i vs) j ws
sets_comm [] ws l i j h = refl
sets_comm (v ∷ vs) ws l i j h =
    ap (λ (x : List ℕ). sets x (suc i) vs) (set_sets ws l i j v (omega arith))
    ∙ sets_comm vs ws (set l i v) (suc i) j (omega arith)

-- ---- a run of octets copied from `f` on to `u` on: k octets more, one octet more, and all that have room
pub copied_on : (msg l m : List ℕ) (f u i k : ℕ) → f + i ≤ length msg → m ≡ sets l u (take i (drop f msg))
    → sets m (u + i) (take k (drop (f + i) msg)) ≡ sets l u (take (i + k) (drop f msg))
copied_on msg l m f u i k h inv =
    let j : i ≤ length (drop f msg) = simp length-drop (omega arith) in
    let e : u + i ≡ u + length (take i (drop f msg)) = rw (length-take-le i (drop f msg) j) in
    rw (take-add i k (drop f msg), drop-drop i f msg)
    (sets_after (take i (drop f msg)) (take k (drop (f + i) msg)) l u inv e)

pub copied_more : (msg l m : List ℕ) (f u i : ℕ) → f + i < length msg → m ≡ sets l u (take i (drop f msg))
    → set m (u + i) (get_or msg (f + i) 0) ≡ sets l u (take (i + 1) (drop f msg))
copied_more msg l m f u i h inv =
    let one : take 1 (drop (f + i) msg) ≡ get_or msg (f + i) 0 ∷ [] = rw (drop-cons msg (f + i) 0 h) refl in
    rw one at (copied_on msg l m f u i 1 (omega arith) inv)

pub copied_all : (msg l m : List ℕ) (f u n i : ℕ) → f + n ≤ length msg → i ≤ n → (i < n → length l ≤ u + i)
    → m ≡ sets l u (take i (drop f msg)) → m ≡ sets l u (take n (drop f msg))
copied_all msg l m f u n i h g full inv =
    cases_lt i n
    (λ _ lt.
    let e : n ≡ i + (n - i) = omega arith in
    let room : length m ≤ u + i = rw (inv, length-sets) (full lt) in
    rw e
    (sym (sets_out (take (n - i) (drop (f + i) msg)) m (u + i) room)
    ∙ copied_on msg l m f u i (n - i) (omega arith) inv))
    (λ _ ge. let e : n ≡ i = omega arith in rw e inv)

-- ---- n octets copied through a list of that length
through : (vs l : List ℕ) → length l ≡ length vs → take (length vs) (sets l 0 vs) ≡ vs
through vs l e = rw (sets-eq vs l 0 (omega arith)) (take-append_seam vs (drop (0 + length vs) l))

pub copied_through : (msg l o : List ℕ) {m o' : List ℕ} (f u n : ℕ) → f + n ≤ length msg → length l ≡ n
    → m ≡ sets l 0 (take n (drop f msg)) → o' ≡ sets o u (take n (drop 0 m)) → o' ≡ sets o u (take n (drop f msg))
copied_through msg l o {m} f u n h g e k =
    let j : n ≤ length (drop f msg) = simp length-drop (omega arith) in
    let size : length (take n (drop f msg)) ≡ n = length-take-le n (drop f msg) j in
    let whole : take n (drop 0 m) ≡ take n (drop f msg) =
    ap (λ (x : List ℕ). take n x) e
    ∙ ap (λ (i : ℕ). take i (sets l 0 (take n (drop f msg)))) (sym size)
    ∙ through (take n (drop f msg)) l (g ∙ sym size) in
    k ∙ ap (λ (x : List ℕ). sets o u x) whole
