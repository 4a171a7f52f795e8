-- Whether octets are visible, by the least and the greatest of those looked at and by what is left.
-- Assumes nothing.
use mathlib.Core.Path.{◌≡◌, refl, sym}
use mathlib.Core.Bool.{Bool, true, false, ◌&&◌, false≢true}
use mathlib.Core.List.{List}
use Prim.Native.Nat.{ℕ, ◌+◌, ◌<◌, ◌≤◌, min, max}
use native.Mathlib.Numerals.{add-one}
use native.Mathlib.Omega.{arith}
use lib.ListN.{length, get_or, drop}
use lib.Seq.{drop-cons}
use Rattle.std.proofs.lemmas.List.{drop_all}
use lib.Dec.{leb}
use borrow.Author.Tests.{leb-true, le-leb, lt-leb}
use Rattle.x696.specs.String.{visible}
use Rattle.x696.proofs.OutcomeLaws.{cases_lt}

-- ---- the lesser and the greater of two, under any bound
both_left : (p q : Bool) → (p ≡ true → q ≡ true) → p ≡ p && q
both_left true q f = sym (f refl)
both_left false q f = refl

both_right : (p q : Bool) → (q ≡ true → p ≡ true) → q ≡ p && q
both_right true q f = refl
both_right false true f = absurd (false≢true (f refl))
both_right false false f = refl

pub above_min : (a b m : ℕ) → leb m (min a b) ≡ leb m a && leb m b
above_min a b m =
    cases_lt a b
    (λ _ h.
    let e : min a b ≡ a = omega arith in
    rw e (both_left (leb m a) (leb m b) λ t. let g : m ≤ a = leb-true m a t in le-leb m b (omega arith)))
    (λ _ h.
    let e : min a b ≡ b = omega arith in
    rw e (both_right (leb m a) (leb m b) λ t. let g : m ≤ b = leb-true m b t in le-leb m a (omega arith)))

pub below_max : (a b m : ℕ) → leb (max a b) m ≡ leb a m && leb b m
below_max a b m =
    cases_lt a b
    (λ _ h.
    let e : max a b ≡ b = omega arith in
    rw e (both_right (leb a m) (leb b m) λ t. let g : b ≤ m = leb-true b m t in le-leb a m (omega arith)))
    (λ _ h.
    let e : max a b ≡ a = omega arith in
    rw e (both_left (leb a m) (leb b m) λ t. let g : a ≤ m = leb-true a m t in le-leb b m (omega arith)))

-- ---- octets of which i were looked at
unfoldable pub VisibleFrom : List ℕ → (i low high : ℕ) → Type 0
VisibleFrom xs i low high = visible xs ≡ (leb 32 low && leb high 126) && visible (drop i xs)

pub visible_start : (xs : List ℕ) → VisibleFrom xs 0 126 32
unfolding VisibleFrom
visible_start xs = refl

regroup : (a b c d r : Bool) → (a && b) && (c && (d && r)) ≡ ((a && c) && (b && d)) && r
regroup true true true d r = refl
regroup true true false d r = refl
regroup true false true d r = refl
regroup true false false d r = refl
regroup false b c d r = refl

pub visible_turn : (xs : List ℕ) (i low high : ℕ) → i < length xs → VisibleFrom xs i low high
    → VisibleFrom xs (i + 1) (min low (get_or xs i 0)) (max high (get_or xs i 0))
unfolding VisibleFrom visible
visible_turn xs i low high h v =
    let x = get_or xs i 0 in
    rw (v, drop-cons xs i 0 h, add-one i, above_min low x 32, below_max high x 126)
    (regroup (leb 32 low) (leb high 126) (leb 32 x) (leb x 126) _)

kept : (a b : Bool) → (a && b) && true ≡ a && b
kept true true = refl
kept true false = refl
kept false b = refl

visible_all : (xs : List ℕ) (i low high : ℕ) → length xs ≤ i → VisibleFrom xs i low high
    → visible xs ≡ leb 32 low && leb high 126
unfolding VisibleFrom visible
visible_all xs i low high h v = rw (v, drop_all i xs h) (kept (leb 32 low) (leb high 126))

pub visible_not : (xs : List ℕ) (i low high : ℕ) → length xs ≤ i → VisibleFrom xs i low high → low < 32
    → false ≡ visible xs
visible_not xs i low high h v l = rw (visible_all xs i low high h v, lt-leb 32 low l) refl

pub visible_by : (xs : List ℕ) (i low high : ℕ) → length xs ≤ i → VisibleFrom xs i low high → 32 ≤ low
    → leb high 126 ≡ visible xs
visible_by xs i low high h v l = rw (visible_all xs i low high h v, le-leb 32 low l) refl
