-- What `all` and `max` find of a range of items: `every`, `ascending` and `greatest` of the definitions.
-- Assumes nothing.
use mathlib.Core.Path.{◌≡◌, refl, ap, ◌∙◌}
use mathlib.Core.Bool.{Bool, true, false, ◌&&◌}
use Prim.Native.Nat.{ℕ, zero, suc, ◌+◌, ◌-◌, max}
use native.Mathlib.Omega.{arith}
use Rattle.std.proofs.Common.{add-one}
use Rattle.x696.specs.Outcome.{choose}
use denote.Param.Members.{Mut}
use Rattle.std.proofs.lemmas.Iterator.{YieldsList-from_range}
use Rattle.std.proofs.lemmas.Iterator.Search.{all_from_yields_List}
use Rattle.std.proofs.iter.Yields.{nat_range_steps}
use Rattle.std.specs.Fn.{Called}
use Rattle.std.specs.Iterator.{ChecksAll}
use Rattle.std.specs.List.{list_all, range_with_len, fold, reduce}
use Rattle.std.specs.Option.{unwrap_or}
use mathlib.Core.List.{map}
use Rattle.std.specs.declared.ops.Range.{Range}
use Rattle.x696.specs.TableCheck.{given, every, ascending, greatest}

-- a test, and only if it holds the next one
and_given : (t u : Bool) → t && u ≡ given t λ _. u
unfolding given choose
and_given true u = refl
and_given false u = refl

-- every, as `all` of a range asks it
all_every : (f : ℕ → Bool) (first n : ℕ) → list_all f (range_with_len first n) ≡ every f first n
unfolding every
all_every f first zero = refl
all_every f first (suc n) = rw (add-one, all_every f (suc first) n) (and_given _ _)

-- ascending, as `all` of a range asks it: each place but the first, with the one before it
module _ (before : ℕ → ℕ → Bool) where
  all_next : (x y n : ℕ) → y ≡ suc x → every (λ i. before (i - 1) i) y n ≡ ascending before x (suc n)
  unfolding every ascending
  all_next x y zero e = refl
  all_next x y (suc n) e = let p : y - 1 ≡ x = omega arith in rw (p, all_next (suc x) (suc y) n (ap suc e), e)

  all_ascend : (first n : ℕ) → every (λ i. before (i - 1) i) (first + 1) (n - 1) ≡ ascending before first n
  unfolding every ascending
  all_ascend first zero = refl
  all_ascend first (suc n) = let p : suc n - 1 ≡ n = omega arith in rw p (all_next first _ n (add-one first))

-- what `all` of a range finds, where its closure tells of place x whether `test x`
module _ {F : Type 0} {g : Mut F (ℕ × Unit {0}) Bool} {s u : Range ℕ} {f : F} {r : Bool} where
  pub every_of : (test : ℕ → Bool) (first n : ℕ) → s ≡ record { start = first; end = first + n }
      → ChecksAll nat_range_steps g s f r u → ((x : ℕ) (t : Bool) (q : F) → Called g f (x, tt) t q → (q ≡ f) × (t ≡ test x))
      → r ≡ every test first n
  every_of test first n is ran k =
      all_from_yields_List test u f r ran (YieldsList-from_range _ _ n is (omega arith)) k ∙ all_every test first n

  pub ascending_of : (before : ℕ → ℕ → Bool) (first n : ℕ) → s ≡ record { start = first + 1; end = first + n }
      → ChecksAll nat_range_steps g s f r u
      → ((x : ℕ) (t : Bool) (q : F) → Called g f (x, tt) t q → (q ≡ f) × (t ≡ before (x - 1) x)) → r ≡ ascending before first n
  ascending_of before first n is ran k =
      all_from_yields_List (λ i. before (i - 1) i) u f r ran (YieldsList-from_range _ _ (n - 1) is (omega arith)) k
      ∙ (all_every _ _ _ ∙ all_ascend before first n)

-- greatest, as `max` of what a closure gives at each place of a range
module _ (f : ℕ → ℕ) where
  fold_greatest : (x first n : ℕ) → fold max x (map f (range_with_len first n)) ≡ max x (greatest f first n)
  unfolding greatest
  fold_greatest x first zero = omega arith
  fold_greatest x first (suc n) = rw (fold_greatest (max x (f first)) (first + 1) n, add-one) (omega arith)

  pub greatest_max : (first n : ℕ) → unwrap_or (reduce max (map f (range_with_len first n))) 0 ≡ greatest f first n
  unfolding greatest
  greatest_max first zero = refl
  greatest_max first (suc n) = rw (fold_greatest (f first) (first + 1) n, add-one)
