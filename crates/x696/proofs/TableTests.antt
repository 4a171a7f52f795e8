-- What the tests of a table's check tell: of each item in a range, and of any two items in an ascending one.
-- Assumes nothing.
use Rattle.std.specs.Prelude.{◌≡◌, refl, Bool, true, false}
use Rattle.std.proofs.lemmas.Bool.{false≢true}
use Prim.Native.Nat.{ℕ, zero, suc, ◌+◌, ◌<◌}
use Rattle.std.proofs.Common.{arith, add-zero, add-suc, not-suc-le-zero}
use Rattle.x696.specs.Outcome.{choose}
use Rattle.x696.proofs.OutcomeLaws.{cases_lt}
use Rattle.x696.specs.SoundTable.{Each}
use Rattle.x696.specs.TableCheck.{given, every, ascending}

pub given_inv {ℓ} : (t : Bool) (more : Unit {0} → Bool) {X : Type ℓ} → given t more ≡ true
    → (t ≡ true → more tt ≡ true → X) → X
unfolding given choose
given_inv true more e f = f refl e
given_inv false more e f = absurd (false≢true e)

-- what holds of n places from the first on, taken apart and put together at the first
module _ (P : ℕ → Type 0) (first n : ℕ) where
  pub each_first : Each P first (suc n) → P first
  each_first h = rw (add-zero first) at (h 0 (omega arith))

  pub each_later : Each P first (suc n) → Each P (suc first) n
  each_later h i l = let e : suc first + i ≡ first + suc i = omega arith in rw e (h (suc i) (omega arith))

  pub each_all : P first → Each P (suc first) n → Each P first (suc n)
  each_all here later zero h = rw (add-zero first) here
  each_all here later (suc i) h = let e : first + suc i ≡ suc first + i = omega arith in rw e (later i (omega arith))

pub every_at : (f : ℕ → Bool) (first n : ℕ) → every f first n ≡ true → Each (λ i. f i ≡ true) first n
unfolding every
every_at f first zero e = λ i h. absurd (not-suc-le-zero h)
every_at f first (suc n) e =
    given_inv _ _ e λ here later. each_all (λ i. f i ≡ true) first n here (every_at f (suc first) n later)

module _ (before : ℕ → ℕ → Bool) where
  abbrev BeforeNext : (i : ℕ) → Type 0
  BeforeNext i = before i (suc i) ≡ true

  ascending_next : (first n : ℕ) → ascending before first (suc n) ≡ true → Each BeforeNext first n
  unfolding ascending
  ascending_next first zero e = λ i h. absurd (not-suc-le-zero h)
  ascending_next first (suc n) e =
      given_inv _ _ e λ here later. each_all BeforeNext first n here (ascending_next (suc first) n later)

  -- where the order is transitive, neighbours in order put any two in order
  pub ascending_between : ((i j k : ℕ) → before i j ≡ true → before j k ≡ true → before i k ≡ true)
      → (first n : ℕ) → ascending before first n ≡ true
      → (i j : ℕ) → i < j → j < n → before (first + i) (first + j) ≡ true
  ascending_between trans first zero e i j h g = absurd (not-suc-le-zero g)
  ascending_between trans first (suc n) e i zero h g = absurd (not-suc-le-zero h)
  ascending_between trans first (suc n) e i (suc j) h g =
      let last = ascending_next first n e j (omega arith) in
      rw (add-suc first j)
      (cases_lt i j
      (λ _ l. trans _ _ _ (ascending_between trans first (suc n) e i j l (omega arith)) last)
      (λ _ l. let same : i ≡ j = omega arith in rw same last))
