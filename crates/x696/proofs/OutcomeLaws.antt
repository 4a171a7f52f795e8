-- Laws of outcomes, backwards: what was read before, if the whole was read.
-- (Forwards is `rw` with `unfolding next must choose`.)
-- Each hands what it finds to a continuation, so that everything stays a variable. Then case splits on tests.
-- Assumes nothing.
use Rattle.std.proofs.Math.Path.{◌≡◌, refl}
use Rattle.std.specs.Prelude.{Bool, ◌&&◌, ◌||◌, ◌⊎◌, ℕ, ◌<◌, ◌≤◌, ltb}
use Rattle.std.proofs.Math.Bool.{true, false}
use Rattle.std.proofs.Common.{inl, inr, arith, ltb-true, ltb-false}
use Rattle.x696.specs.Outcome.{Outcome, refused, got, next, must, choose}

module _ {S T A B : Type 0} where
  pub next_inv {ℓ} : (o : Outcome S A) (k : A → S → Outcome T B) {b : B} {r : T} {X : Type ℓ} → next o k ≡ got b r
      → ((a : A) (s : S) → o ≡ got a s → k a s ≡ got b r → X) → X
  unfolding next
  next_inv (refused n p) k e f = let z : ◌≡◌ {A = ℕ} 0 1 = cc in absurd (omega arith)
  next_inv (got a s) k e f = f a s refl e

module _ {S A : Type 0} where
  pub must_inv {ℓ} : (t : Bool) (n p : ℕ) (o : Outcome S A) {a : A} {r : S} {X : Type ℓ} → must t n p o ≡ got a r
      → (t ≡ true → o ≡ got a r → X) → X
  unfolding must
  must_inv true n p o e f = f refl e
  must_inv false n p o e f = let z : ◌≡◌ {A = ℕ} 0 1 = cc in absurd (omega arith)

  -- a refusal is no reading
  pub refused_never : {n p : ℕ} {a : A} {r : S} → ◌≡◌ {A = Outcome S A} (refused n p) (got a r) → ⊥
  refused_never e = let z : ◌≡◌ {A = ℕ} 0 1 = cc in omega arith

pub choose_inv {ℓ} : {A : Type 0} (t : Bool) (x y : Unit {0} → A) {w : A} {X : Type ℓ} → choose t x y ≡ w
    → (t ≡ true → x tt ≡ w → X) → (t ≡ false → y tt ≡ w → X) → X
unfolding choose
choose_inv true x y e f g = f refl e
choose_inv false x y e f g = g refl e

-- which way a test goes, with what it tells
pub cases {ℓ} : (t : Bool) {X : Type ℓ} → (t ≡ true → X) → (t ≡ false → X) → X
cases true f g = f refl
cases false f g = g refl

pub cases_lt {ℓ} : (a b : ℕ) {X : Type ℓ} → (ltb a b ≡ true → a < b → X) → (ltb a b ≡ false → b ≤ a → X) → X
cases_lt a b f g = cases (ltb a b) (λ e. f e (ltb-true a b e)) (λ e. g e (ltb-false a b e))

pub and_both : (a b : Bool) → a && b ≡ true → (a ≡ true) × (b ≡ true)
and_both true b e = (refl, e)
and_both false b e = let z : ◌≡◌ {A = ℕ} 0 1 = cc in absurd (omega arith)

pub or_either : (a b : Bool) → a || b ≡ true → (a ≡ true) ⊎ (b ≡ true)
or_either true b e = inl refl
or_either false b e = inr e
