-- Two paths are apart exactly if neither begins the other; then one of them is ahead.
-- Assumes nothing.
use Rattle.std.specs.Prelude.{◌≡◌, refl, ◌≢◌, ◌⊎◌, ◌↔◌, List, [], ◌∷◌, ℕ, ◌<◌, ◌≤◌, eqb}
use Rattle.std.proofs.Common.{ap, inl, inr, ⊎_elim, arith, eqb-true}
use Rattle.std.proofs.lemmas.Bool.{eqb-false}
use Rattle.x696.proofs.OutcomeLaws.{cases, cases_lt}
use Rattle.x696.specs.Apart.{Apart, parting, alongside}
use Rattle.x696.specs.PathOrder.{Begins, Ahead, sooner, together}

unbegun_apart : (p q : List ℕ) → (Begins p q → ⊥) → (Begins q p → ⊥) → Apart p q
unbegun_apart [] q h g = absurd (h (q, refl))
unbegun_apart (i ∷ p) [] h g = absurd (g (i ∷ p, refl))
unbegun_apart (i ∷ p) (j ∷ q) h g =
    cases (eqb i j)
    (λ e.
    let same = eqb-true i j e in
    rw (← same) (alongside (unbegun_apart p q
    (λ b. h (b.0, rw (← same) (ap (λ r. i ∷ r) b.1)))
    (λ b. g (b.0, rw (← same) (ap (λ r. i ∷ r) b.1))))))
    (λ e. parting (eqb-false i j e))

apart_unbegun : {p q : List ℕ} → Apart p q → (Begins p q → ⊥) × (Begins q p → ⊥)
apart_unbegun (parting h) = ((λ b. h (cc b.1)), λ b. h (cc b.1))
apart_unbegun (alongside a) =
    let (h, g) = apart_unbegun a in
    ((λ b. h (b.0, cc b.1)), λ b. g (b.0, cc b.1))

-- any path to a component that neither holds the one at p nor lies in it
pub apart_iff : (p q : List ℕ) → Apart p q ↔ ((Begins p q → ⊥) × (Begins q p → ⊥))
apart_iff p q = (apart_unbegun, λ h. unbegun_apart p q h.0 h.1)

differs_lt : {i j : ℕ} → i ≢ j → j ≤ i → j < i
differs_lt h l = omega arith

lt_differs : {i j : ℕ} → i < j → i ≡ j → ⊥
lt_differs l e = omega arith

pub apart_ahead : {p q : List ℕ} → Apart p q → Ahead p q ⊎ Ahead q p
apart_ahead (parting {i = i} {j = j} h) =
    cases_lt i j (λ e l. inl (sooner l)) (λ e l. inr (sooner (differs_lt h l)))
apart_ahead (alongside a) = ⊎_elim (λ h. inl (together h)) (λ h. inr (together h)) (apart_ahead a)

pub ahead_apart : {p q : List ℕ} → Ahead p q → Apart p q
ahead_apart (sooner h) = parting (lt_differs h)
ahead_apart (together h) = alongside (ahead_apart h)
