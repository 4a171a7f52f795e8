-- Ends of a text: the whole of it is one, what is left behind its first octet, and an end of an end.
-- Assumes nothing.
use Rattle.std.proofs.Common.{◌≡◌, refl, sym, ap, ◌∙◌, List, ◌∷◌, ℕ, ◌+◌, ◌-◌, ◌≤◌, length, drop, arith}
use Rattle.std.proofs.lemmas.List.{length-drop, drop-drop}
use Rattle.cases.specs.Ends.{IsEndOf}

pub end_within : (s t : List ℕ) → IsEndOf s t → length s ≤ length t
end_within s t e = omega (arith, ap length e, length-drop (length t - length s) t)

pub end_self : (t : List ℕ) → IsEndOf t t
end_self t = let none : length t - length t ≡ 0 = omega arith in rw none refl

pub end_rest : (s : List ℕ) {x : ℕ} {r : List ℕ} → s ≡ x ∷ r → IsEndOf r s
end_rest s {x} {r} e = rw e (let one : length (x ∷ r) - length r ≡ 1 = omega arith in rw one refl)

pub end_end : (r s t : List ℕ) → IsEndOf r s → IsEndOf s t → IsEndOf r t
end_end r s t f e =
    let sum : (length t - length s) + (length s - length r) ≡ length t - length r =
    omega (arith, end_within r s f, end_within s t e) in
    f ∙ ap (drop (length s - length r)) e ∙ drop-drop (length s - length r) (length t - length s) t ∙ ap (λ n. drop n t) sum

pub end_step : (r s t : List ℕ) {x : ℕ} → (s ≡ x ∷ r) × (length r + 1 ≡ length s) → IsEndOf s t → IsEndOf r t
end_step r s t e within = end_end r s t (end_rest s e.0) within
