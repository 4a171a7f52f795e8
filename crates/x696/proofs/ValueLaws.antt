-- `same` is equality of values.
-- Assumes nothing.
use Rattle.std.specs.Prelude.{◌≡◌, refl, true, List, [], ◌∷◌, ℕ, eqb}
use Rattle.std.proofs.Common.{eqb-true, eq-eqb}
use Rattle.x696.proofs.OutcomeLaws.{and_both}
use Rattle.x696.specs.Value.{Val, node, Vals, no_values, value, same_octets, same, sames}

pub same_octets_refl : (s : List ℕ) → same_octets s s ≡ true
unfolding same_octets
same_octets_refl [] = refl
same_octets_refl (x ∷ xs) = rw (eq-eqb x x refl, same_octets_refl xs)

pub same_octets_eq : (s t : List ℕ) → same_octets s t ≡ true → s ≡ t
unfolding same_octets
same_octets_eq [] [] e = refl
same_octets_eq [] (y ∷ ys) e = cc
same_octets_eq (x ∷ xs) [] e = cc
same_octets_eq (x ∷ xs) (y ∷ ys) e =
    let (p, q) = and_both (eqb x y) (same_octets xs ys) e in cc (eqb-true x y p, same_octets_eq xs ys q)

mutual
  unfolding same

  pub same_refl : (v : Val) → same v v ≡ true
  same_refl (node k n os vs) = rw (eq-eqb k k refl, eq-eqb n n refl, same_octets_refl os, sames_refl vs)

  sames_refl : (vs : Vals) → sames vs vs ≡ true
  sames_refl no_values = refl
  sames_refl (value v vs) = rw (same_refl v, sames_refl vs)

mutual
  unfolding same

  pub same_eq : (v w : Val) → same v w ≡ true → v ≡ w
  same_eq (node k n os vs) (node k' n' os' vs') e =
      let (a, b) = and_both (eqb k k') _ e in
      let (c, d) = and_both (eqb n n') _ b in
      let (f, g) = and_both (same_octets os os') _ d in
      cc (eqb-true k k' a, eqb-true n n' c, same_octets_eq os os' f, sames_eq vs vs' g)

  sames_eq : (vs ws : Vals) → sames vs ws ≡ true → vs ≡ ws
  sames_eq no_values no_values e = refl
  sames_eq no_values (value w ws) e = cc
  sames_eq (value v vs) no_values e = cc
  sames_eq (value v vs) (value w ws) e =
      let (a, b) = and_both (same v w) (sames vs ws) e in cc (same_eq v w a, sames_eq vs ws b)
