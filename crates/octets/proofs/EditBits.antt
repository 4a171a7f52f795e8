-- An edit in the octets before the component: they stay, but for one bit of one octet, the component's presence bit.
-- It is bit `bit_number` of the preamble that begins behind `preamble_start` octets.
-- Assumes nothing.
use mathlib.Core.Path.{◌≡◌, refl, ap, sym, ◌∙◌}
use mathlib.Core.Bool.{Bool, not}
use mathlib.Core.List.{List, [], ◌∷◌, ◌++◌, append-nil}
use Prim.Native.Nat.{ℕ, zero, suc, ◌+◌, ◌/◌, ◌<◌}
use native.Mathlib.Nat.{zero-add, add_assoc}
use native.Mathlib.Omega.{arith}
use lib.ListN.{length, set, take, drop, length-append, get_or-append}
use lib.Seq.{set-append_left, get_or-append-add}
use Rattle.x696.specs.Digits.{Below}
use Rattle.x696.proofs.DigitsLaws.{below_parts}
use Rattle.x696.specs.Bits.{preamble}
use Rattle.x696.proofs.BitsLaws.{preamble_length}
use Rattle.x696.specs.Value.{Val, Vals, no_values, value, only, same}
use Rattle.x696.specs.Types.{Ty, Items, no_items, item, mark_count, missing}
use Rattle.x696.specs.Fits.{Fits, leaf_fits, sequence_fits, sequence_of_fits, choice_fits}
use Rattle.x696.specs.Fits.{FitsComponent, plain, FitComponents}
use Rattle.x696.specs.Encode.{bit, presence_bits, presence, encode, own_octets}
use Rattle.x696.specs.Path.{child, component_at, element_at, alternative_at, child_at, found, find_from, find}
use Rattle.x696.specs.Path.{replace_at, replace_child, child_value, replace, components_before, child_before, octets_before}
use Rattle.x696.specs.PresencePlace.{marks_before, bits_before, preamble_start, bit_number}
use Rattle.x696.proofs.Complete.{bit_lt, presence_length, presence_bits_lem}
use Rattle.x696.proofs.ChildLaws.{no_component_lem, child_value_lem, child_replaced}
use Rattle.x696.proofs.ChildFits.{with_child_fits, child_fits}
use Rattle.x696.proofs.ChildOctets.{bits_hold, with_child_bits}
use Rattle.x696.proofs.PathLaws.{same_found, step_inv}
use Rattle.x696.proofs.BeforeLaws.{components_before_kept, presence_same, child_before_kept}
use Rattle.x696.proofs.BeforeLaws.{before_step, start_step, number_step, before_kept}
use Rattle.x696.proofs.Locality.{before_part, spliced}
use Rattle.octets.specs.Presence.{set_bit}
use Rattle.octets.proofs.PresenceBits.{preamble_set}

set_append_add : (xs ys : List ℕ) (n a : ℕ) → set (xs ++ ys) (length xs + n) a ≡ xs ++ set ys n a
set_append_add [] ys n a = ap (λ k. set ys k a) (zero-add n)
set_append_add (x ∷ xs) ys n a =
    let e : length (x ∷ xs) + n ≡ suc (length xs + n) = omega arith in
    rw e (ap (λ l. x ∷ l) (set_append_add xs ys n a))

-- in the back of a list, and in its front
set_bit_behind : (xs ys : List ℕ) (pre b : ℕ) (x : Bool)
    → set_bit (xs ++ ys) (length xs + pre) b x ≡ xs ++ set_bit ys pre b x
unfolding set_bit
set_bit_behind xs ys pre b x =
    rw (add_assoc (length xs) pre (b / 8), get_or-append-add xs ys (pre + b / 8) 0, set_append_add xs ys (pre + b / 8) _)

pub set_bit_front : (xs ys : List ℕ) (pre b : ℕ) (x : Bool) → pre + b / 8 < length xs
    → set_bit (xs ++ ys) pre b x ≡ set_bit xs pre b x ++ ys
unfolding set_bit
set_bit_front xs ys pre b x h =
    rw (get_or-append xs ys 0 (pre + b / 8) h, set-append_left xs ys (pre + b / 8) _ h)

-- ---- one step
element_plain : (t : Ty) (vs : Vals) (i : ℕ) {m d : ℕ} {u : Ty} {x : Val} → element_at t vs i ≡ child (suc m) d u x → ⊥
unfolding element_at
element_plain t no_values i e = no_component_lem e
element_plain t (value v vs) zero e = let z : ◌≡◌ {A = ℕ} 0 1 = cc in omega arith
element_plain t (value v vs) (suc i) e = element_plain t vs i e

alternative_plain : (is : Items) (n : ℕ) (vs : Vals) (i : ℕ) {m d : ℕ} {u : Ty} {x : Val}
    → alternative_at is n vs i ≡ child (suc m) d u x → ⊥
unfolding alternative_at
alternative_plain no_items n vs i e = no_component_lem e
alternative_plain (item a b t is) n no_values i e = no_component_lem e
alternative_plain (item a b t is) zero (value v vs) zero e = let z : ◌≡◌ {A = ℕ} 0 1 = cc in omega arith
alternative_plain (item a b t is) zero (value v vs) (suc i) e = no_component_lem e
alternative_plain (item a b t is) (suc n) (value v vs) i e = alternative_plain is n (value v vs) i e

-- a preamble with one bit changed
preamble_set_bit : (n b : ℕ) (l r : List ℕ) → Below 1 r → n ≡ length l + suc (length r) → b ≡ length l
    → (x t : Bool) → preamble n (l ++ (bit t ∷ r)) ≡ set_bit (preamble n (l ++ (bit x ∷ r))) 0 b t
unfolding set_bit
preamble_set_bit n b l r below en eb x t =
    rw (zero-add (b / 8)) (preamble_set n b l r below en eb (bit x) (bit t) t (bit_lt x) refl)

-- the presence bits of a SEQUENCE, around that of a component x, and with any other in its place
record Marked (is : Items) (vs : Vals) (i m d : ℕ) (u : Ty) (x : Val) : Type 0 where
  left : List ℕ
  right : List ℕ
  number : marks_before is i ≡ length left
  total : mark_count is ≡ length left + suc (length right)
  below : Below 1 right
  was : presence is vs ≡ left ++ (bit (not (same x (missing (suc m) d u))) ∷ right)
  held : (y : Val) → presence is (replace_at i y vs) ≡ left ++ (bit (not (same y (missing (suc m) d u))) ∷ right)

marked : {is : Items} {vs : Vals} → FitComponents is vs → (i : ℕ) {m d : ℕ} {u : Ty} {x : Val}
    → component_at is vs i ≡ child (suc m) d u x → Marked is vs i m d u x
unfolding presence_bits
marked {is} {vs} f i {x = x} e =
    let (left, number, b) = bits_hold is vs i e in
    let was = presence_same is vs i e ∙ b.held x in
    record {
      left = left;
      right = b.after;
      number = sym number;
      total = sym (presence_length f) ∙ (ap length was ∙ length-append left _);
      below = (below_parts 1 left _ (rw was at (presence_bits_lem f))).1.1;
      was = was;
      held = b.held;
    }

component_bit_inside : {is : Items} {vs : Vals} → FitComponents is vs → (i : ℕ) {m d : ℕ} {u : Ty} {x : Val}
    → component_at is vs i ≡ child (suc m) d u x
    → marks_before is i / 8 < length (preamble (mark_count is) (presence is vs))
component_bit_inside {is} {vs} f i e =
    let b = marked f i e in
    omega (arith, preamble_length (mark_count is) (presence is vs), b.total, b.number)

component_before_set : {is : Items} {vs : Vals} → FitComponents is vs → (i : ℕ) {m d : ℕ} {u : Ty} {x : Val}
    → component_at is vs i ≡ child (suc m) d u x → (y : Val)
    → preamble (mark_count is) (presence is (replace_at i y vs)) ++ components_before is (replace_at i y vs) i
    ≡ set_bit (preamble (mark_count is) (presence is vs) ++ components_before is vs i) 0 (marks_before is i)
    (not (same y (missing (suc m) d u)))
component_before_set {is} {vs} f i e y =
    let b = marked f i e in
    let inside = rw (← zero-add (marks_before is i / 8)) at (component_bit_inside f i e) in
    rw (
      components_before_kept is vs i i y (omega arith),
      b.held y,
      set_bit_front (preamble (mark_count is) (presence is vs)) (components_before is vs i) 0 (marks_before is i) _ inside,
      b.was,
    )
    (ap (λ z. z ++ components_before is vs i)
    (preamble_set_bit (mark_count is) (marks_before is i) b.left b.right b.below b.total b.number _ _))

child_bit_inside : {t : Ty} {v : Val} → Fits t v → (i : ℕ) {m d : ℕ} {u : Ty} {x : Val}
    → child_at t v i ≡ child (suc m) d u x → bits_before t i / 8 < length (child_before t v i)
unfolding child_at child_before bits_before
child_bit_inside (leaf_fits k h) i e = absurd (no_component_lem e)
child_bit_inside (sequence_fits {is = is} {vs = vs} k h) i e =
    let all = length-append (preamble (mark_count is) (presence is vs)) (components_before is vs i) in
    omega (arith, all, component_bit_inside h i e)
child_bit_inside (sequence_of_fits {t = t} {vs = vs} k l h) i e = absurd (element_plain t vs i e)
child_bit_inside (choice_fits {is = is} {n = n} {v = v} k h) i e = absurd (alternative_plain is n (only v) i e)

child_before_set : {t : Ty} {v : Val} → Fits t v → (i : ℕ) {m d : ℕ} {u : Ty} {x : Val}
    → child_at t v i ≡ child (suc m) d u x → (y : Val)
    → child_before t (replace_child i y v) i
    ≡ set_bit (child_before t v i) 0 (bits_before t i) (not (same y (missing (suc m) d u)))
unfolding child_at replace_child child_before bits_before
child_before_set (leaf_fits k h) i e y = absurd (no_component_lem e)
child_before_set (sequence_fits k h) i e y = component_before_set h i e y
child_before_set (sequence_of_fits {t = t} {vs = vs} k l h) i e y = absurd (element_plain t vs i e)
child_before_set (choice_fits {is = is} {n = n} {v = v} k h) i e y = absurd (alternative_plain is n (only v) i e)

-- ---- a path
first_bit_inside : {t : Ty} {v : Val} → Fits t v → (i : ℕ) {m d : ℕ} {u : Ty} {x : Val}
    → child_at t v i ≡ child (suc m) d u x
    → preamble_start t v (i ∷ []) + bit_number t v (i ∷ []) / 8 < length (octets_before t v (i ∷ []))
unfolding octets_before preamble_start bit_number
first_bit_inside {t} {v} f i c =
    rw (before_step t v i c [], append-nil (child_before t v i), zero-add (bits_before t i / 8)) (child_bit_inside f i c)

inner_bit_inside : (m d : ℕ) (t : Ty) (v : Val) (i : ℕ) (p : List ℕ) {m' d' : ℕ} {u : Ty} {x : Val}
    → FitsComponent m d t v → find_from m d t v (i ∷ p) ≡ found (suc m') d' u x
    → preamble_start t v (i ∷ p) + bit_number t v (i ∷ p) / 8 < length (octets_before t v (i ∷ p))
unfolding find_from
inner_bit_inside m d t v i [] f e =
    step_inv m d t v i [] e λ m₁ d₁ t₁ v₁ c q.
    let c' = same_found (λ m d u x. child_at t v i ≡ child m d u x) q c in
    first_bit_inside (with_child_fits f i c) i c'
inner_bit_inside m d t v i (j ∷ p) f e =
    step_inv m d t v i (j ∷ p) e λ m₁ d₁ t₁ v₁ c q.
    let inner = inner_bit_inside m₁ d₁ t₁ v₁ j p (child_fits (with_child_fits f i c) i c).0 q in
    let all = length-append (child_before t v i) (octets_before t₁ v₁ (j ∷ p)) in
    rw (before_step t v i c (j ∷ p), start_step t v i c j p, number_step t v i c j p) (omega (arith, inner, all))

none_before : (t : Ty) (v y : Val) (x : Bool)
    → octets_before t y [] ≡ set_bit (octets_before t v []) (preamble_start t v []) (bit_number t v []) x
unfolding octets_before set_bit
none_before t v y x = refl

first_before_set : {t : Ty} {v : Val} → Fits t v → (i : ℕ) {m d : ℕ} {u : Ty} {x : Val}
    → child_at t v i ≡ child (suc m) d u x → (y : Val)
    → octets_before t (replace_child i y v) (i ∷ [])
    ≡ set_bit (octets_before t v (i ∷ [])) (preamble_start t v (i ∷ [])) (bit_number t v (i ∷ []))
    (not (same y (missing (suc m) d u)))
unfolding octets_before preamble_start bit_number
first_before_set {t} {v} f i {x = x} c y =
    rw (
      before_step t (replace_child i y v) i (child_replaced t v i c y) [],
      before_step t v i c [],
      append-nil (child_before t (replace_child i y v) i),
      append-nil (child_before t v i),
    ) (child_before_set f i c y)

inner_before_set : (m d : ℕ) (t : Ty) (v : Val) (p : List ℕ) {m' d' : ℕ} {u : Ty} {x : Val} → FitsComponent m d t v
    → find_from m d t v p ≡ found (suc m') d' u x → (y : Val)
    → octets_before t (replace p y v) p
    ≡ set_bit (octets_before t v p) (preamble_start t v p) (bit_number t v p) (not (same y (missing (suc m') d' u)))
unfolding find_from replace
inner_before_set m d t v [] f e y = none_before t v y _
inner_before_set m d t v (i ∷ []) f e y =
    step_inv m d t v i [] e λ m₁ d₁ t₁ v₁ c q.
    let c' = same_found (λ m d u x. child_at t v i ≡ child m d u x) q c in
    first_before_set (with_child_fits f i c) i c' y
inner_before_set m d t v (i ∷ j ∷ p) {m'} {d'} {u} f e y =
    step_inv m d t v i (j ∷ p) e λ m₁ d₁ t₁ v₁ c q.
    step_inv m₁ d₁ t₁ v₁ j p q λ m₂ d₂ t₂ v₂ c₂ q₂.
    let w = replace (j ∷ p) y v₁ in
    let carried = not (same y (missing (suc m') d' u)) in
    rw (
      child_value_lem t v i c,
      before_step t (replace_child i w v) i (child_replaced t v i c w) (j ∷ p),
      before_step t v i c (j ∷ p),
      start_step t v i c j p,
      number_step t v i c j p,
      child_before_kept t v i c w (with_child_bits m₁ d₁ t₁ v₁ j c₂ (replace p y (child_value j v₁))),
      inner_before_set m₁ d₁ t₁ v₁ (j ∷ p) (child_fits (with_child_fits f i c) i c).0 q y,
    )
    (sym (set_bit_behind (child_before t v i) (octets_before t₁ v₁ (j ∷ p)) (preamble_start t₁ v₁ (j ∷ p))
    (bit_number t₁ v₁ (j ∷ p)) carried))

-- the octets before a component with a mark: its presence bit set or cleared, and no other
pub before_set : (t : Ty) (v : Val) (p : List ℕ) {m d : ℕ} {u : Ty} {x : Val} → Fits t v
    → find t v p ≡ found (suc m) d u x → (y : Val)
    → octets_before t (replace p y v) p
    ≡ set_bit (octets_before t v p) (preamble_start t v p) (bit_number t v p) (not (same y (missing (suc m) d u)))
unfolding find
before_set t v p f e y = inner_before_set 0 0 t v p (plain f) e y

-- that bit stands among them
pub before_inside : (t : Ty) (v : Val) (p : List ℕ) {m d : ℕ} {u : Ty} {x : Val} → Fits t v
    → find t v p ≡ found (suc m) d u x → preamble_start t v p + bit_number t v p / 8 < length (octets_before t v p)
unfolding find find_from
before_inside t v [] f e = let z : ◌≡◌ {A = ℕ} 0 1 = cc in absurd (omega arith)
before_inside t v (i ∷ p) f e = inner_bit_inside 0 0 t v i p (plain f) e

-- ---- the whole message s, and how an edit makes the new one of it: what stands before the component and behind it is
-- copied around the new octets, then the bit is set or cleared in place
module _ (t : Ty) (v : Val) (p : List ℕ) (s : List ℕ) (whole : s ≡ encode t v) (y : Val) where
  pub spliced_marked : {m d : ℕ} {u : Ty} {x : Val} → Fits t v → find t v p ≡ found (suc m) d u x
      → encode t (replace p y v)
      ≡ set_bit (take (length (octets_before t v p)) s
      ++ (own_octets (suc m) d u y ++ drop (length (octets_before t v p) + length (own_octets (suc m) d u x)) s))
      (preamble_start t v p) (bit_number t v p) (not (same y (missing (suc m) d u)))
  spliced_marked f e =
      rw (
        whole,
        ← before_part t v p e,
        set_bit_front (octets_before t v p) _ _ _ _ (before_inside t v p f e),
        ← before_set t v p f e y,
      ) (spliced t v p e y)

  pub spliced_kept : {m d : ℕ} {u : Ty} {x : Val} → find t v p ≡ found m d u x
      → presence_bits m d u y ≡ presence_bits m d u x
      → encode t (replace p y v)
      ≡ take (length (octets_before t v p)) s
      ++ (own_octets m d u y ++ drop (length (octets_before t v p) + length (own_octets m d u x)) s)
  spliced_kept e same_bit =
      spliced t v p e y ∙ rw (whole, before_kept t v p e y same_bit, ← before_part t v p e)
