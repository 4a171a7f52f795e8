-- Values of a group one after another: those before one, that one, and those behind it; where it then stands.
-- Assumes nothing.
use mathlib.Core.Path.{◌≡◌, refl, ap, sym, ◌∙◌}
use mathlib.Core.List.{List, [], ◌∷◌, ◌++◌, append_assoc}
use Prim.Native.Nat.{ℕ, zero, suc, ◌+◌, ◌-◌, ◌/◌, ◌%◌, ◌^◌, ◌<◌, ◌≤◌}
use native.Mathlib.Omega.{arith}
use native.Mathlib.Nat.{add-zero, sub-zero}
use lib.ListN.{get_or}
use Rattle.x696.specs.Outcome.{Outcome, refused, got, next}
use Rattle.x696.proofs.OutcomeLaws.{next_inv, refused_never}
use Rattle.x696.specs.Digits.{Below}
use Rattle.x696.proofs.DigitsLaws.{below_split}
use Rattle.x696.specs.Value.{Val, Vals, no_values, value, value_count}
use Rattle.x696.specs.Types.{Ty, presence_count, mark_count}
use Rattle.x696.specs.Encode.{each, encode, encode_components, own_octets}
use Rattle.x696.specs.Read.{Message, times, read, read_component}
use Rattle.x696.proofs.Sound.{ComponentReadAs, component_sound_lem, sound}
use Rattle.x696.specs.Path.{child, component_at, element_at, components_before, elements_before}
use Rattle.x696.specs.PresencePlace.{marks_before}
use Rattle.x696.specs.Operations.{node_limit}
use Rattle.x696.specs.Table.{component_row, component_mark, component_default, items_from, components_from, type_of}
use Rattle.octets.specs.Presence.{bit_at}
use Rattle.octets.proofs.Answered.{next_refused, next_got}
use Rattle.reading.specs.Members.{member_row, member_mark, member_at, members}
use Rattle.finding.specs.Passing.{components_at}

-- ---- outcomes
next_stop {ℓ} : {S T A B : Type 0} (o : Outcome S A) (k : A → S → Outcome T B) {n p : ℕ} {X : Type ℓ}
    → next o k ≡ refused n p → (o ≡ refused n p → X)
    → ((a : A) (s : S) → o ≡ got a s → k a s ≡ refused n p → X) → X
unfolding next
next_stop (refused n p) k e f g = f (cc)
next_stop (got a s) k e f g = g a s refl e

unfoldable pub append : Vals → Vals → Vals
append no_values bs = bs
append (value v us) bs = value v (append us bs)

-- values behind others
unfoldable pub joined : Vals → Outcome Message Vals → Outcome Message Vals
joined us o = next o λ bs s. got (append us bs) s

joined_none : (o : Outcome Message Vals) → o ≡ joined no_values o
unfolding joined next append
joined_none (refused n p) = refl
joined_none (got bs s) = refl

joined_value : (v : Val) (us : Vals) (o : Outcome Message Vals)
    → (next (joined us o) λ vs s. got (value v vs) s) ≡ joined (value v us) o
unfolding joined next append
joined_value v us (refused n p) = refl
joined_value v us (got bs s) = refl

-- ---- components of a SEQUENCE
pub presence_few : (m : ℕ) → presence_count m ≤ 1
unfolding presence_count
presence_few zero = omega arith
presence_few (suc m) = omega arith

pub component_own : (m d : ℕ) (t : Ty) (x end : ℕ) (s : Message) {v : Val} {r : Message} → x < 2 → Below 8 s.octets
    → read_component node_limit m d t x end s ≡ got v r
    → ComponentReadAs node_limit m d t (x ∷ []) s.octets s.count v r
unfolding read_component
component_own m d t x end s h b e =
    component_sound_lem node_limit m d t (λ s. read node_limit t end s) (λ s v r b e. sound node_limit t end s b e)
    (x ∷ []) end s
    b (h, tt) (presence_few m) e

pub bit_small : (msg : List ℕ) (pre b : ℕ) → bit_at msg pre b < 2
unfolding bit_at
bit_small msg pre b = let n = get_or msg (pre + b / 8) 0 / 2 ^ (7 - b % 8) in omega arith

module _ (rows items msg : List ℕ) (pre : ℕ) where
  abbrev T : ℕ → Ty
  T = λ k. type_of rows items k

  abbrev pub marks_of : (first n : ℕ) → ℕ
  marks_of first n = mark_count (components_from T items first n)

  pub components_stop : (i n b g : ℕ) (s : Message) {k q : ℕ} → i ≤ n
      → components_at rows items msg pre b g i s ≡ refused k q → components_at rows items msg pre b g n s ≡ refused k q
  unfolding members member_at member_mark member_row
  components_stop zero n b g s h e = absurd (refused_never (sym e))
  components_stop (suc i) zero b g s h e = absurd (omega arith)
  components_stop (suc i) (suc n) b g s h e =
      next_stop _ _ e (λ f. next_refused _ f) λ v r was then.
      next_stop _ _ then
      (λ f. next_got _ was ∙ next_refused _ (components_stop i n _ (suc g) r (omega arith) f))
      λ vs r₂ was' then'. absurd (refused_never (sym then'))

  pub components_many : (i b g : ℕ) (s : Message) {us : Vals} {r : Message}
      → components_at rows items msg pre b g i s ≡ got us r → value_count us ≡ i
  unfolding members member_at member_mark member_row value_count
  components_many zero b g s {us} e = let q : no_values ≡ us = cc in rw (← q) refl
  components_many (suc i) b g s {us} e =
      next_inv _ _ e λ v r₁ was then.
      next_inv _ _ then λ ws r₂ was' then'.
      let q : value v ws ≡ us = cc in
      rw (← q) (ap suc (components_many i _ (suc g) r₁ was'))

  pub components_split : (i n b g : ℕ) (s : Message) {us : Vals} {r : Message} → i ≤ n
      → components_at rows items msg pre b g i s ≡ got us r
      → components_at rows items msg pre b g n s
      ≡ joined us (components_at rows items msg pre (b + marks_of g i) (g + i) (n - i) r)
  unfolding members member_at member_mark member_row items_from mark_count
  components_split zero n b g s {us} {r} h e =
      let q : no_values ≡ us = cc in
      let qr : s ≡ r = cc in
      rw (← q, ← qr, add-zero b, add-zero g, sub-zero n) (joined_none _)
  components_split (suc i) zero b g s h e = absurd (omega arith)
  components_split (suc i) (suc n) b g s {us} {r} h e =
      next_inv _ _ e λ v r₁ was then.
      next_inv _ _ then λ ws r₂ was' then'.
      let q : value v ws ≡ us = cc in
      let qr : r₂ ≡ r = cc in
      let one = presence_count (component_mark items g) in
      let later : components_at rows items msg pre (b + one) (suc g) n r₁
      ≡ joined ws (components_at rows items msg pre (b + one + marks_of (suc g) i) (suc g + i) (n - i) r₂)
      = components_split i n (b + one) (suc g) r₁ (omega arith) was' in
      let eb : b + one + marks_of (suc g) i ≡ b + (one + marks_of (suc g) i) = omega arith in
      let eg : suc g + i ≡ g + suc i = omega arith in
      let en : suc n - suc i ≡ n - i = omega arith in
      next_got _ was
      ∙ ap (λ o. next o λ vs s. got (value v vs) s) later
      ∙ joined_value v ws _
      ∙ rw (eb, eg, en, ← q, ← qr) refl

  pub components_octets : (i b g : ℕ) (s : Message) {us : Vals} {r : Message} → Below 8 s.octets
      → components_at rows items msg pre b g i s ≡ got us r
      → s.octets ≡ encode_components (components_from T items g i) us ++ r.octets
  unfolding members member_at member_mark member_row items_from encode_components own_octets
  components_octets zero b g s {us} {r} below e = let qr : s ≡ r = cc in rw (← qr) refl
  components_octets (suc i) b g s {us} {r} below e =
      next_inv _ _ e λ v r₁ was then.
      next_inv _ _ then λ ws r₂ was' then'.
      let q : value v ws ≡ us = cc in
      let qr : r₂ ≡ r = cc in
      let m = component_mark items g in
      let d = component_default items g in
      let t = type_of rows items (component_row items g) in
      let a = component_own m d t _ _ s (bit_small msg pre b) below was in
      let rest = components_octets i _ (suc g) r₁ (below_split 8 (own_octets m d t v) r₁.octets below
      a.from).1 was' in
      rw (← q, ← qr)
      (cc (
        a.from,
        rest,
        append_assoc (own_octets m d t v) (encode_components (components_from T items (suc g) i) ws)
            r₂.octets,
      ))

  -- where the component after i others stands
  pub component_at_lem : (i n g : ℕ) (us : Vals) (x : Val) (bs : Vals) → value_count us ≡ i → i < n
      → component_at (components_from T items g n) (append us (value x bs)) i
      ≡ child (component_mark items (g + i)) (component_default items (g + i)) (type_of rows items (component_row items
      (g + i))) x
  unfolding component_at items_from append value_count
  component_at_lem i zero g us x bs e h = absurd (omega arith)
  component_at_lem zero (suc n) g no_values x bs e h = rw (add-zero g) refl
  component_at_lem zero (suc n) g (value v us) x bs e h = absurd (omega arith)
  component_at_lem (suc i) (suc n) g no_values x bs e h = absurd (omega arith)
  component_at_lem (suc i) (suc n) g (value v us) x bs e h =
      let k : g + suc i ≡ suc g + i = omega arith in
      rw k (component_at_lem i n (suc g) us x bs (omega arith) (omega arith))

  pub components_before_lem : (i n g : ℕ) (us : Vals) (x : Val) (bs : Vals) → value_count us ≡ i → i < n
      → components_before (components_from T items g n) (append us (value x bs)) i
      ≡ encode_components (components_from T items g i) us
  unfolding components_before encode_components items_from append value_count own_octets
  components_before_lem i zero g us x bs e h = absurd (omega arith)
  components_before_lem zero (suc n) g no_values x bs e h = refl
  components_before_lem zero (suc n) g (value v us) x bs e h = absurd (omega arith)
  components_before_lem (suc i) (suc n) g no_values x bs e h = absurd (omega arith)
  components_before_lem (suc i) (suc n) g (value v us) x bs e h =
      rw (components_before_lem i n (suc g) us x bs (omega arith) (omega arith)) refl

  pub marks_before_lem : (i n g : ℕ) → i ≤ n → marks_before (components_from T items g n) i ≡ marks_of g i
  unfolding marks_before mark_count items_from
  marks_before_lem zero zero g h = refl
  marks_before_lem zero (suc n) g h = refl
  marks_before_lem (suc i) zero g h = absurd (omega arith)
  marks_before_lem (suc i) (suc n) g h = rw (marks_before_lem i n (suc g) (omega arith)) refl

-- ---- elements of a SEQUENCE OF
module _ (f : Message → Outcome Message Val) where
  pub elements_stop : (i n : ℕ) (s : Message) {k q : ℕ} → i ≤ n → times f i s ≡ refused k q → times f n s ≡ refused k q
  unfolding times
  elements_stop zero n s h e = absurd (refused_never (sym e))
  elements_stop (suc i) zero s h e = absurd (omega arith)
  elements_stop (suc i) (suc n) s h e =
      next_stop _ _ e (λ g. next_refused _ g) λ v r was then.
      next_stop _ _ then
      (λ g. next_got _ was ∙ next_refused _ (elements_stop i n r (omega arith) g))
      λ vs r₂ was' then'. absurd (refused_never (sym then'))

  pub elements_many : (i : ℕ) (s : Message) {us : Vals} {r : Message} → times f i s ≡ got us r → value_count us ≡ i
  unfolding times value_count
  elements_many zero s {us} e = let q : no_values ≡ us = cc in rw (← q) refl
  elements_many (suc i) s {us} e =
      next_inv _ _ e λ v r₁ was then.
      next_inv _ _ then λ ws r₂ was' then'.
      let q : value v ws ≡ us = cc in
      rw (← q) (ap suc (elements_many i r₁ was'))

  pub elements_split : (i n : ℕ) (s : Message) {us : Vals} {r : Message} → i ≤ n → times f i s ≡ got us r
      → times f n s ≡ joined us (times f (n - i) r)
  unfolding times
  elements_split zero n s {us} {r} h e =
      let q : no_values ≡ us = cc in
      let qr : s ≡ r = cc in
      rw (← q, ← qr, sub-zero n) (joined_none _)
  elements_split (suc i) zero s h e = absurd (omega arith)
  elements_split (suc i) (suc n) s {us} {r} h e =
      next_inv _ _ e λ v r₁ was then.
      next_inv _ _ then λ ws r₂ was' then'.
      let q : value v ws ≡ us = cc in
      let qr : r₂ ≡ r = cc in
      let en : suc n - suc i ≡ n - i = omega arith in
      next_got _ was
      ∙ ap (λ o. next o λ vs s. got (value v vs) s) (elements_split i n r₁ (omega arith) was')
      ∙ joined_value v ws _
      ∙ rw (en, ← q, ← qr) refl

module _ (t : Ty) (end : ℕ) where
  pub elements_octets : (i : ℕ) (s : Message) {us : Vals} {r : Message} → Below 8 s.octets
      → times (λ s. read node_limit t end s) i s ≡ got us r → s.octets ≡ each (λ v. encode t v) us ++ r.octets
  unfolding times each
  elements_octets zero s {us} {r} below e =
      let q : no_values ≡ us = cc in
      let qr : s ≡ r = cc in
      rw (← q, ← qr) refl
  elements_octets (suc i) s {us} {r} below e =
      next_inv _ _ e λ v r₁ was then.
      next_inv _ _ then λ ws r₂ was' then'.
      let q : value v ws ≡ us = cc in
      let qr : r₂ ≡ r = cc in
      let a = sound node_limit t end s below was in
      let rest = elements_octets i r₁ (below_split 8 (encode t v) r₁.octets below a.from).1 was' in
      rw (← q, ← qr) (cc (a.from, rest, append_assoc (encode t v) (each (λ v. encode t v) ws) r₂.octets))

module _ (t : Ty) where
  pub element_at_lem : (us : Vals) (i : ℕ) (x : Val) (bs : Vals) → value_count us ≡ i
      → element_at t (append us (value x bs)) i ≡ child 0 0 t x
  unfolding element_at append value_count
  element_at_lem no_values zero x bs e = refl
  element_at_lem no_values (suc i) x bs e = absurd (omega arith)
  element_at_lem (value v us) zero x bs e = absurd (omega arith)
  element_at_lem (value v us) (suc i) x bs e = element_at_lem us i x bs (omega arith)

  pub elements_before_lem : (us : Vals) (i : ℕ) (x : Val) (bs : Vals) → value_count us ≡ i
      → elements_before t (append us (value x bs)) i ≡ each (λ v. encode t v) us
  unfolding elements_before each append value_count
  elements_before_lem no_values zero x bs e = refl
  elements_before_lem no_values (suc i) x bs e = absurd (omega arith)
  elements_before_lem (value v us) zero x bs e = absurd (omega arith)
  elements_before_lem (value v us) (suc i) x bs e = rw (elements_before_lem us i x bs (omega arith)) refl
