-- `encode` writes octets: each is below 256.
-- A length has to be below 2 ^ 64 (document 01 stops at 65,535 octets); tag classes are 0 to 3 (a well_formed type).
-- Assumes nothing.
use Rattle.std.specs.Prelude.{Bool, true, false, List, [], ◌∷◌, ◌++◌, ℕ, suc, ◌^◌, ◌<◌, length}
use Rattle.std.proofs.Common.{arith, length-append}
use Rattle.x696.specs.Outcome.{choose}
use Rattle.x696.proofs.OutcomeLaws.{cases_lt}
use Rattle.x696.specs.Digits.{digits, Below}
use Rattle.x696.proofs.DigitsLaws.{digits_below, below_append}
use Rattle.x696.specs.Fewest.{fewest, unsigned_octets, fewest_signed, signed_octets}
use Rattle.x696.proofs.FewestLaws.{fewest_least}
use Rattle.x696.proofs.SignedLaws.{fewest_signed_le}
use Rattle.x696.specs.Length.{length_octets}
use Rattle.x696.specs.Variable.{variable_unsigned, variable_signed}
use Rattle.x696.specs.Tag.{tag, group_octets, tag_octets}
use Rattle.x696.specs.Bits.{bit_octets, unused_bits, preamble}
use Rattle.x696.specs.Integer.{Form, fixed_unsigned, fixed_signed, any_unsigned, any_signed, integer_form, form_octets}
use Rattle.x696.specs.Enumerated.{enumerated_octets}
use Rattle.x696.specs.Real.{real_octets}
use Rattle.x696.specs.String.{fixed_size, text_octets, bit_string_octets}
use Rattle.x696.specs.Value.{Val, Vals, only}
use Rattle.x696.specs.Leaf.{Leaf, LeafFits, boolean_fits, null_fits, integer_fits, enumerated_fits, real_fits}
use Rattle.x696.specs.Leaf.{octets_fit, visible_fits, bits_fit, encode_leaf}
use Rattle.x696.specs.Types.{Ty, Items, mark_count, missing}
use Rattle.x696.specs.Fits.{Fits, leaf_fits, sequence_fits, sequence_of_fits, choice_fits, FitsComponent, plain}
use Rattle.x696.specs.Fits.{carried, left_out, FitComponents, no_components, component, FitAll, no_elements}
use Rattle.x696.specs.Fits.{element, FitsAlternative, this, later}
use Rattle.x696.specs.Encode.{presence, carried_octets, each, encode, encode_components, encode_alternative}
use Rattle.x696.specs.WellFormed.{WellFormed, WellFormedComponents, WellFormedAlternatives}
use Rattle.x696.proofs.ValueLaws.{same_refl}

length_octets_lem : (n : ℕ) → n < 2 ^ 64 → Below 8 (length_octets n)
unfolding length_octets choose unsigned_octets
length_octets_lem n h =
    cases_lt n 128
    (λ e l. rw e (omega arith, tt))
    (λ e l. rw e (omega (arith, fewest_least 8 n 7 h), digits_below 8 (fewest 8 n) n))

unsigned_octets_lem : (n : ℕ) → n < 2 ^ 64 → Below 8 (variable_unsigned n)
unfolding variable_unsigned unsigned_octets
unsigned_octets_lem n h =
    below_append 8 (length_octets (fewest 8 n)) _
    (length_octets_lem (fewest 8 n) (omega (arith, fewest_least 8 n 7 h))) (digits_below 8 (fewest 8 n) n)

signed_octets_lem : (w : ℕ) → w < 2 ^ 64 → Below 8 (variable_signed w)
unfolding variable_signed signed_octets
signed_octets_lem w h =
    below_append 8 (length_octets (fewest_signed w)) _
    (length_octets_lem (fewest_signed w) (omega (arith, fewest_signed_le w h))) (digits_below 8 (fewest_signed w) w)

form_octets_lem : (z : Form) (w : ℕ) → w < 2 ^ 64 → Below 8 (form_octets z w)
unfolding form_octets
form_octets_lem (fixed_unsigned k) w h = digits_below 8 k w
form_octets_lem (fixed_signed k) w h = digits_below 8 k w
form_octets_lem any_unsigned w h = unsigned_octets_lem w h
form_octets_lem any_signed w h = signed_octets_lem w h

enumerated_octets_lem : (w : ℕ) → w < 2 ^ 64 → Below 8 (enumerated_octets w)
unfolding enumerated_octets choose signed_octets
enumerated_octets_lem w h =
    cases_lt w 128
    (λ e l. rw e (omega arith, tt))
    (λ e l. rw e (omega (arith, fewest_signed_le w h), digits_below 8 (fewest_signed w) w))

-- contents, alone or behind a determinant that counts them
counted_octets : (fixed : Bool) (os ys : List ℕ) → Below 8 os → Below 8 ys
    → length (choose fixed (λ _. os) (λ _. length_octets (length ys) ++ ys)) < 2 ^ 64
    → Below 8 (choose fixed (λ _. os) (λ _. length_octets (length ys) ++ ys))
unfolding choose
counted_octets true os ys b c h = b
counted_octets false os ys b c h =
    below_append 8 (length_octets (length ys)) ys
    (length_octets_lem (length ys) (omega (arith, h, length-append (length_octets (length ys)) ys))) c

leaf_octets : {l : Leaf} {n : ℕ} {os : List ℕ} → LeafFits l n os → length (encode_leaf l n os) < 2 ^ 64
    → Below 8 (encode_leaf l n os)
unfolding encode_leaf text_octets bit_string_octets
leaf_octets (boolean_fits l) h = (omega arith, tt)
leaf_octets null_fits h = tt
leaf_octets (integer_fits {f = f} {a = a} {b = b} {n = n} l t) h = form_octets_lem (integer_form f a b) n l
leaf_octets (enumerated_fits {n = n} l t) h = enumerated_octets_lem n l
leaf_octets (real_fits {w = w} {n = n} l t) h = digits_below 8 (real_octets w) n
leaf_octets (octets_fit {f = f} {a = a} {b = b} {os = os} o l t) h = counted_octets (fixed_size f a b) os os o o h
leaf_octets (visible_fits {f = f} {a = a} {b = b} {os = os} o l t v) h = counted_octets (fixed_size f a b) os os o o h
leaf_octets (bits_fit {f = f} {a = a} {b = b} {n = n} {os = os} o l z t) h =
    counted_octets (fixed_size f a b) os (unused_bits n ∷ os) o (omega arith, o) h

group_octets_lem : (ds : List ℕ) → Below 7 ds → Below 8 (group_octets ds)
unfolding group_octets
group_octets_lem [] b = tt
group_octets_lem (d ∷ []) b = (omega (arith, b.0), tt)
group_octets_lem (d ∷ e ∷ ds) b = (omega (arith, b.0), group_octets_lem (e ∷ ds) b.1)

tag_octets_lem : (class n : ℕ) → class < 4 → Below 8 (tag_octets (tag class n))
unfolding tag_octets choose
tag_octets_lem class n h =
    cases_lt n 63
    (λ e l. rw e (omega arith, tt))
    (λ e l. rw e (omega arith, group_octets_lem (digits 7 (fewest 7 n) n) (digits_below 7 (fewest 7 n) n)))

preamble_octets : (n : ℕ) (bits : List ℕ) → Below 8 (preamble n bits)
unfolding preamble
preamble_octets n bits = digits_below 8 (bit_octets n) _

mutual
  unfolding encode encode_components encode_alternative each carried_octets choose

  pub encode_octets : {t : Ty} {v : Val} → Fits t v → WellFormed t → length (encode t v) < 2 ^ 64 → Below 8 (encode t v)
  encode_octets (leaf_fits k f) w h = leaf_octets f h
  encode_octets (sequence_fits {is = is} {vs = vs} k f) w h =
      let n = length-append (preamble (mark_count is) (presence is vs)) (encode_components is vs) in
      below_append 8 (preamble (mark_count is) (presence is vs)) (encode_components is vs)
      (preamble_octets (mark_count is) (presence is vs)) (components_octets f w (omega (arith, h, n)))
  encode_octets (sequence_of_fits {t = t} {n = n} {vs = vs} k l f) w h =
      below_append 8 (variable_unsigned n) (each (λ v. encode t v) vs) (unsigned_octets_lem n l)
      (elements_octets f w (omega (arith, h, length-append (variable_unsigned n) (each (λ v. encode t v) vs))))
  encode_octets (choice_fits k f) w h = alternative_octets f w.0 h

  component_octets : {m d : ℕ} {t : Ty} {v : Val} → FitsComponent m d t v → WellFormed t
      → length (carried_octets m d t v (encode t v)) < 2 ^ 64
      → Below 8 (carried_octets m d t v (encode t v))
  component_octets (plain f) w h = encode_octets f w h
  component_octets (carried f e) w h = let h' = rw e at h in rw e (encode_octets f w h')
  component_octets (left_out {m = m} {d = d} {t = t} e) w h = rw (e, same_refl (missing (suc m) d t)) tt

  components_octets : {is : Items} {vs : Vals} → FitComponents is vs → WellFormedComponents is
      → length (encode_components is vs) < 2 ^ 64
      → Below 8 (encode_components is vs)
  components_octets no_components w h = tt
  components_octets (component {m = m} {d = d} {t = t} {is = is} {v = v} {vs = vs} f g) w h =
      let n = length-append (carried_octets m d t v (encode t v)) (encode_components is vs) in
      below_append 8 (carried_octets m d t v (encode t v)) (encode_components is vs)
      (component_octets f w.0 (omega (arith, h, n))) (components_octets g w.2 (omega (arith, h, n)))

  elements_octets : {t : Ty} {vs : Vals} → FitAll t vs → WellFormed t → length (each (λ v. encode t v) vs) < 2 ^ 64
      → Below 8 (each (λ v. encode t v) vs)
  elements_octets no_elements w h = tt
  elements_octets (element {t = t} {v = v} {vs = vs} f g) w h =
      let n = length-append (encode t v) (each (λ v. encode t v) vs) in
      below_append 8 (encode t v) (each (λ v. encode t v) vs)
      (encode_octets f w (omega (arith, h, n))) (elements_octets g w (omega (arith, h, n)))

  alternative_octets : {is : Items} {n : ℕ} {v : Val} → FitsAlternative is n v → WellFormedAlternatives is
      → length (encode_alternative is n (only v)) < 2 ^ 64
      → Below 8 (encode_alternative is n (only v))
  alternative_octets (this {a = a} {b = b} {t = t} {v = v} f) w h =
      below_append 8 (tag_octets (tag a b)) (encode t v) (tag_octets_lem a b w.0)
      (encode_octets f w.1 (omega (arith, h, length-append (tag_octets (tag a b)) (encode t v))))
  alternative_octets (later f) w h = alternative_octets f w.2 h
