-- The contents of a value are no longer than its encoding: each string's octets stand in it.
-- Assumes nothing.
use Rattle.std.specs.Prelude.{◌≡◌, refl, Bool, true, false, List, [], ◌∷◌, ℕ, zero, suc, ◌≤◌, length}
use Rattle.std.proofs.Common.{append-nil, arith, length-append}
use Rattle.x696.specs.Outcome.{choose}
use Rattle.x696.specs.Length.{length_octets}
use Rattle.x696.specs.Tag.{tag, tag_octets}
use Rattle.x696.specs.Bits.{unused_bits, preamble}
use Rattle.x696.specs.Variable.{variable_unsigned}
use Rattle.x696.specs.String.{fixed_size, text_octets, bit_string_octets}
use Rattle.x696.specs.Value.{Val, Vals, only, contents, contents_of}
use Rattle.x696.specs.Leaf.{Leaf, LeafFits, boolean_fits, null_fits, integer_fits, enumerated_fits, real_fits}
use Rattle.x696.specs.Leaf.{octets_fit, visible_fits, bits_fit, encode_leaf}
use Rattle.x696.specs.Types.{Ty, Items, mark_count, missing}
use Rattle.x696.specs.Fits.{Fits, leaf_fits, sequence_fits, sequence_of_fits, choice_fits, FitsComponent, plain}
use Rattle.x696.specs.Fits.{carried, left_out, FitComponents, no_components, component, FitAll, no_elements}
use Rattle.x696.specs.Fits.{element, FitsAlternative, this, later}
use Rattle.x696.specs.Encode.{presence, carried_octets, each, encode, encode_components, encode_alternative}

-- contents alone, or in some octets
sized_contents : (fixed : Bool) (os ys : List ℕ) → length os ≤ length ys
    → length os ≤ length (choose fixed (λ _. os) (λ _. ys))
unfolding choose
sized_contents true os ys h = omega arith
sized_contents false os ys h = h

text_contents : (f a b : ℕ) (os : List ℕ) → length os ≤ length (text_octets f a b os)
unfolding text_octets
text_contents f a b os =
    sized_contents (fixed_size f a b) os _ (omega (arith, length-append (length_octets (length os)) os))

leaf_contents : {l : Leaf} {n : ℕ} {os : List ℕ} → LeafFits l n os → length os ≤ length (encode_leaf l n os)
unfolding encode_leaf bit_string_octets
leaf_contents (boolean_fits h) = omega arith
leaf_contents null_fits = omega arith
leaf_contents (integer_fits h e) = omega arith
leaf_contents (enumerated_fits h e) = omega arith
leaf_contents (real_fits h e) = omega arith
leaf_contents (octets_fit {f = f} {a = a} {b = b} {os = os} o l e) = text_contents f a b os
leaf_contents (visible_fits {f = f} {a = a} {b = b} {os = os} o l e c) = text_contents f a b os
leaf_contents (bits_fit {f = f} {a = a} {b = b} {n = n} {os = os} o l c e) =
    let sum = length-append (length_octets (suc (length os))) (unused_bits n ∷ os) in
    sized_contents (fixed_size f a b) os _ (omega (arith, sum))

missing_contents : (m d : ℕ) (t : Ty) → contents (missing m d t) ≡ []
unfolding missing contents
missing_contents zero d t = refl
missing_contents (suc zero) d t = refl
missing_contents (suc (suc m)) d t = refl

mutual
  unfolding contents encode encode_components encode_alternative each carried_octets choose

  pub contents_length : {t : Ty} {v : Val} → Fits t v → length (contents v) ≤ length (encode t v)
  contents_length (leaf_fits {os = os} k h) = rw (append-nil os) (leaf_contents h)
  contents_length (sequence_fits {is = is} {vs = vs} k h) =
      let n = length-append (preamble (mark_count is) (presence is vs)) (encode_components is vs) in
      omega (arith, n, components_length h)
  contents_length (sequence_of_fits {t = t} {n = n} {vs = vs} k l h) =
      omega (arith, length-append (variable_unsigned n) (each (λ v. encode t v) vs), elements_length h)
  contents_length (choice_fits {v = v} k h) = rw (append-nil (contents v)) (alternative_length h)

  pub component_length : {m d : ℕ} {t : Ty} {v : Val} → FitsComponent m d t v
      → length (contents v) ≤ length (carried_octets m d t v (encode t v))
  component_length (plain h) = contents_length h
  component_length (carried h e) = rw e (contents_length h)
  component_length (left_out {m = m} {d = d} {t = t} e) = rw (e, missing_contents (suc m) d t) (omega arith)

  components_length : {is : Items} {vs : Vals} → FitComponents is vs
      → length (contents_of vs) ≤ length (encode_components is vs)
  components_length no_components = omega arith
  components_length (component {m = m} {d = d} {t = t} {is = is} {v = v} {vs = vs} h hs) =
      let a = length-append (contents v) (contents_of vs) in
      let b = length-append (carried_octets m d t v (encode t v)) (encode_components is vs) in
      omega (arith, a, b, component_length h, components_length hs)

  elements_length : {t : Ty} {vs : Vals} → FitAll t vs → length (contents_of vs) ≤ length (each (λ v. encode t v) vs)
  elements_length no_elements = omega arith
  elements_length (element {t = t} {v = v} {vs = vs} h hs) =
      let a = length-append (contents v) (contents_of vs) in
      let b = length-append (encode t v) (each (λ v. encode t v) vs) in
      omega (arith, a, b, contents_length h, elements_length hs)

  alternative_length : {is : Items} {n : ℕ} {v : Val} → FitsAlternative is n v
      → length (contents v) ≤ length (encode_alternative is n (only v))
  alternative_length (this {a = a} {b = b} {t = t} {v = v} h) =
      omega (arith, length-append (tag_octets (tag a b)) (encode t v), contents_length h)
  alternative_length (later h) = alternative_length h
