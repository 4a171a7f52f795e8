-- The reader gives back each value that fits from its octets, whatever follows them.
-- Assumes nothing.
use Rattle.std.specs.Prelude.{◌≡◌, refl, Bool, true, false, List, [], ◌++◌, ℕ, zero, suc, ◌+◌, ◌<◌, ◌≤◌, length, drop, get_or}
use Rattle.std.proofs.Common.{ap, ◌∙◌, append_assoc, arith, length-append, lt-ltb}
use Rattle.x696.specs.Outcome.{got, next, must, choose}
use Rattle.x696.specs.Digits.{Below}
use Rattle.x696.specs.Tag.{tag_octets}
use Rattle.x696.proofs.TagLaws.{tag_complete}
use Rattle.x696.specs.Bits.{preamble}
use Rattle.x696.proofs.BitsLaws.{preamble_complete}
use Rattle.x696.specs.Variable.{variable_unsigned}
use Rattle.x696.proofs.VariableLaws.{unsigned_complete}
use Rattle.x696.specs.Value.{Val, node, Vals, only, size, sizes, value_count}
use Rattle.x696.proofs.ValueLaws.{same_refl}
use Rattle.x696.proofs.LeafLaws.{leaf_complete}
use Rattle.x696.specs.Types.{Ty, Items, no_items, item, item_count, presence_count, mark_count, missing, tag_at}
use Rattle.x696.specs.Fits.{Fits, leaf_fits, sequence_fits, sequence_of_fits, choice_fits, FitsComponent, plain}
use Rattle.x696.specs.Fits.{carried, left_out, FitComponents, no_components, component, FitAll, no_elements}
use Rattle.x696.specs.Fits.{element, FitsAlternative, this, later}
use Rattle.x696.specs.Encode.{bit, presence_bits, presence, carried_octets, each, encode, encode_components}
use Rattle.x696.specs.Encode.{encode_alternative}
use Rattle.x696.specs.Read.{message, times, counted, component_by, read_inside, read_components, read_alternative}
use Rattle.x696.specs.Read.{read}

pub bit_lt : (b : Bool) → bit b < 2
unfolding bit
bit_lt true = omega arith
bit_lt false = omega arith

-- a component's presence bits are as many as its mark has, and bits
pub presence_bits_length : (m d : ℕ) (t : Ty) (v : Val) → length (presence_bits m d t v) ≡ presence_count m
unfolding presence_bits presence_count
presence_bits_length zero d t v = refl
presence_bits_length (suc m) d t v = refl

pub presence_length : {is : Items} {vs : Vals} → FitComponents is vs → length (presence is vs) ≡ mark_count is
unfolding presence mark_count
presence_length no_components = refl
presence_length (component {m = m} {d = d} {t = t} {is = is} {v = v} {vs = vs} f h) =
    rw (length-append (presence_bits m d t v) (presence is vs), presence_bits_length m d t v, presence_length h)

pub presence_bits_lem : {is : Items} {vs : Vals} → FitComponents is vs → Below 1 (presence is vs)
unfolding presence presence_bits
presence_bits_lem no_components = tt
presence_bits_lem (component {m = zero} f h) = presence_bits_lem h
presence_bits_lem (component {m = suc m} f h) = (bit_lt _, presence_bits_lem h)

-- behind a component's own presence bits come the others'
pub presence_rest : (m d : ℕ) (t : Ty) (v : Val) (bits : List ℕ)
    → drop (presence_count m) (presence_bits m d t v ++ bits) ≡ bits
unfolding presence_bits presence_count
presence_rest zero d t v bits = refl
presence_rest (suc m) d t v bits = refl

pub size_pos : (v : Val) → 1 ≤ size v
unfolding size
size_pos (node k n os vs) = omega arith

pub missing_size : (m d : ℕ) (t : Ty) → size (missing (suc m) d t) ≡ 1
unfolding missing size
missing_size zero d t = refl
missing_size (suc m) d t = refl

-- the octets of an alternative behind its tag
inner : Items → ℕ → Val → List ℕ
inner no_items n v = []
inner (item a b t is) zero v = encode t v
inner (item a b t is) (suc n) v = inner is n v

alternative_split : {is : Items} {n : ℕ} {v : Val} → FitsAlternative is n v → (r : List ℕ)
    → encode_alternative is n (only v) ++ r ≡ tag_octets (tag_at is n) ++ (inner is n v ++ r)
unfolding encode_alternative inner tag_at
alternative_split (this {a = a} {b = b} {t = t} {v = v} f) r = append_assoc (tag_octets _) (encode t v) r
alternative_split (later h) r = alternative_split h r

pub alternative_inside : {is : Items} {n : ℕ} {v : Val} → FitsAlternative is n v → n < item_count is
unfolding item_count
alternative_inside (this f) = omega arith
alternative_inside (later h) = omega (arith, alternative_inside h)

module _ (limit : ℕ) where
  mutual
    unfolding read_inside read_components read_alternative counted component_by next must choose times encode
        encode_components encode_alternative carried_octets each size presence presence_bits presence_count bit
        mark_count value_count inner

    complete_inside : {t : Ty} {v : Val} → Fits t v → (end c c' : ℕ) (r : List ℕ) → c' ≡ c + size v → c' ≤ limit
        → read_inside limit t end (message (encode t v ++ r) (suc c)) ≡ got v (message r c')
    complete_inside (leaf_fits k h) end c c' r e b = let q : c' ≡ suc c = omega arith in rw (leaf_complete h, k, q)
    complete_inside (sequence_fits {is = is} {vs = vs} k h) end c c' r e b =
        rw (
          append_assoc (preamble (mark_count is) (presence is vs)) (encode_components is vs) r,
          preamble_complete (mark_count is) _ (presence is vs) (encode_components is vs ++ r)
              (presence_length h) (presence_bits_lem h),
          complete_components h end (suc c) c' r (omega arith) b,
          k,
        )
    complete_inside (sequence_of_fits {t = t} {n = n} {vs = vs} k l h) end c c' r e b =
        rw (
          append_assoc (variable_unsigned n) (each (λ v. encode t v) vs) r,
          unsigned_complete _ n (each (λ v. encode t v) vs ++ r) l,
          k,
          complete_all h end (suc c) c' r (omega arith) b,
        )
    complete_inside (choice_fits {is = is} {n = n} {v = v} k h) end c c' r e b =
        rw (
          alternative_split h r,
          tag_complete _ (tag_at is n),
          k,
          lt-ltb n (item_count is) (alternative_inside h),
          complete_alternative h end (suc c) c' r (omega arith) b,
        )

    complete_component : {m d : ℕ} {t : Ty} {v : Val} → FitsComponent m d t v
        → (bits : List ℕ) (end c c' : ℕ) (r : List ℕ) → c' ≡ c + size v → c' ≤ limit
        → component_by limit (λ s. counted limit end s λ s. read_inside limit t end s) m d t
        (get_or (presence_bits m d t v ++ bits) 0 0) end (message (carried_octets m d t v (encode t v) ++ r) c)
        ≡ got v (message r c')
    complete_component (plain {v = v} f) bits end c c' r e b =
        rw (lt-ltb c limit (omega (arith, size_pos v)), complete_inside f end c c' r e b)
    complete_component (carried {v = v} f k) bits end c c' r e b =
        rw (k, lt-ltb c limit (omega (arith, size_pos v)), complete_inside f end c c' r e b, k)
    complete_component (left_out {m = m} {d = d} {t = t} k) bits end c c' r e b =
        let z = ap size k ∙ missing_size m d t in
        let q : c' ≡ suc c = omega arith in
        rw (k, same_refl (missing (suc m) d t), lt-ltb c limit (omega arith), q)

    complete_components : {is : Items} {vs : Vals} → FitComponents is vs → (end c c' : ℕ) (r : List ℕ)
        → c' ≡ c + sizes vs → c' ≤ limit
        → read_components limit is (presence is vs) end (message (encode_components is vs ++ r) c) ≡ got vs (message r c')
    complete_components no_components end c c' r e b = let q : c' ≡ c = omega arith in rw q
    complete_components (component {m = m} {d = d} {t = t} {is = is} {v = v} {vs = vs} f h) end c c' r e b =
        rw (
          append_assoc (carried_octets m d t v (encode t v)) (encode_components is vs) r,
          complete_component f (presence is vs) end c (c + size v) (encode_components is vs ++ r) refl (omega arith),
          presence_rest m d t v (presence is vs),
          complete_components h end (c + size v) c' r (omega arith) b,
        )

    complete_all : {t : Ty} {vs : Vals} → FitAll t vs → (end c c' : ℕ) (r : List ℕ) → c' ≡ c + sizes vs → c' ≤ limit
        → times (λ s. counted limit end s λ s. read_inside limit t end s) (value_count vs)
        (message (each (λ v. encode t v) vs ++ r) c)
        ≡ got vs (message r c')
    complete_all no_elements end c c' r e b = let q : c' ≡ c = omega arith in rw q
    complete_all (element {t = t} {v = v} {vs = vs} f h) end c c' r e b =
        rw (
          append_assoc (encode t v) (each (λ v. encode t v) vs) r,
          lt-ltb c limit (omega (arith, size_pos v)),
          complete_inside f end c (c + size v) (each (λ v. encode t v) vs ++ r) refl (omega arith),
          complete_all h end (c + size v) c' r (omega arith) b,
        )

    complete_alternative : {is : Items} {n : ℕ} {v : Val} → FitsAlternative is n v → (end c c' : ℕ) (r : List ℕ)
        → c' ≡ c + size v → c' ≤ limit
        → read_alternative limit is n end (message (inner is n v ++ r) c) ≡ got v (message r c')
    complete_alternative (this {v = v} f) end c c' r e b =
        rw (lt-ltb c limit (omega (arith, size_pos v)), complete_inside f end c c' r e b)
    complete_alternative (later h) end c c' r e b = rw (complete_alternative h end c c' r e b)

  pub complete : {t : Ty} {v : Val} → Fits t v → (end c c' : ℕ) (r : List ℕ) → c' ≡ c + size v → c' ≤ limit
      → read limit t end (message (encode t v ++ r) c) ≡ got v (message r c')
  unfolding read counted must
  complete {t} {v} f end c c' r e b = rw (lt-ltb c limit (omega (arith, size_pos v)), complete_inside f end c c' r e b)
