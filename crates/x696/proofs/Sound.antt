-- What the reader gives fits its type, and the octets that it took are that value's.
-- Assumes nothing.
use Rattle.std.specs.Prelude.{◌≡◌, refl, ◌&&◌, length, drop, get_or, eqb}
use Rattle.std.proofs.Math.Path.{ap}
use Rattle.std.proofs.Common.{sym, ◌∙◌, arith, length-append}
use Rattle.std.proofs.Math.Bool.{false}
use mathlib.Core.List.{List, [], ◌∷◌, ◌++◌, append_assoc}
use Prim.Native.Nat.{ℕ, zero, suc, ◌+◌, ◌<◌, ◌≤◌}
use borrow.Author.Tests.{ltb-true, not-true, eqb-true}
use Rattle.x696.specs.Outcome.{Outcome, got, choose}
use Rattle.x696.proofs.OutcomeLaws.{next_inv, must_inv, refused_never, cases, and_both}
use Rattle.x696.specs.Digits.{Below}
use Rattle.x696.proofs.DigitsLaws.{below_split}
use Rattle.x696.specs.Tag.{Tag, tag, tag_octets}
use Rattle.x696.proofs.TagLaws.{tag_sound}
use Rattle.x696.specs.Bits.{preamble}
use Rattle.x696.proofs.BitsLaws.{preamble_sound}
use Rattle.x696.specs.Variable.{variable_unsigned}
use Rattle.x696.proofs.VariableLaws.{unsigned_sound}
use Rattle.x696.specs.Value.{Val, node, Vals, no_values, value, only, size, sizes, value_count, same}
use Rattle.x696.proofs.ValueLaws.{same_refl}
use Rattle.x696.proofs.LeafLaws.{leaf_sound}
use Rattle.x696.specs.Types.{Ty, leaf, sequence, sequence_of, choice, Items, no_items, item, item_count}
use Rattle.x696.specs.Types.{presence_count, mark_count, missing, alternative, tag_at}
use Rattle.x696.specs.Fits.{Fits, leaf_fits, sequence_fits, sequence_of_fits, choice_fits, FitsComponent, plain}
use Rattle.x696.specs.Fits.{carried, left_out, FitComponents, no_components, component, FitAll, no_elements}
use Rattle.x696.specs.Fits.{element, FitsAlternative, this, later}
use Rattle.x696.specs.Encode.{bit, presence_bits, presence, carried_octets, each, encode, encode_components}
use Rattle.x696.specs.Encode.{encode_alternative, own_octets}
use Rattle.x696.specs.Read.{Message, message, times, counted, component_by, read_inside, read_components}
use Rattle.x696.specs.Read.{read_alternative, read}
use Rattle.x696.proofs.Complete.{missing_size, presence_bits_length}

-- what a reading of v says: it fits, its octets were taken, its nodes were counted within the limit
pub record ReadAs (limit : ℕ) (t : Ty) (s : List ℕ) (c : ℕ) (v : Val) (r : Message) : Type 0 where
  pub fits : Fits t v
  pub from : s ≡ encode t v ++ r.octets
  pub nodes : r.count ≡ c + size v
  pub within : r.count ≤ limit

record AllReadAs (limit : ℕ) (t : Ty) (s : List ℕ) (c n : ℕ) (vs : Vals) (r : Message) : Type 0 where
  fits : FitAll t vs
  many : n ≡ value_count vs
  from : s ≡ each (λ v. encode t v) vs ++ r.octets
  nodes : r.count ≡ c + sizes vs
  within : c ≤ limit → r.count ≤ limit

pub record ComponentReadAs (limit m d : ℕ) (t : Ty) (bits s : List ℕ) (c : ℕ) (v : Val) (r : Message) : Type 0 where
  pub fits : FitsComponent m d t v
  pub shown : bits ≡ presence_bits m d t v ++ drop (presence_count m) bits
  pub from : s ≡ own_octets m d t v ++ r.octets
  pub nodes : r.count ≡ c + size v
  pub within : r.count ≤ limit

record ComponentsReadAs (limit : ℕ) (is : Items) (bits s : List ℕ) (c : ℕ) (vs : Vals) (r : Message) : Type 0 where
  fits : FitComponents is vs
  shown : bits ≡ presence is vs
  from : s ≡ encode_components is vs ++ r.octets
  nodes : r.count ≡ c + sizes vs
  within : c ≤ limit → r.count ≤ limit

record AlternativeReadAs (limit : ℕ) (is : Items) (n : ℕ) (s : List ℕ) (c : ℕ) (v : Val) (r : Message) : Type 0 where
  fits : FitsAlternative is n v
  from : tag_octets (tag_at is n) ++ s ≡ encode_alternative is n (only v) ++ r.octets
  nodes : r.count ≡ c + size v
  within : r.count ≤ limit

-- the tag at the place that a tag leads to is that tag
pub alternative_tag : (is : Items) (g : Tag) → alternative is g < item_count is → tag_at is (alternative is g) ≡ g
unfolding alternative tag_at item_count choose
alternative_tag no_items g h = absurd (omega arith)
alternative_tag (item a b t is) (tag class n) h =
    cases (eqb class a && eqb n b)
    (λ e. let (p, q) = and_both (eqb class a) (eqb n b) e in rw e (cc (eqb-true class a p, eqb-true n b q)))
    (λ e.
    let more : suc (alternative is (tag class n)) < suc (item_count is) = rw e at h in
    rw e (alternative_tag is (tag class n) (omega arith)))

no_bits : (bits : List ℕ) → length bits ≡ 0 → bits ≡ []
no_bits [] e = refl
no_bits (x ∷ bits) e = absurd (omega arith)

module _ (limit : ℕ) where
  -- ---- one thing n times over
  times_sound : (t : Ty) (f : Message → Outcome Message Val)
      → ((s : Message) (v : Val) (r : Message) → Below 8 s.octets → f s ≡ got v r
      → ReadAs limit t s.octets s.count v r)
      → (n : ℕ) (s : Message) {vs : Vals} {r : Message} → Below 8 s.octets → times f n s ≡ got vs r
      → AllReadAs limit t s.octets s.count n vs r
  unfolding times each sizes value_count
  times_sound t f one zero s {vs} {r} b e =
      let q : no_values ≡ vs = cc in
      let qr : s ≡ r = cc in
      rw (← q, ← qr) (record { fits = no_elements; many = refl; from = refl; nodes = omega arith; within = λ h. h })
  times_sound t f one (suc n) s {vs} {r} b e =
      next_inv _ _ e λ v r₁ was then.
      next_inv _ _ then λ ws r₂ was' then'.
      let a = one s v r₁ b was in
      let g = times_sound t f one n r₁ (below_split 8 (encode t v) r₁.octets b a.from).1 was' in
      let q : value v ws ≡ vs = cc in
      let qr : r₂ ≡ r = cc in
      rw (← q, ← qr) (record {
        fits = element a.fits g.fits;
        many = ap suc g.many;
        from = cc (a.from, g.from, append_assoc (encode t v) (each (λ v. encode t v) ws) r₂.octets);
        nodes = omega arith;
        within = λ h. g.within a.within;
      })

  -- ---- one component
  pub component_sound_lem : (m d : ℕ) (t : Ty) (f : Message → Outcome Message Val)
      → ((s : Message) (v : Val) (r : Message) → Below 8 s.octets → f s ≡ got v r
      → ReadAs limit t s.octets s.count v r)
      → (bits : List ℕ) (end : ℕ) (s : Message) {v : Val} {r : Message} → Below 8 s.octets → Below 1 bits
      → presence_count m ≤ length bits
      → component_by limit f m d t (get_or bits 0 0) end s ≡ got v r
      → ComponentReadAs limit m d t bits s.octets s.count v r
  unfolding component_by counted presence_bits presence_count own_octets carried_octets bit choose
  component_sound_lem zero d t f one bits end s {v} {r} b l k e =
      let a = one s v r b e in
      record { fits = plain a.fits; shown = refl; from = a.from; nodes = a.nodes; within = a.within }
  component_sound_lem (suc m) d t f one [] end s b l k e = absurd (omega arith)
  component_sound_lem (suc m) d t f one (zero ∷ bits) end s {v} {r} b l k e =
      must_inv _ _ _ _ e λ u w.
      let qv : v ≡ missing (suc m) d t = cc in
      let qr : message s.octets (suc s.count) ≡ r = cc in
      let z = ap size qv ∙ missing_size m d t in
      let h = ltb-true s.count limit u in
      rw (← qr) (record {
        fits = left_out qv;
        shown = rw (qv, same_refl (missing (suc m) d t)) refl;
        from = rw (qv, same_refl (missing (suc m) d t)) refl;
        nodes = omega arith;
        within = h;
      })
  component_sound_lem (suc m) d t f one (suc zero ∷ bits) end s {v} {r} b l k e =
      next_inv _ _ e λ v₁ r₁ was then.
      must_inv _ _ _ _ then λ u w.
      let qv : v₁ ≡ v = cc in
      let qr : r₁ ≡ r = cc in
      let a = one s v₁ r₁ b was in
      let differs : same v (missing (suc m) d t) ≡ false = rw (← qv) (not-true _ u) in
      let fit : Fits t v = rw (← qv) a.fits in
      rw (← qr) (record {
        fits = carried fit differs;
        shown = rw differs refl;
        from = rw (differs, ← qv) a.from;
        nodes = rw (← qv) a.nodes;
        within = a.within;
      })
  component_sound_lem (suc m) d t f one (suc (suc x) ∷ bits) end s b l k e = absurd (omega (arith, l.0))

  mutual
    unfolding read_inside read_components read_alternative counted encode encode_components encode_alternative own_octets
        size item_count mark_count presence tag_at alternative choose

    sound_inside : (t : Ty) (end c : ℕ) (s : List ℕ) {v : Val} {r : Message} → Below 8 s → suc c ≤ limit
        → read_inside limit t end (message s (suc c)) ≡ got v r → ReadAs limit t s c v r
    sound_inside (leaf l) end c s {v} {r} b h e =
        next_inv _ _ e λ v₁ r₁ was then.
        leaf_sound l _ s b was λ n os f is from.
        let qv : node _ n os no_values ≡ v = sym is ∙ cc in
        let qr : message r₁ (suc c) ≡ r = cc in
        rw (← qv, ← qr) (record { fits = leaf_fits refl f; from = from; nodes = omega arith; within = h })
    sound_inside (sequence is) end c s {v} {r} b h e =
        next_inv _ _ e λ bits r₁ was then.
        next_inv _ _ then λ vs r₂ was' then'.
        let a = preamble_sound (mark_count is) _ s b was in
        let g = sound_components is bits end (message r₁ (suc c))
        (below_split 8 (preamble (mark_count is) bits) r₁ b a.0).1 a.2 a.1 was' in
        let qv : node 10 (item_count is) [] vs ≡ v = cc in
        let qr : r₂ ≡ r = cc in
        rw (← qv, ← qr) (record {
          fits = sequence_fits refl g.fits;
          from = cc (
            a.0,
            g.shown,
            g.from,
            append_assoc (preamble (mark_count is) (presence is vs)) (encode_components is vs) r₂.octets,
          );
          nodes = omega (arith, g.nodes);
          within = g.within h;
        })
    sound_inside (sequence_of t) end c s {v} {r} b h e =
        next_inv _ _ e λ n r₁ was then.
        next_inv _ _ then λ vs r₂ was' then'.
        let a = unsigned_sound _ s b was in
        let g = times_sound t _
        (λ s v r b e. must_inv _ _ _ _ e λ u w.
        sound_inside t end s.count s.octets b (ltb-true s.count limit u) w)
        n (message r₁ (suc c)) (below_split 8 (variable_unsigned n) r₁ b a.0).1 was' in
        let qv : node 11 n [] vs ≡ v = cc in
        let qr : r₂ ≡ r = cc in
        rw (← qv, ← qr) (record {
          fits = sequence_of_fits g.many a.1 g.fits;
          from = cc (a.0, g.from, append_assoc (variable_unsigned n) (each (λ v. encode t v) vs) r₂.octets);
          nodes = omega (arith, g.nodes);
          within = g.within h;
        })
    sound_inside (choice is) end c s {v} {r} b h e =
        next_inv _ _ e λ g r₁ was then.
        must_inv _ _ _ _ then λ u w.
        next_inv _ _ w λ x r₂ was' then'.
        let a = tag_sound _ s b was in
        let m = sound_alternative is (alternative is g) end (message r₁ (suc c))
        (below_split 8 (tag_octets g) r₁ b a).1 was' in
        let own = alternative_tag is g (ltb-true _ _ u) in
        let qv : node 12 (alternative is g) [] (only x) ≡ v = cc in
        let qr : r₂ ≡ r = cc in
        rw (← qv, ← qr) (record {
          fits = choice_fits (ap (alternative is) own) m.fits;
          from = a ∙ (rw own at m.from);
          nodes = omega (arith, m.nodes);
          within = m.within;
        })

    sound_components : (is : Items) (bits : List ℕ) (end : ℕ) (s : Message) {vs : Vals} {r : Message}
        → Below 8 s.octets → Below 1 bits
        → length bits ≡ mark_count is → read_components limit is bits end s ≡ got vs r
        → ComponentsReadAs limit is bits s.octets s.count vs r
    sound_components no_items bits end s {vs} {r} b l k e =
        let q : no_values ≡ vs = cc in
        let qr : s ≡ r = cc in
        rw (← q, ← qr) (record {
          fits = no_components;
          shown = no_bits bits k;
          from = refl;
          nodes = omega arith;
          within = λ h. h;
        })
    sound_components (item m d t is) bits end s {vs} {r} b l k e =
        next_inv _ _ e λ v r₁ was then.
        next_inv _ _ then λ ws r₂ was' then'.
        let a = component_sound_lem m d t _
        (λ s v r b e. must_inv _ _ _ _ e λ u w.
        sound_inside t end s.count s.octets b (ltb-true s.count limit u) w)
        bits end s b l (omega arith) was in
        let many = ap length a.shown ∙ length-append (presence_bits m d t v) (drop (presence_count m) bits) in
        let g = sound_components is (drop (presence_count m) bits) end r₁
        (below_split 8 (own_octets m d t v) r₁.octets b a.from).1
        (below_split 1 (presence_bits m d t v) (drop (presence_count m) bits) l a.shown).1
        (omega (arith, presence_bits_length m d t v)) was' in
        let q : value v ws ≡ vs = cc in
        let qr : r₂ ≡ r = cc in
        rw (← q, ← qr) (record {
          fits = component a.fits g.fits;
          shown = cc (a.shown, g.shown);
          from = cc (a.from, g.from, append_assoc (own_octets m d t v) (encode_components is ws) r₂.octets);
          nodes = omega (arith, a.nodes, g.nodes);
          within = λ _. g.within a.within;
        })

    sound_alternative : (is : Items) (n end : ℕ) (s : Message) {v : Val} {r : Message} → Below 8 s.octets
        → read_alternative limit is n end s ≡ got v r
        → AlternativeReadAs limit is n s.octets s.count v r
    sound_alternative no_items n end s b e = absurd (refused_never e)
    sound_alternative (item a d t is) zero end s {v} {r} b e =
        must_inv _ _ _ _ e λ u w.
        let m = sound_inside t end s.count s.octets b (ltb-true s.count limit u) w in
        record {
          fits = this m.fits;
          from = rw (append_assoc (tag_octets (tag a d)) (encode t v) r.octets) (cc m.from);
          nodes = m.nodes;
          within = m.within;
        }
    sound_alternative (item a d t is) (suc n) end s b e =
        let m = sound_alternative is n end s b e in
        record { fits = later m.fits; from = m.from; nodes = m.nodes; within = m.within }

  pub sound : (t : Ty) (end : ℕ) (s : Message) {v : Val} {r : Message} → Below 8 s.octets
      → read limit t end s ≡ got v r
      → ReadAs limit t s.octets s.count v r
  unfolding read counted
  sound t end s b e =
      must_inv _ _ _ _ e λ u w. sound_inside t end s.count s.octets b (ltb-true s.count limit u) w
