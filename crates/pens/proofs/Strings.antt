-- Strings, kinds 7 to 9: what their node and contents are checked for, and the answers of their writers up to the
-- contents, one law for each way out. Premises are the callees' `ensures` and the tests as they went. Assumes nothing.
use mathlib.Core.Path.{◌≡◌, refl, ◌∙◌}
use mathlib.Core.Bool.{Bool, true, false, not, ◌||◌}
use mathlib.Core.List.{List, [], ◌∷◌, ◌++◌, append_assoc}
use Prim.Native.Nat.{ℕ, suc, ◌+◌, ◌-◌, ◌<◌, ◌≤◌}
use native.Mathlib.Omega.{arith}
use lib.ListN.{length, set, take, drop, length-drop, length-append}
use lib.Seq.{sets, drop-drop}
use borrow.Author.Tests.{le-leb, lt-leb}
use Rattle.x696.specs.Outcome.{refused, got, next, must, choose}
use Rattle.x696.proofs.OutcomeLaws.{cases}
use Rattle.x696.specs.Length.{length_octets}
use Rattle.x696.specs.Bits.{bit_octets, unused_bits, low_bits_clear}
use Rattle.x696.specs.String.{fixed_size, size_allowed, visible, text_octets, bit_string_octets}
use Rattle.x696.specs.Value.{node, no_values}
use Rattle.x696.specs.Leaf.{Leaf, bit_string, leaf_kind, encode_leaf}
use Rattle.x696.specs.Walk.{Listed, list_at, contents_at, walk_leaf}
use Rattle.octets.proofs.CountedRuns.{length_run}
use Rattle.octets.proofs.Stores.{sets_after}
use Rattle.kinds.specs.Run.{text_leaf}
use Rattle.pens.specs.Flat.{Stored, Headed, text_head, bits_head}
use Rattle.std.proofs.Common.{Ok, Err}
use Rattle.octets.specs.declared.faults.Cause.{Cause}
use Rattle.octets.specs.declared.faults.Cause.TheVariants.{BadList, NotAllowed}
use Rattle.octets.specs.Cause.{code_of}
use Rattle.pens.proofs.Numbers.{stored_none, stored_nine}

-- the string of the kind k with the number n, of which m contents octets are due: whether their unused bits are 0 (11),
-- whether the size is allowed and they are characters of the type (7), and what stands before them
pub record Tested (k : Leaf) (n m : ℕ) (clear : List ℕ → Bool) (sized : Bool) (characters : List ℕ → Bool)
    (before : List ℕ) : Type 0 where
  pub is : (q : ℕ) (s : Listed) → walk_leaf k q n s
      ≡ next (contents_at q m s) λ os r.
      must (clear os) 11 q (must sized 7 q (must (characters os) 7 q (got (node (leaf_kind k) n os no_values) r)))
  pub octets : (os : List ℕ) → length os ≡ m → encode_leaf k n os ≡ before ++ os

-- ---- the kinds
text_octets_lem : (f a b n : ℕ) (os : List ℕ) → length os ≡ n → text_octets f a b os ≡ text_head f a b n ++ os
unfolding text_octets text_head choose
text_octets_lem f a b n os e = cases (fixed_size f a b) (λ t. rw t) (λ t. rw (t, e))

pub text_tested : (shown : Bool) (f a b n : ℕ)
    → Tested (text_leaf shown f a b) n n (λ os. true) (size_allowed f a b n) (λ os. not shown || visible os)
    (text_head f a b n)
unfolding text_leaf walk_leaf encode_leaf leaf_kind must
text_tested true f a b n = record { is = λ q s. refl; octets = text_octets_lem f a b n }
text_tested false f a b n = record { is = λ q s. refl; octets = text_octets_lem f a b n }

bits_octets : (f a b n m : ℕ) → m ≡ bit_octets n → (os : List ℕ) → length os ≡ m
    → bit_string_octets f a b n os ≡ bits_head f a b n ++ os
unfolding bit_string_octets bits_head choose
bits_octets f a b n m em os e =
    cases (fixed_size f a b) (λ t. rw t)
    (λ t. rw (t, e, em, append_assoc (length_octets (suc (bit_octets n))) (unused_bits n ∷ []) os))

pub bits_tested : (f a b n : ℕ) {m u : ℕ} → m ≡ bit_octets n → u ≡ unused_bits n
    → Tested (bit_string f a b) n m (λ os. low_bits_clear u os) (size_allowed f a b n) (λ os. true) (bits_head f a b n)
unfolding walk_leaf encode_leaf leaf_kind must
bits_tested f a b n em eu = rw (em, eu) (record { is = λ q s. refl; octets = bits_octets f a b n (bit_octets n) refl })

-- ---- what stands before the contents
module _ (f a b n : ℕ) {t : Bool} (et : t ≡ fixed_size f a b) {l : List ℕ} {p : ℕ} where
  pub text_fixed : t ≡ true → Stored l l p p (text_head f a b n)
  unfolding text_head choose
  text_fixed q = rw (← et, q) stored_none

  pub text_counted : t ≡ false → {l' : List ℕ} {to : ℕ}
      → (l' ≡ sets l p (length_octets n)) × (to ≡ p + length (length_octets n)) × (to ≤ p + 9)
      → Stored l l' p to (text_head f a b n)
  unfolding text_head choose
  text_counted q s = rw (← et, q) (stored_nine s)

  pub bits_fixed : t ≡ true → Stored l l p p (bits_head f a b n)
  unfolding bits_head choose
  bits_fixed q = rw (← et, q) stored_none

  -- the determinant of one octet more than the m that are filled, then the unused-bits octet
  pub bits_counted : t ≡ false → {m v to : ℕ} → m ≡ bit_octets n → v ≡ unused_bits n → {l₁ l₂ : List ℕ}
      → (l₁ ≡ sets l p (length_octets (m + 1))) × (to ≡ p + length (length_octets (m + 1))) × (to ≤ p + 9)
      → l₂ ≡ set l₁ to v → Stored l l₂ p (to + 1) (bits_head f a b n)
  unfolding bits_head choose
  bits_counted q {m} {v} em ev s e =
      let y : m + 1 ≡ suc (bit_octets n) = omega (arith, em) in
      let ds : List ℕ = length_octets (m + 1) in
      rw (← et, q, ← y, ← ev) (record {
        stores = e ∙ sets_after ds (v ∷ []) l p s.0 s.1;
        ends = rw (length-append ds (v ∷ [])) (omega (arith, s.1));
        near = omega (arith, s.2);
      })

-- ---- the contents
module _ (cs ws : List ℕ) (u m q at : ℕ) (h : u ≤ length cs) where
  contents_lack : length cs - u < m → contents_at q m (list_at ws (drop u cs) at) ≡ refused 11 q
  unfolding contents_at must
  contents_lack g = rw (lt-leb m (length (drop u cs)) (omega (arith, length-drop u cs)))

  contents_there : m ≤ length cs - u
      → contents_at q m (list_at ws (drop u cs) at) ≡ got (take m (drop u cs)) (list_at ws (drop (u + m) cs) at)
  unfolding contents_at must
  contents_there g = rw (le-leb m (length (drop u cs)) (omega (arith, length-drop u cs)), drop-drop m u cs)

-- ---- the answers
module _
    {k : Leaf} {n m : ℕ} {clear characters : List ℕ → Bool} {sized : Bool} {before : List ℕ}
    (w : Tested k n m clear sized characters before) (cs : List ℕ) {u p : ℕ} {l l' : List ℕ}
    (h : u ≤ length cs)
  where
    stops : (j : Cause)
        → ((q at : ℕ) (ws : List ℕ) → walk_leaf k q n (list_at ws (drop u cs) at) ≡ refused (code_of j) q)
        → Headed k cs n u p l l' (Err j)
    stops j g = record {
      went = λ y e. let z : ◌≡◌ {A = ℕ} 0 1 = cc in absurd (omega arith);
      stopped = λ x e. let same : j ≡ x = cc in rw (← same) g;
    }

    pub lacking : length cs - u < m → Headed k cs n u p l l' (Err BadList)
    unfolding next
    lacking g = stops BadList (λ q at ws. w.is q _ ∙ rw (contents_lack cs ws u m q at h g))

    module _ (g : m ≤ length cs - u) {x : Bool} (ex : x ≡ clear (take m (drop u cs))) where
      pub unclear : x ≡ false → Headed k cs n u p l l' (Err BadList)
      unfolding next must
      unclear c =
          stops BadList (λ q at ws. w.is q _ ∙ rw (contents_there cs ws u m q at h g, ← ex, c))

      module _ (c : x ≡ true) {y : Bool} (ey : y ≡ sized) where
        pub unsized : y ≡ false → Headed k cs n u p l l' (Err NotAllowed)
        unfolding next must
        unsized s =
            stops NotAllowed (λ q at ws. w.is q _ ∙ rw (contents_there cs ws u m q at h g, ← ex, c, ← ey, s))

        module _ (s : y ≡ true) {z : Bool} (ez : z ≡ characters (take m (drop u cs))) where
          pub strange : z ≡ false → Headed k cs n u p l l' (Err NotAllowed)
          unfolding next must
          strange v =
              stops NotAllowed
              (λ q at ws. w.is q _ ∙ rw (contents_there cs ws u m q at h g, ← ex, c, ← ey, s, ← ez, v))

          pub begins : z ≡ true → {to : ℕ} → Stored l l' p to before
              → Headed k cs n u p l l' (Ok (record { filled = m; to = to }))
          unfolding next must
          begins v {to} b = record {
            went = λ y e.
                let same : record { filled = m; to = to } ≡ y = cc in
                rw (← same) (record {
                  walks = λ q at ws. w.is q _ ∙ rw (contents_there cs ws u m q at h g, ← ex, c, ← ey, s, ← ez, v);
                  within = omega arith;
                  before = before;
                  octets = w.octets _ (length_run cs u m (omega arith));
                  stored = b;
                });
            stopped = λ y e. let z : ◌≡◌ {A = ℕ} 0 1 = cc in absurd (omega arith);
          }
