-- What the readers of a tag answer, one law for each `return`, and the octets of a tag that is written.
-- Assumes nothing.
use mathlib.Core.Path.{◌≡◌, refl, sym, ◌∙◌}
use mathlib.Core.Bool.{not}
use mathlib.Core.List.{List, [], ◌∷◌, ◌++◌}
use Prim.Native.Nat.{ℕ, suc, ◌+◌, ◌*◌, ◌/◌, ◌%◌, ◌<◌, ◌≤◌}
use native.Mathlib.Nat.{mul_comm}
use native.Mathlib.Numerals.{add-one}
use native.Mathlib.Omega.{arith}
use lib.ListN.{length, get_or, set, drop, drop_of_length-le}
use lib.Seq.{sets, drop-cons}
use lib.Dec.{leb, eqb}
use borrow.Author.Tests.{lt-ltb, le-ltb, le-leb, lt-leb, eq-eqb, ne_eqb}
use Rattle.x696.specs.Outcome.{Outcome, refused, got, next, must, choose}
use Rattle.x696.specs.Digits.{digits, from_digits}
use Rattle.x696.specs.Fewest.{fewest}
use Rattle.x696.proofs.FewestLaws.{fewest_is}
use Rattle.x696.specs.Length.{octet}
use Rattle.x696.specs.Tag.{Tag as TagOf, tag, group_octets, tag_octets, read_tag}
use Rattle.octets.specs.Answers.{TagAnswer, TagFound, tag_read, fault, long_tag, capped}
use Rattle.std.proofs.Common.{Result, Ok, Err}
use Rattle.octets.specs.Cause.{code_of}
use Rattle.octets.specs.declared.faults.Cause.{Cause}
use Rattle.octets.specs.declared.faults.Cause.TheVariants.{Short, NotCanonical}
use Rattle.octets.specs.declared.faults.Fault.{Fault}
use Rattle.octets.specs.declared.answers.Tag.{Tag}
use Rattle.octets.proofs.Groups.{Grouped, grouped_none, grouped_reads, grouped_value, grouped_fewest}
use Rattle.octets.proofs.Groups.{capped_low, capped_below, capped_above}

-- ---- answers
module _ {msg : List ℕ} {o : Outcome (List ℕ) TagOf} {at : ℕ} where
  pub tag_refused : {k : Cause} {p : ℕ} {f : Fault} → o ≡ refused (code_of k) p → f ≡ fault k p
      → TagAnswer msg o at (Err f)
  tag_refused e h = record {
    went = λ x g. let z : ◌≡◌ {A = ℕ} 0 1 = cc in absurd (omega arith);
    stopped = λ y g. cc;
  }

  pub tag_got : {r : Result Tag Fault} {t : Tag} → TagFound msg o at t → r ≡ Ok t → TagAnswer msg o at r
  tag_got {t} w f = record {
    went = λ x g. let q : t ≡ x = cc in rw (← q) w;
    stopped = λ y g. let z : ◌≡◌ {A = ℕ} 0 1 = cc in absurd (omega arith);
  }

-- the same outcome, read from an earlier place
pub tag_from : {msg : List ℕ} {o o' : Outcome (List ℕ) TagOf} {at b : ℕ} {r : Result Tag Fault} → o ≡ o' → at ≤ b
    → TagAnswer msg o' b r → TagAnswer msg o at r
tag_from e h w = record {
  went = λ x g.
      let f = w.went x g in
      record {
        whole = f.whole;
        reads = e ∙ f.reads;
        number = f.number;
        inside = f.inside;
        ahead = omega (arith, f.ahead);
      };
  stopped = λ y g. e ∙ w.stopped y g;
}

-- ---- the long form
module _ (msg : List ℕ) (start class p : ℕ) where
  pub long_none : {i n : ℕ} {f : Fault} → Grouped msg start i n → length msg ≤ i → f ≡ fault Short p
      → TagAnswer msg (long_tag class p (drop start msg)) start (Err f)
  unfolding long_tag next
  long_none w h e = tag_refused (rw (grouped_none w h p)) e

  module _ {i n x y : ℕ} (w : Grouped msg start i n) (h : i < length msg) (ex : x ≡ get_or msg i 0) (bx : x < 256)
      (ey : y ≡ capped (n * 128 + x % 128)) (g : x < 128) where
    abbrev ds : List ℕ
    ds = w.groups ++ (x ∷ [])

    long_is : long_tag class p (drop start msg)
        ≡ must (leb 63 (from_digits 7 ds)) 6 p
        (must (not (eqb (get_or msg start 0) 128)) 6 p (got (tag class (from_digits 7 ds)) (drop (i + 1) msg)))
    unfolding long_tag next
    long_is = rw (grouped_reads w h ex bx ey g p, grouped_fewest w h ex bx ey g)

    pub long_low : {f : Fault} → y < 63 → f ≡ fault NotCanonical p
        → TagAnswer msg (long_tag class p (drop start msg)) start (Err f)
    unfolding must
    long_low l e =
        let s = capped_below (from_digits 7 ds) 63 (omega arith) (rw (grouped_value w h ex bx ey g) at l) in
        tag_refused (long_is ∙ rw (lt-leb 63 (from_digits 7 ds) s)) e

    module _ {d : ℕ} (ed : d ≡ get_or msg start 0) (s : 63 ≤ y) where
      big : 63 ≤ from_digits 7 ds
      big = capped_above (from_digits 7 ds) 63 (rw (grouped_value w h ex bx ey g) at s)

      pub long_lead : {f : Fault} → d ≡ 128 → f ≡ fault NotCanonical p
          → TagAnswer msg (long_tag class p (drop start msg)) start (Err f)
      unfolding must
      long_lead z e =
          tag_refused (long_is ∙ rw (le-leb 63 (from_digits 7 ds) big, eq-eqb (get_or msg start 0) 128 (sym ed ∙ z))) e

      pub long_found : {r : Result Tag Fault} → (d ≡ 128 → ⊥) → r ≡ Ok (tag_read class y (i + 1))
          → TagAnswer msg (long_tag class p (drop start msg)) start r
      unfolding must
      long_found z e =
          tag_got (record {
            whole = from_digits 7 ds;
            reads = long_is ∙ rw (le-leb 63 (from_digits 7 ds) big, ne_eqb (get_or msg start 0) 128 (λ q. z (ed ∙ q)));
            number = grouped_value w h ex bx ey g;
            inside = omega arith;
            ahead = omega (arith, w.past);
          }) e

-- ---- the whole tag
module _ (msg : List ℕ) (at p : ℕ) where
  pub tag_past : {f : Fault} → length msg ≤ at → f ≡ fault Short p
      → TagAnswer msg (read_tag p (drop at msg)) at (Err f)
  unfolding read_tag octet next
  tag_past h e = tag_refused (rw (drop_of_length-le msg h)) e

  module _ (x : ℕ) (h : at < length msg) (ex : x ≡ get_or msg at 0) where
    first : drop at msg ≡ x ∷ drop (at + 1) msg
    first = rw (ex, add-one at) (drop-cons msg at 0 h)

    pub tag_short : {r : Result Tag Fault} → x % 64 < 63 → r ≡ Ok (tag_read (x / 64) (x % 64) (at + 1))
        → TagAnswer msg (read_tag p (drop at msg)) at r
    unfolding read_tag octet next choose
    tag_short l e =
        tag_got (record {
          whole = x % 64;
          reads = rw (first, lt-ltb (x % 64) 63 l);
          number = capped_low (x % 64) (omega arith);
          inside = omega arith;
          ahead = omega arith;
        }) e

    pub tag_long : {r : Result Tag Fault} → 63 ≤ x % 64 → TagAnswer msg (long_tag (x / 64) p (drop (at + 1) msg)) (at + 1) r
        → TagAnswer msg (read_tag p (drop at msg)) at r
    unfolding read_tag octet next choose long_tag
    tag_long l w = tag_from (rw (first, le-ltb (x % 64) 63 l)) (omega arith) w

-- ---- the octets of a tag of a table
module _ (class n : ℕ) where
  octets_short : n < 63 → tag_octets (tag class n) ≡ (class * 64 + n) ∷ []
  unfolding tag_octets choose
  octets_short h = rw (lt-ltb n 63 h, mul_comm 64 class)

  octets_long : (k : ℕ) → 63 ≤ n → fewest 7 n ≡ k
      → tag_octets (tag class n) ≡ (class * 64 + 63) ∷ group_octets (digits 7 k n)
  unfolding tag_octets choose
  octets_long k h e = rw (le-ltb n 63 h, e, mul_comm 64 class)

  octets_one : 63 ≤ n → n < 128 → tag_octets (tag class n) ≡ (class * 64 + 63) ∷ n ∷ []
  unfolding digits group_octets
  octets_one h g =
      let a : n / 1 % 128 ≡ n = omega arith in
      octets_long 1 h (fewest_is 7 n 0 (omega arith) g (omega arith)) ∙ rw a

  octets_two : 128 ≤ n → n < 16384 → tag_octets (tag class n) ≡ (class * 64 + 63) ∷ (128 + n / 128) ∷ n % 128 ∷ []
  unfolding digits group_octets
  octets_two h g =
      let a : n / 128 % 128 ≡ n / 128 = omega arith in
      let b : n / 1 % 128 ≡ n % 128 = omega arith in
      octets_long 2 (omega arith) (fewest_is 7 n 1 (omega arith) g h) ∙ rw (a, b)

  octets_three : 16384 ≤ n → n < 2097152
      → tag_octets (tag class n) ≡ (class * 64 + 63) ∷ (128 + n / 16384) ∷ (128 + n / 128 % 128) ∷ n % 128 ∷ []
  unfolding digits group_octets
  octets_three h g =
      let a : n / 16384 % 128 ≡ n / 16384 = omega arith in
      let b : n / 1 % 128 ≡ n % 128 = omega arith in
      octets_long 3 (omega arith) (fewest_is 7 n 2 (omega arith) g h) ∙ rw (a, b)

-- these octets stored from `to` on, and where the next one goes
abbrev pub TagPut : (l : List ℕ) (to class n : ℕ) (l' : List ℕ) (r : ℕ) → Type 0
TagPut l to class n l' r =
    (l' ≡ sets l to (tag_octets (tag class n))) × (r ≡ to + length (tag_octets (tag class n))) × (r ≤ to + 4)

module _ (l : List ℕ) (to class n : ℕ) {l₁ : List ℕ} where
  pub put_short : n < 63 → l₁ ≡ set l to (class * 64 + n) → TagPut l to class n l₁ (to + 1)
  put_short h e = rw (octets_short class n h) (e, refl, omega arith)

  module _ {l₂ : List ℕ} (long : 63 ≤ n) (e₁ : l₁ ≡ set l to (class * 64 + 63)) where
    pub put_one : n < 128 → l₂ ≡ set l₁ (to + 1) n → TagPut l to class n l₂ (to + 2)
    put_one h e₂ = rw (octets_one class n long h, ← add-one to, ← e₁) (e₂, refl, omega arith)

    module _ {l₃ : List ℕ} where
      pub put_two : 128 ≤ n → n < 16384 → l₂ ≡ set l₁ (to + 1) (128 + n / 128) → l₃ ≡ set l₂ (to + 2) (n % 128)
          → TagPut l to class n l₃ (to + 3)
      put_two g h e₂ e₃ =
          let a : suc (to + 1) ≡ to + 2 = omega arith in
          rw (octets_two class n g h, ← add-one to, a, ← e₁, ← e₂) (e₃, refl, omega arith)

      pub put_three : {l₄ : List ℕ} → 16384 ≤ n → n < 2097152 → l₂ ≡ set l₁ (to + 1) (128 + n / 16384)
          → l₃ ≡ set l₂ (to + 2) (128 + n / 128 % 128) → l₄ ≡ set l₃ (to + 3) (n % 128)
          → TagPut l to class n l₄ (to + 4)
      put_three g h e₂ e₃ e₄ =
          let a : suc (to + 1) ≡ to + 2 = omega arith in
          let b : suc (to + 2) ≡ to + 3 = omega arith in
          rw (octets_three class n g h, ← add-one to, a, b, ← e₁, ← e₂, ← e₃) (e₄, refl, omega arith)
