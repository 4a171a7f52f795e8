-- One type over and over: walked and written as components without marks, which have no preamble. A value alone is
-- one copy.
-- Assumes nothing.
use mathlib.Core.Path.{◌≡◌, refl, sym, ap, ◌∙◌}
use mathlib.Core.Bool.{false}
use mathlib.Core.List.{List, [], ◌++◌, append-nil}
use Prim.Native.Nat.{ℕ, zero, suc, ◌+◌}
use native.Mathlib.Omega.{arith}
use lib.ListN.{replicate}
use lib.Seq.{sets}
use Rattle.x696.specs.Outcome.{Outcome, refused, got, next}
use Rattle.x696.proofs.OutcomeLaws.{next_inv}
use Rattle.x696.specs.Bits.{bit_octets}
use Rattle.x696.proofs.BitsLaws.{preamble_none}
use Rattle.x696.specs.Value.{Val, Vals, no_values, value, only}
use Rattle.x696.specs.Types.{Ty, presence_count, mark_count}
use Rattle.x696.specs.Encode.{presence_bits, presence, carried_octets, each, encode, encode_components}
use Rattle.x696.specs.Read.{times}
use Rattle.x696.specs.Walk.{Listed, component_walk, walk, walk_components}
use Rattle.x696.proofs.WalkSound.{got_same}
use Rattle.x696.specs.Table.{type_of}
use Rattle.pens.specs.Put.{listed_at, Put}
use Rattle.writing.specs.Members.{copies, members, group_octets, PutAll}
use Rattle.std.proofs.Common.{Result}
use Rattle.octets.specs.declared.faults.Fault.{Fault}
use Rattle.pens.specs.declared.pen.Pen.{Pen}

next_same : {S A B : Type 0} (o : Outcome S A) (k j : A → S → Outcome S B) → ((a : A) (s : S) → k a s ≡ j a s)
    → next o k ≡ next o j
unfolding next
next_same (refused n p) k j h = refl
next_same (got a s) k j h = h a s

next_stop : {S A B : Type 0} (o : Outcome S A) (f : A → B) {n p : ℕ} → next o (λ a s. got (f a) s) ≡ refused n p
    → o ≡ refused n p
unfolding next
next_stop (refused m q) f e = cc
next_stop (got a s) f e = let z : ◌≡◌ {A = ℕ} 0 1 = cc in absurd (omega arith)

module _ (t : Ty) where
  pub copies_marks : (n : ℕ) → mark_count (copies n t) ≡ 0
  unfolding mark_count copies presence_count
  copies_marks zero = refl
  copies_marks (suc n) = rw (copies_marks n) (omega arith)

  pub copies_walk : (n : ℕ) (s : Listed) → walk_components (copies n t) s ≡ times (λ s. walk t s) n s
  unfolding walk copies times component_walk
  copies_walk zero s = refl
  copies_walk (suc n) s =
      next_same (walk t s) _ _ λ v r. ap (λ o. next o λ vs r. got (value v vs) r) (copies_walk n r)

  copies_presence : (n : ℕ) (vs : Vals) → presence (copies n t) vs ≡ []
  unfolding presence copies presence_bits
  copies_presence zero vs = refl
  copies_presence (suc n) no_values = refl
  copies_presence (suc n) (value v vs) = copies_presence n vs

  abbrev SameOctets : (n : ℕ) → Vals → Listed → Type 0
  SameOctets n vs r = encode_components (copies n t) vs ≡ each (λ v. encode t v) vs

  copies_each : (n : ℕ) (s : Listed) {vs : Vals} {r : Listed} → times (λ s. walk t s) n s ≡ got vs r → SameOctets n
      vs r
  unfolding times encode copies carried_octets each
  copies_each zero s e = got_same (SameOctets zero) e refl
  copies_each (suc n) s e =
      next_inv _ _ e λ v q was then. next_inv _ _ then λ vs r was' then'.
      got_same (SameOctets (suc n)) then' (ap (λ (os : List ℕ). encode t v ++ os) (copies_each n q was'))

  pub copies_octets : (n : ℕ) (s : Listed) {vs : Vals} {r : Listed} → walk_components (copies n t) s ≡ got vs r
      → group_octets (copies n t) vs ≡ each (λ v. encode t v) vs
  copies_octets n s {vs} e =
      rw (copies_marks n, copies_presence n vs, preamble_none []) (copies_each n s (sym (copies_walk n s) ∙ e))

  -- ---- one alone
  alone_first : (s : Listed) → walk_components (copies 1 t) s ≡ next (walk t s) λ v r. got (only v) r
  unfolding walk copies component_walk next
  alone_first s = refl

  alone_octets : (v : Val) → each (λ v. encode t v) (only v) ≡ encode t v
  unfolding each
  alone_octets v = append-nil (encode t v)

pub alone : (rows items : List ℕ) (inner : ℕ) {ws cs : List ℕ} {n u p : ℕ} {l l' : List ℕ} {r : Result Pen Fault}
    → PutAll ws cs (members rows items inner false 0 1) (listed_at ws cs n u) p n u p l l' r
    → Put ws cs (walk (type_of rows items inner) (listed_at ws cs n u)) (λ v. encode (type_of rows items inner) v) n u p
    l l' r
unfolding members
alone rows items inner {ws} {cs} {n} {u} x =
    let t = type_of rows items inner in
    let s = listed_at ws cs n u in
    record {
      went = λ c e.
          let g = x.went c e in
          next_inv _ _ (sym (alone_first t s) ∙ g.walks) λ v q was then.
          let is : only v ≡ g.what = cc in
          let rest : q ≡ listed_at ws cs c.at c.used = cc in
          let os : group_octets (copies 1 t) g.what ≡ encode t v =
          copies_octets t 1 s g.walks ∙ rw (← is) (alone_octets t v) in
          record {
            what = v;
            walks = was ∙ ap (λ r. got v r) rest;
            inside = g.inside;
            within = g.within;
            ends = rw os at g.ends;
            bound = g.bound;
            stored = rw os at g.stored;
          };
      stopped = λ f e. next_stop (walk t s) (λ v. only v) (sym (alone_first t s) ∙ x.stopped f e);
    }

-- ---- no preamble: what the writer of members relies on
module _ (rows items : List ℕ) (inner n p : ℕ) where
  no_marks : mark_count (members rows items inner false 0 n) ≡ 0
  unfolding members
  no_marks = copies_marks (type_of rows items inner) n

  pub no_preamble : p ≡ p + bit_octets (mark_count (members rows items inner false 0 n))
  no_preamble = rw no_marks (omega arith)

  pub no_zeros : (l : List ℕ) → l ≡ sets l p (replicate (bit_octets (mark_count (members rows items inner false 0 n)))
      0)
  no_zeros l = rw no_marks refl
