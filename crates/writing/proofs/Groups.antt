-- Groups while they are written: what is left of a group ends the whole (`Rest`). The presence bits of the values
-- written stand in the preamble, padded with zeros, and their octets behind it. A SEQUENCE OF is a group with no
-- presence bits.
-- Assumes nothing.
use mathlib.Core.Path.{◌≡◌, refl, sym, ◌∙◌}
use mathlib.Core.List.{List, [], ◌∷◌, ◌++◌, append-nil, append_assoc}
use mathlib.Core.Logic.{◌⊎◌, ⊎_elim}
use Prim.Native.Nat.{ℕ, ◌+◌, ◌-◌, ◌<◌, ◌≤◌}
use native.Mathlib.Omega.{arith}
use native.Mathlib.Nat.{add-zero, sub-zero}
use lib.ListN.{length, replicate, length-append}
use lib.Seq.{sets}
use Rattle.x696.specs.Outcome.{Outcome, refused, got, next}
use Rattle.x696.specs.Bits.{bit_octets, preamble}
use Rattle.x696.proofs.BitsLaws.{preamble_length}
use Rattle.x696.specs.Value.{Val, Vals, no_values, value}
use Rattle.x696.specs.Walk.{Listed}
use Rattle.octets.proofs.Stores.{sets_after, sets_append}
use Rattle.octets.proofs.PresenceBits.{preamble_zeros}
use Rattle.pens.specs.Put.{listed_at, Penned}
use Rattle.pens.specs.declared.pen.Pen.{Pen}
use Rattle.writing.specs.Noted.{noted}
use Rattle.writing.proofs.InPlace.{sets_over, filled, noted_filled}

-- the values vs end what was begun: the whole is `what`
pub record End (o₀ : Outcome Listed Vals) (bits₀ octets₀ : Vals → List ℕ) (front back bs os : List ℕ) (r : Listed) :
    Type 0 where
  pub what : Vals
  pub walks : o₀ ≡ got what r
  pub presence : bits₀ what ≡ front ++ bs
  pub written : octets₀ what ≡ back ++ os

-- a group begun into l₀, with a preamble of k bits at pre; what is left is o, with b bits noted, the next octet at p
-- of l
pub record Rest (k pre : ℕ) (l₀ : List ℕ) (o₀ : Outcome Listed Vals) (bits₀ octets₀ : Vals → List ℕ)
    (o : Outcome Listed Vals) (bits octets : Vals → List ℕ) (b p : ℕ) (l : List ℕ) : Type 0 where
  pub front : List ℕ
  pub back : List ℕ
  pub many : length front ≡ b
  pub place : p ≡ pre + bit_octets k + length back
  pub stored : l ≡ filled k pre l₀ front back
  pub stops : (j q : ℕ) → o ≡ refused j q → o₀ ≡ refused j q
  pub ends : (vs : Vals) (r : Listed) → o ≡ got vs r → End o₀ bits₀ octets₀ front back (bits vs) (octets vs) r

pub rest_start : (k pre : ℕ) (m : List ℕ) {l₀ : List ℕ} {o₀ o : Outcome Listed Vals} {bits₀ octets₀ bits octets :
    Vals → List ℕ}
    → l₀ ≡ sets m pre (replicate (bit_octets k) 0) → o₀ ≡ o
    → ((vs : Vals) → bits₀ vs ≡ bits vs) → ((vs : Vals) → octets₀ vs ≡ octets vs)
    → Rest k pre l₀ o₀ bits₀ octets₀ o bits octets 0 (pre + bit_octets k) l₀
unfolding filled
rest_start k pre m s e f g =
    let zeros : List ℕ = replicate (bit_octets k) 0 in
    record {
      front = [];
      back = [];
      many = refl;
      place = sym (add-zero (pre + bit_octets k));
      stored = s ∙ sym (rw (sub-zero k, preamble_zeros k, s) (sets_over zeros zeros m pre (omega arith)));
      stops = λ j q h. e ∙ h;
      ends = λ vs r h. record { what = vs; walks = e ∙ h; presence = f vs; written = g vs };
    }

-- one value first, then others
abbrev pub first : Outcome Listed Val → (Listed → Outcome Listed Vals) → Outcome Listed Vals
first o k = next o λ v s. next (k s) λ vs s. got (value v vs) s

-- a value's presence bit, where it has one
abbrev pub Bit : (bits : List ℕ) → (count : ℕ) → Type 0
Bit bs n = ((bs ≡ []) × (n ≡ 0)) ⊎ ((x : ℕ) × (bs ≡ x ∷ []) × (x < 2) × (n ≡ 1))

module _ {k pre : ℕ} {l₀ : List ℕ} {o₀ : Outcome Listed Vals} {bits₀ octets₀ : Vals → List ℕ} {o : Outcome Listed
    Vals}
    {bits octets : Vals → List ℕ} {b p : ℕ} {l : List ℕ} (inv : Rest k pre l₀ o₀ bits₀ octets₀ o bits octets b p l)
  where
    -- the bit of one value noted
    bit_noted : (bs start : List ℕ) (c : ℕ) → Bit bs c → b + c ≤ k → start ≡ noted bs l pre b
        → (start ≡ filled k pre l₀ (inv.front ++ bs) inv.back) × (length bs ≡ c)
    unfolding noted
    bit_noted bs start c one h s =
        ⊎_elim
        (λ w. (s ∙ rw (w.0, append-nil inv.front) inv.stored, rw w.0 (sym w.1)))
        (λ w.
        let (x, is, lt, c-is) = w in (
          s ∙ rw (is, inv.stored, ← inv.many)
              (noted_filled k pre l₀ inv.front inv.back (omega (arith, inv.many)) x lt),
          rw is (sym c-is),
        ))
        one

    module _ {o₁ : Outcome Listed Val} (more : Listed → Outcome Listed Vals) (e : o ≡ first o₁ more) where
      -- one value was refused
      pub rest_stop : {x q : ℕ} → o₁ ≡ refused x q → o₀ ≡ refused x q
      unfolding next
      rest_stop {x} {q} f = inv.stops x q (rw (e, f))

      -- one value was written
      pub rest_turn : {ws cs : List ℕ} {n u : ℕ} {start l' : List ℕ} {d : Pen} {own : Val → List ℕ}
          (bits' octets' : Vals → List ℕ) (bs : List ℕ) (c : ℕ) (g : Penned ws cs o₁ own n u p start l' d)
          → Bit bs c → b + c ≤ k
          → start ≡ noted bs l pre b
          → ((vs : Vals) → bits (value g.what vs) ≡ bs ++ bits' vs)
          → ((vs : Vals) → octets (value g.what vs) ≡ own g.what ++ octets' vs)
          → Rest k pre l₀ o₀ bits₀ octets₀ (more (listed_at ws cs d.at d.used)) bits' octets' (b + c) d.to l'
      unfolding next filled
      rest_turn {start = start} {own = own} bits' octets' bs c g one h s eb eo =
          let (is, len) = bit_noted bs start c one h s in
          let put = own g.what in
          record {
            front = inv.front ++ bs;
            back = inv.back ++ put;
            many = omega (arith, length-append inv.front bs, inv.many);
            place = omega (arith, g.ends, inv.place, length-append inv.back put);
            stored = g.stored ∙ sets_after inv.back put _ (pre + bit_octets k) is inv.place;
            stops = λ j q f. inv.stops j q (rw (e, g.walks, f));
            ends = λ vs r f.
                let w = inv.ends (value g.what vs) r (rw (e, g.walks, f)) in
                record {
                  what = w.what;
                  walks = w.walks;
                  presence = w.presence ∙ rw (eb vs) (sym (append_assoc inv.front bs (bits' vs)));
                  written = w.written ∙ rw (eo vs) (sym (append_assoc inv.back put (octets' vs)));
                };
          }

-- the whole of a group, once nothing is left
pub record Whole (k pre : ℕ) (l₀ : List ℕ) (o₀ : Outcome Listed Vals) (bits₀ octets₀ : Vals → List ℕ) (r : Listed)
    (p : ℕ) (l : List ℕ) : Type 0 where
  pub what : Vals
  pub walks : o₀ ≡ got what r
  pub ends : p ≡ pre + length (preamble k (bits₀ what) ++ octets₀ what)
  pub stored : l ≡ sets l₀ pre (preamble k (bits₀ what) ++ octets₀ what)

pub rest_done : {k pre : ℕ} {l₀ : List ℕ} {o₀ : Outcome Listed Vals} {bits₀ octets₀ : Vals → List ℕ}
    {o : Outcome Listed Vals} {bits octets : Vals → List ℕ} {b p : ℕ} {l : List ℕ} {r : Listed}
    → Rest k pre l₀ o₀ bits₀ octets₀ o bits octets b p l → o ≡ got no_values r → bits no_values ≡ []
    → octets no_values ≡ [] → b ≡ k → Whole k pre l₀ o₀ bits₀ octets₀ r p l
unfolding filled
rest_done {k} {pre} {l₀} {bits₀ = bits₀} {octets₀} {r = r} inv e fb fo all =
    let w = inv.ends no_values r e in
    let front : bits₀ w.what ≡ inv.front = w.presence ∙ rw (fb, append-nil inv.front) in
    let back : octets₀ w.what ≡ inv.back = w.written ∙ rw (fo, append-nil inv.back) in
    let P = preamble k inv.front in
    let len = preamble_length k inv.front in
    let none : k - length inv.front ≡ 0 = omega (arith, inv.many) in
    record {
      what = w.what;
      walks = w.walks;
      ends = rw (front, back) (omega (arith, inv.place, len, length-append P inv.back));
      stored = rw (front, back)
          (inv.stored ∙ rw (none, append-nil inv.front, ← len) (sets_append P inv.back l₀ pre));
    }
