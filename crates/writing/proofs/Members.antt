-- The members of a group, one after another, each with the presence bit that its mark gives it: one law for each way
-- that their writer returns. Premises are the callees' `ensures`. Assumes nothing.
use mathlib.Core.Path.{◌≡◌, refl}
use mathlib.Core.Bool.{Bool, true, false, cond, not}
use mathlib.Core.List.{List, [], ◌++◌}
use mathlib.Core.Logic.{inl, inr}
use Prim.Native.Nat.{ℕ, zero, suc, ◌+◌, ◌-◌, ◌*◌, ◌<◌, ◌≤◌}
use native.Mathlib.Omega.{arith}
use native.Mathlib.Nat.{add-zero, sub-zero}
use lib.ListN.{length, replicate}
use lib.Seq.{sets}
use Rattle.x696.specs.Outcome.{refused, got}
use Rattle.x696.specs.Bits.{bit_octets}
use Rattle.x696.specs.Value.{Val, Vals, no_values, value, node_width, same}
use Rattle.x696.specs.Types.{Ty, Items, no_items, item, presence_count, mark_count, missing}
use Rattle.x696.specs.Encode.{bit, presence_bits, presence, carried_octets, encode, encode_components, own_octets}
use Rattle.x696.specs.Walk.{Listed, walk, walk_components, walk_component}
use Rattle.x696.specs.Table.{component_default, items_from, type_of}
use Rattle.octets.specs.declared.faults.Fault.{Fault}
use Rattle.pens.specs.Put.{pen, listed_at, node_octets}
use Rattle.pens.specs.declared.pen.Pen.{Pen}
use Rattle.reading.specs.Members.{member_row, member_mark}
use Rattle.writing.specs.Members.{copies, members, PutAll}
use Rattle.writing.specs.Noted.{Noted}
use Rattle.writing.proofs.Groups.{Rest, Bit, first, rest_start, rest_turn, rest_stop, rest_done}
use Rattle.std.proofs.Common.{Result, Ok, Err}
use Rattle.octets.specs.Cause.{code_of}

-- ---- a component's presence bit, and what is left when none is
bit_below : (t : Bool) → bit t < 2
unfolding bit
bit_below true = omega arith
bit_below false = omega arith

presence_bit_lem : (m d : ℕ) (t : Ty) (v : Val) → Bit (presence_bits m d t v) (presence_count m)
unfolding presence_bits presence_count
presence_bit_lem zero d t v = inl (refl, refl)
presence_bit_lem (suc m) d t v = inr (_, refl, bit_below (not (same v (missing (suc m) d t))), refl)

presence_none : (is : Items) → presence is no_values ≡ []
unfolding presence
presence_none no_items = refl
presence_none (item m d t is) = refl

octets_none : (is : Items) → encode_components is no_values ≡ []
unfolding encode_components
octets_none no_items = refl
octets_none (item m d t is) = refl

-- ---- n members from g on, i of them written
unfoldable member_default : (items : List ℕ) → (listed : Bool) → (j : ℕ) → ℕ
member_default items listed j = cond listed (component_default items j) 0

module _ (rows items : List ℕ) (inner : ℕ) (listed : Bool) (g n : ℕ) where
  abbrev pub left : (i : ℕ) → Items
  left i = members rows items inner listed (g + i) (n - i)

  abbrev mark : (i : ℕ) → ℕ
  mark i = member_mark items listed (g + i)

  abbrev type : (i : ℕ) → Ty
  type i = type_of rows items (member_row items inner listed (g + i))

  -- presence bits of what is left
  abbrev pub marks_left : (i : ℕ) → ℕ
  marks_left i = mark_count (left i)

  left_all : left 0 ≡ members rows items inner listed g n
  left_all = rw (add-zero g, sub-zero n)

left_step : (rows items : List ℕ) (inner : ℕ) (listed : Bool) (g n i : ℕ) → i < n
    → left rows items inner listed g n i
    ≡ item (mark rows items inner listed g n i) (member_default items listed (g + i)) (type rows items inner listed g
    n i)
    (left rows items inner listed g n (i + 1))
unfolding items_from members copies member_mark member_row member_default
left_step rows items inner true g n i h =
    let k : n - i ≡ suc (n - (i + 1)) = omega arith in
    let j : suc (g + i) ≡ g + (i + 1) = omega arith in
    rw (k, j)
left_step rows items inner false g n i h =
    let k : n - i ≡ suc (n - (i + 1)) = omega arith in
    rw k

left_none : (rows items : List ℕ) (inner : ℕ) (listed : Bool) (g n i : ℕ) → n ≤ i
    → left rows items inner listed g n i ≡ no_items
unfolding items_from members copies
left_none rows items inner true g n i h = let e : n - i ≡ 0 = omega arith in rw e
left_none rows items inner false g n i h = let e : n - i ≡ 0 = omega arith in rw e

-- a plain member's default is not looked at
member_noted : (items : List ℕ) (listed : Bool) (j : ℕ) {ws cs : List ℕ} {t : Ty} {s : Listed} {pre b n u p : ℕ}
    {l l' : List ℕ} {c : Pen}
    → Noted ws cs (member_mark items listed j) (component_default items j) t s pre b n u p l l' c
    → Noted ws cs (member_mark items listed j) (member_default items listed j) t s pre b n u p l l' c
unfolding member_mark member_default own_octets carried_octets presence_bits
member_noted items true j w = w
member_noted items false j w = record {
  start = w.start;
  goes = record {
    what = w.goes.what;
    walks = w.goes.walks;
    inside = w.goes.inside;
    within = w.goes.within;
    ends = w.goes.ends;
    bound = w.goes.bound;
    stored = w.goes.stored;
  };
  bit = w.bit;
}

module _ (rows items : List ℕ) (inner : ℕ) (listed : Bool) (g n : ℕ) where
  abbrev from : (i : ℕ) → Items
  from i = left rows items inner listed g n i

  abbrev marked : (i : ℕ) → ℕ
  marked i = mark rows items inner listed g n i

  abbrev typed : (i : ℕ) → Ty
  typed i = type rows items inner listed g n i

  abbrev given : (i : ℕ) → ℕ
  given i = member_default items listed (g + i)

  walk_step : (i : ℕ) (s : Listed) → i < n
      → walk_components (from i) s ≡ first (walk_component (marked i) (typed i) s) (λ s. walk_components (from (i + 1))
      s)
  unfolding walk walk_component
  walk_step i s h = rw (left_step rows items inner listed g n i h)

  presence_step : (i : ℕ) (v : Val) (vs : Vals) → i < n
      → presence (from i) (value v vs) ≡ presence_bits (marked i) (given i) (typed i) v ++ presence (from (i + 1)) vs
  unfolding presence
  presence_step i v vs h = rw (left_step rows items inner listed g n i h)

  octets_step : (i : ℕ) (v : Val) (vs : Vals) → i < n
      → encode_components (from i) (value v vs)
      ≡ own_octets (marked i) (given i) (typed i) v ++ encode_components (from (i + 1)) vs
  unfolding encode own_octets
  octets_step i v vs h = rw (left_step rows items inner listed g n i h)

  pub marks_step : (i : ℕ) → i < n
      → marks_left rows items inner listed g n i ≡ presence_count (marked i)
      + marks_left rows items inner listed g n (i + 1)
  unfolding mark_count
  marks_step i h = rw (left_step rows items inner listed g n i h)

  -- the presence bits of what is left, one member later
  pub marks_again : (i b : ℕ) {m c k : ℕ} → i < n → b + marks_left rows items inner listed g n i ≡ k → m ≡ member_mark
      items listed (g + i)
      → c ≡ presence_count m → b + c + marks_left rows items inner listed g n (i + 1) ≡ k
  marks_again i b h e em ec =
      let now-first = marks_step i h in
      rw (ec, em) (omega (arith, now-first))

  marks_none : (i : ℕ) → n ≤ i → marks_left rows items inner listed g n i ≡ 0
  unfolding mark_count
  marks_none i h = rw (left_none rows items inner listed g n i h)

  walk_none : (i : ℕ) (s : Listed) → n ≤ i → walk_components (from i) s ≡ got no_values s
  unfolding walk
  walk_none i s h = rw (left_none rows items inner listed g n i h)

-- what is left of the members: b presence bits noted, the next octet at p
abbrev pub MembersLeft : (rows items ws cs l₀ : List ℕ) (inner : ℕ) (listed : Bool) (pre g n a₀ u₀ i b a u p : ℕ)
    (l : List ℕ)
    → Type 0
MembersLeft rows items ws cs l₀ inner listed pre g n a₀ u₀ i b a u p l =
    Rest (marks_left rows items inner listed g n 0) pre l₀
    (walk_components (left rows items inner listed g n 0) (listed_at ws cs a₀ u₀))
    (λ vs. presence (left rows items inner listed g n 0) vs) (λ vs. encode_components (left rows items inner listed g
    n 0) vs)
    (walk_components (left rows items inner listed g n i) (listed_at ws cs a u))
    (λ vs. presence (left rows items inner listed g n i) vs) (λ vs. encode_components (left rows items inner listed g
    n i) vs) b p l

module _ (rows items ws cs : List ℕ) (inner : ℕ) (listed : Bool) (pre g n a₀ u₀ : ℕ) where
  abbrev all : Items
  all = members rows items inner listed g n

  pub members_start : {to : ℕ} {l : List ℕ} → to ≡ pre + bit_octets (mark_count all)
      → l ≡ sets l pre (replicate (bit_octets (mark_count all)) 0)
      → MembersLeft rows items ws cs l inner listed pre g n a₀ u₀ 0 0 a₀ u₀ to l
  members_start {to} {l} e s =
      let whole = left_all rows items inner listed g n in
      rw (e, ← whole)
      (rest_start (marks_left rows items inner listed g n 0) pre l (rw whole s) refl (λ vs. refl) (λ vs. refl))

  module _ (l₀ : List ℕ) (a u : ℕ) {i b p : ℕ} {l : List ℕ}
      (inv : MembersLeft rows items ws cs l₀ inner listed pre g n a₀ u₀ i b a u p l) where
    pub members_stop : {to m row : ℕ} {l' : List ℕ} {f : Fault} → i < n → m ≡ member_mark items listed (g + i)
        → row ≡ member_row items inner listed (g + i)
        → walk_component m (type_of rows items row) (listed_at ws cs a u) ≡ refused (code_of f.cause) f.place
        → PutAll ws cs all (listed_at ws cs a₀ u₀) pre a₀ u₀ to l₀ l' (Err f)
    members_stop {f = f} h em er e =
        let stop = rest_stop inv _ (walk_step rows items inner listed g n i (listed_at ws cs a u) h) (rw (em, er) at
        e) in
        record {
          went = λ c q. let z : ◌≡◌ {A = ℕ} 0 1 = cc in absurd (omega arith);
          stopped = λ x q.
              let same_fault : f ≡ x = cc in
              rw (← same_fault, ← (left_all rows items inner listed g n)) stop;
        }

    pub member_goes : {l' : List ℕ} {d : Pen} {m row c : ℕ} → i < n → b + marks_left rows items inner listed g n i
        ≡ marks_left rows items inner listed g n 0 → m ≡ member_mark items listed (g + i)
        → row ≡ member_row items inner listed (g + i) → c ≡ presence_count m
        → Noted ws cs m (component_default items (g + i)) (type_of rows items row) (listed_at ws cs a u) pre b a u p l
        l' d
        → MembersLeft rows items ws cs l₀ inner listed pre g n a₀ u₀ (i + 1) (b + c) d.at d.used d.to l'
    member_goes h eb em er ec w =
        let k = marked rows items inner listed g n i in
        let t = typed rows items inner listed g n i in
        let y = member_noted items listed (g + i) (rw (em, er) at w) in
        let v = y.goes.what in
        let fits : b + presence_count k ≤ marks_left rows items inner listed g n 0 =
        omega (arith, marks_step rows items inner listed g n i h) in
        rw (ec, em)
        (rest_turn inv _ (walk_step rows items inner listed g n i (listed_at ws cs a u) h)
        (λ vs. presence (left rows items inner listed g n (i + 1)) vs)
        (λ vs. encode_components (left rows items inner listed g n (i + 1)) vs)
        (presence_bits k (given rows items inner listed g n i) t v) (presence_count k) y.goes
        (presence_bit_lem k (given rows items inner listed g n i) t v) fits (y.bit v _ y.goes.walks)
        (λ vs. presence_step rows items inner listed g n i v vs h) (λ vs. octets_step rows items inner listed g n i v
        vs h))

    pub members_done : {to : ℕ} {r : Result Pen Fault} → n ≤ i
        → b + marks_left rows items inner listed g n i ≡ marks_left rows items inner listed g n 0
        → a * node_width ≤ length ws → u ≤ length cs → p + (a₀ * node_octets + u₀) ≤ to + (a * node_octets + u)
        → r ≡ Ok (pen a u p) → PutAll ws cs all (listed_at ws cs a₀ u₀) pre a₀ u₀ to l₀ l r
    members_done h eb inside within bound e =
        let rest = left rows items inner listed g n i in
        let z = rest_done inv (walk_none rows items inner listed g n i (listed_at ws cs a u) h) (presence_none rest)
        (octets_none rest) (omega (arith, marks_none rows items inner listed g n i h)) in
        record {
          went = λ c q.
              let is : pen a u p ≡ c = cc in
              rw (← is, ← (left_all rows items inner listed g n))
              (record {
                what = z.what;
                walks = z.walks;
                inside = inside;
                within = within;
                ends = z.ends;
                bound = bound;
                stored = z.stored;
              });
          stopped = λ x q. let y : ◌≡◌ {A = ℕ} 0 1 = cc in absurd (omega arith);
        }
