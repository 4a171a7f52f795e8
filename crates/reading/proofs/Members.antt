-- The members of a group: one and those after it; which members a SEQUENCE, a SEQUENCE OF, a CHOICE and a value alone
-- have; what a sound table gives of them.
-- Premises are the callees' `ensures`. Assumes nothing.
use mathlib.Core.Path.{◌≡◌, refl, sym, ◌∙◌}
use mathlib.Core.Bool.{Bool, true, false, false≢true}
use mathlib.Core.List.{List, []}
use Prim.Native.Nat.{ℕ, zero, suc, ◌+◌, ◌-◌, ◌/◌, ◌<◌, ◌≤◌}
use native.Mathlib.Omega.{arith}
use native.Mathlib.Nat.{add-zero, sub-zero}
use native.Mathlib.Numerals.{add-one}
use lib.ListN.{length, get_or, drop}
use lib.Seq.{drop-drop, get_or-drop}
use Rattle.x696.specs.Outcome.{Outcome, refused, got, next}
use Rattle.x696.proofs.OutcomeLaws.{cases}
use Rattle.x696.specs.Digits.{Below}
use Rattle.x696.specs.Bits.{bit_octets, read_preamble}
use Rattle.x696.specs.Variable.{read_unsigned}
use Rattle.x696.specs.Value.{Val, node, no_values, only}
use Rattle.x696.specs.Types.{Ty, presence_count, mark_count}
use Rattle.x696.specs.Read.{Message, message, times, component_by, read_components, read, read_component}
use Rattle.x696.specs.Operations.{node_limit}
use Rattle.x696.specs.Table.{row_kind, row_first, row_count, item_width, component_row, component_mark, component_default}
use Rattle.x696.specs.Table.{items_from, components_from, type_of}
use Rattle.x696.specs.TableFault.{row_sound}
use Rattle.x696.specs.SoundTable.{Component}
use Rattle.octets.specs.Answers.{QuantityAnswer}
use Rattle.octets.specs.declared.answers.Quantity.{Quantity}
use Rattle.octets.proofs.Answered.{next_got}
use Rattle.kinds.specs.Run.{inside_at}
use Rattle.octets.proofs.PresenceBits.{bits_read}
use Rattle.reading.specs.Members.{member_row, member_mark, member_at, members, Member, Members}
use Rattle.reading.proofs.Groups.{first}
use Rattle.reading.proofs.Elements.{quantity_first}
use Rattle.reading.proofs.Sequences.{cases_eq, plain_any, marked_one, bits_at, node_first}
use Rattle.std.proofs.Common.{Result, Ok}
use Rattle.octets.specs.declared.faults.Fault.{Fault}

-- two readings that go on alike
next_alike : {S A B : Type 0} (o : Outcome S A) (f g : A → S → Outcome S B) → ((x : A) (s : S) → f x s ≡ g x s)
    → next o f ≡ next o g
unfolding next
next_alike (refused j q) f g h = refl
next_alike (got x s) f g h = h x s

-- ---- one member, and those after it
module _ (rows items msg : List ℕ) (inner : ℕ) (listed : Bool) (pre : ℕ) where
  pub members_step : (n j i b m r o : ℕ) (s : Message) → i < n
      → m ≡ member_mark items listed (j + i) → r ≡ member_row items inner listed (j + i) → o ≡ presence_count m
      → members rows items msg inner listed pre (n - i) (j + i) b s
      ≡ first (member_at rows items msg m (j + i) r pre b s)
      (λ s. members rows items msg inner listed pre (n - (i + 1)) (j + (i + 1)) (b + o) s)
  unfolding members
  members_step n j i b m r o s h em er eo =
      let k : n - i ≡ suc (n - (i + 1)) = omega arith in
      let q : j + (i + 1) ≡ suc (j + i) = omega arith in
      rw (k, q, eo, em, er)

  pub members_start : (n j b : ℕ) (s : Message)
      → members rows items msg inner listed pre n j b s ≡ members rows items msg inner listed pre (n - 0) (j + 0) b s
  members_start n j b s = rw (sub-zero n, add-zero j)

  pub members_end : (n j i b : ℕ) (s : Message) → n ≤ i
      → members rows items msg inner listed pre (n - i) (j + i) b s ≡ got no_values s
  unfolding members
  members_end n j i b s h = let e : n - i ≡ 0 = omega arith in rw e

-- ---- one type over and over
module _ (rows items msg : List ℕ) (inner pre : ℕ) where
  plain : (j b : ℕ) (s : Message)
      → member_at rows items msg (member_mark items false j) j (member_row items inner false j) pre b s
      ≡ read node_limit (type_of rows items inner) (length msg) s
  unfolding member_at member_mark member_row read_component component_by
  plain j b s = refl

  pub times_members : (n j b : ℕ) (s : Message)
      → times (λ s. read node_limit (type_of rows items inner) (length msg) s) n s
      ≡ members rows items msg inner false pre n j b s
  unfolding times members
  times_members zero j b s = refl
  times_members (suc n) j b s =
      rw (plain j b s)
      (next_alike (read node_limit (type_of rows items inner) (length msg) s) _ _ λ v s.
      rw (times_members n (suc j) (b + presence_count (member_mark items false j)) s) refl)

  pub alone_members : (b : ℕ) (s : Message)
      → members rows items msg inner false pre 1 0 b s
      ≡ next (read node_limit (type_of rows items inner) (length msg) s) λ v s. got (only v) s
  unfolding members next
  alone_members b s = rw (plain 0 b s) refl

-- ---- the components of a SEQUENCE, with k presence bits
module _ (rows items msg : List ℕ) (inner at k : ℕ) (below : Below 8 msg)
    (bits-got : read_preamble k at (drop at msg) ≡ got (bits_at msg at k) (drop (at + bit_octets k) msg)) where
  abbrev T : ℕ → Ty
  T = λ j. type_of rows items j

  same_bit : (j b : ℕ) (s : Message) → b + presence_count (component_mark items j) ≤ k
      → read_component node_limit (component_mark items j) (component_default items j) (T (component_row items j))
      (get_or (drop b (bits_at msg at k)) 0 0) (length msg) s
      ≡ member_at rows items msg (member_mark items true j) j (member_row items inner true j) at b s
  unfolding member_at member_mark member_row
  same_bit j b s h =
      cases_eq (component_mark items j) 0
      (λ e. plain_any (component_mark items j) _ _ _ _ _ _ e)
      (λ e.
      let more : b < k = omega (arith, h, marked_one (component_mark items j) e) in
      rw (get_or-drop b (bits_at msg at k) 0 0, add-zero b, bits_read k at at msg below bits-got b more))

  pub components_members : (n j b : ℕ) (s : Message) → b + mark_count (components_from T items j n) ≤ k
      → read_components node_limit (components_from T items j n) (drop b (bits_at msg at k)) (length msg) s
      ≡ members rows items msg inner true at n j b s
  unfolding read_components read_component read items_from members mark_count
  components_members zero j b s h = refl
  components_members (suc n) j b s h =
      let here = same_bit j b s (omega arith) in
      let m : member_mark items true j ≡ component_mark items j = unfold member_mark in refl in
      rw (here, m, drop-drop (presence_count (component_mark items j)) b (bits_at msg at k))
      (next_alike (member_at rows items msg (component_mark items j) j (member_row items inner true j) at b s) _ _ λ v s.
      rw (components_members n (suc j) (b + presence_count (component_mark items j)) s (omega arith)) refl)

-- ---- the groups
module _ (rows items msg : List ℕ) (row at count : ℕ) (inside : at ≤ length msg)
    (sound : row_sound rows items row ≡ true) where
  abbrev D : Outcome Message Val
  D = inside_at (type_of rows items row) msg at count

  pub sequence_members : (is : row_kind rows row ≡ 10) (g n k inner : ℕ) → g ≡ row_first rows row → n ≡ row_count rows row
      → ((f : ℕ → Ty) → k ≡ mark_count (components_from f items g n)) → Below 8 msg
      → read_preamble k at (drop at msg) ≡ got (bits_at msg at k) (drop (at + bit_octets k) msg)
      → D ≡ next (members rows items msg inner true at n g 0 (message (drop (at + bit_octets k) msg) (count + 1)))
      λ vs s. got (node 10 n [] vs) s
  sequence_members is g n k inner eg en ek below bits-got =
      let few = ek (λ j. type_of rows items j) in
      let same = components_members rows items msg inner at k below bits-got n g 0
      (message (drop (at + bit_octets k) msg) (count + 1)) (omega arith) in
      node_first rows items msg row at count inside sound is g n k eg en ek bits-got
      ∙ rw same refl

  pub quantity_members : (is : row_kind rows row ≡ 11) {x : Result Quantity Fault}
      → QuantityAnswer msg (read_unsigned at (drop at msg)) at x
      → (g inner : ℕ) (y : Quantity) (pre : ℕ) → x ≡ Ok y → g ≡ row_first rows row
      → inner ≡ component_row items g
      → D ≡ next (members rows items msg inner false pre y.many.0 0 0 (message (drop y.next msg) (count + 1)))
      λ vs s. got (node 11 y.many.0 [] vs) s
  quantity_members is q g inner y pre e eg ei =
      let s : Message = message (drop y.next msg) (count + 1) in
      quantity_first rows items msg row at count inside sound is ∙ next_got _ (q.went y e).reads
      ∙ rw (← eg, ← ei, ← add-one count, times_members rows items msg inner pre y.many.0 0 0 s) refl

-- ---- what a sound table gives of the members
pub members_alone : {rows items : List ℕ} {above inner n : ℕ} → inner < above
    → Members rows items above inner false 0 0 n
members_alone h = record { alone = λ e. (refl, refl, h); among = λ e. absurd (false≢true e) }

pub members_among : {rows items : List ℕ} {above inner first bit n : ℕ} → first + n ≤ length items / item_width
    → bit + n ≤ 1024 → ((i : ℕ) → i < n → Component rows items above (first + i))
    → Members rows items above inner true first bit n
members_among h b f = record { alone = λ e. absurd (false≢true (sym e)); among = λ e. (h, b, f) }

-- and of one
module _ {rows items : List ℕ} {above inner : ℕ} {listed : Bool} {first bit n : ℕ}
    (known : Members rows items above inner listed first bit n) (i : ℕ) (h : i < n) where
  pub member_inside : listed ≡ true → first + i < length items / item_width
  member_inside e = omega (arith, (known.among e).0)

  pub member_fits : length items / item_width ≤ 1024 → (k : ℕ) → n ≤ k → 1024 ≤ k → first + i ≤ k
  member_fits few k g d =
      cases listed
      (λ e. omega (arith, member_inside e))
      (λ e. omega (arith, (known.alone e).0))

  pub bit_fits : (k : ℕ) → n ≤ k → 1024 ≤ k → bit + i < k
  bit_fits k g d =
      cases listed
      (λ e. omega (arith, (known.among e).1))
      (λ e. omega (arith, (known.alone e).1))

  pub member_known : (b : ℕ) → b ≤ bit + i → (m r : ℕ)
      → m ≡ member_mark items listed (first + i) → r ≡ member_row items inner listed (first + i)
      → Member rows items above r m (first + i) b
  unfolding member_mark member_row
  member_known b g m r em er =
      cases listed
      (λ e.
      let one = (known.among e).2 i h in
      record {
        lower = rw (er, e) one.lower;
        marked = λ z.
            (member_inside e, one, rw (er, e) refl, rw (em, e) refl, omega (arith, (known.among e).1));
      })
      (λ e. record { lower = rw (er, e) (known.alone e).2; marked = λ z. absurd (z (rw (em, e) refl)) })
