-- A SEQUENCE: its preamble, then its components, each with the presence bit that its mark gives it; one law for each
-- return of its reader. Premises are the callees' `ensures`.
-- Assumes nothing.
use mathlib.Core.Path.{◌≡◌, refl, ap, ◌∙◌}
use mathlib.Core.Bool.{Bool, true, false}
use mathlib.Core.List.{List, []}
use Prim.Native.Nat.{ℕ, zero, suc, ◌+◌, ◌-◌, ◌/◌, ◌^◌, ◌<◌, ◌≤◌}
use native.Mathlib.Numerals.{add-one}
use lib.ListN.{length, take, drop}
use lib.Dec.{eqb}
use borrow.Author.Tests.{eqb-true, eqb-false}
use Rattle.x696.specs.Outcome.{Outcome, refused, got, next, must}
use Rattle.x696.proofs.OutcomeLaws.{cases}
use Rattle.x696.specs.Digits.{digits, from_digits}
use Rattle.x696.specs.Bits.{bit_octets, unused_bits, low_bits_clear, read_preamble}
use Rattle.x696.specs.Value.{Val, node}
use Rattle.x696.specs.Types.{Ty, item_count, presence_count, mark_count}
use Rattle.x696.specs.Read.{Message, message, component_by, read_inside, read_components, read_component}
use Rattle.x696.specs.Operations.{node_limit}
use Rattle.x696.specs.Table.{row_kind, row_first, row_count, items_from}
use Rattle.x696.specs.Table.{components_from, type_of}
use Rattle.x696.specs.TableFault.{row_sound}
use Rattle.x696.proofs.TableKinds.{sequence_type}
use Rattle.octets.proofs.Answered.{next_refused, next_got}
use Rattle.octets.proofs.CountedRuns.{run_lacks, run_there}
use Rattle.kinds.specs.Run.{inside_at}
use Rattle.kinds.proofs.Ran.{offset_is}

-- ---- the preamble of k presence bits
unfoldable pub bits_at : (msg : List ℕ) → (at k : ℕ) → List ℕ
bits_at msg at k = digits 1 k (from_digits 8 (take (bit_octets k) (drop at msg)) / 2 ^ unused_bits k)

module _ (msg : List ℕ) (at k : ℕ) (inside : at ≤ length msg) where
  pub preamble_short : length msg - at < bit_octets k → read_preamble k at (drop at msg) ≡ refused 5 at
  unfolding read_preamble
  preamble_short h = next_refused _ (run_lacks msg at (bit_octets k) at inside h)

  module _ (h : bit_octets k ≤ length msg - at) (t : Bool)
      (et : t ≡ low_bits_clear (unused_bits k) (take (bit_octets k) (drop at msg))) where
    pub preamble_padded : t ≡ false → read_preamble k at (drop at msg) ≡ refused 6 at
    unfolding read_preamble must
    preamble_padded f = next_got _ (run_there msg at (bit_octets k) at inside h) ∙ rw (← et, f)

    pub preamble_got : t ≡ true
        → read_preamble k at (drop at msg) ≡ got (bits_at msg at k) (drop (at + bit_octets k) msg)
    unfolding read_preamble must bits_at
    preamble_got f = next_got _ (run_there msg at (bit_octets k) at inside h) ∙ rw (← et, f)

-- ---- n components from g on
module _ (f : ℕ → Ty) (items : List ℕ) where
  pub components_count : (g n : ℕ) → item_count (components_from f items g n) ≡ n
  unfolding item_count items_from
  components_count g zero = refl
  components_count g (suc n) = ap suc (components_count (suc g) n)

pub cases_eq : (a b : ℕ) {X : Type 0} → (a ≡ b → X) → ((a ≡ b → ⊥) → X) → X
cases_eq a b f g = cases (eqb a b) (λ e. f (eqb-true a b e)) (λ e. g (eqb-false a b e))

-- a plain component has no bit
pub plain_any : (m d : ℕ) (t : Ty) (x y end : ℕ) (s : Message) → m ≡ 0
    → read_component node_limit m d t x end s ≡ read_component node_limit m d t y end s
unfolding read_component component_by
plain_any m d t x y end s e = rw e

pub marked_one : (m : ℕ) → (m ≡ 0 → ⊥) → presence_count m ≡ 1
unfolding presence_count
marked_one zero h = absurd (h refl)
marked_one (suc m) h = refl

-- ---- a row of kind 10: n components from g on, k presence bits
module _ (rows items msg : List ℕ) (row at count : ℕ) (inside : at ≤ length msg)
    (sound : row_sound rows items row ≡ true) (is : row_kind rows row ≡ 10) (g n k : ℕ)
    (eg : g ≡ row_first rows row) (en : n ≡ row_count rows row)
    (ek : (f : ℕ → Ty) → k ≡ mark_count (components_from f items g n)) where
  abbrev pub D : Outcome Message Val
  D = inside_at (type_of rows items row) msg at count

  abbrev T : ℕ → Ty
  T = λ j. type_of rows items j

  pub preamble_first : D ≡ next (read_preamble k at (drop at msg)) λ bits r.
      next (read_components node_limit (components_from T items g n) bits (length msg) (message r (suc count))) λ vs s.
      got (node 10 n [] vs) s
  unfolding inside_at read_inside
  preamble_first =
      let many = components_count T items g n in
      rw (sequence_type rows items row sound is, offset_is msg at inside, ← eg, ← en, ← ek T, many)

  pub preamble_stops : {j q : ℕ} → read_preamble k at (drop at msg) ≡ refused j q → D ≡ refused j q
  preamble_stops f = preamble_first ∙ next_refused _ f

  pub node_first : read_preamble k at (drop at msg) ≡ got (bits_at msg at k) (drop (at + bit_octets k) msg)
      → D ≡ next (read_components node_limit (components_from T items g n) (bits_at msg at k) (length msg)
      (message (drop (at + bit_octets k) msg) (count + 1))) λ vs s. got (node 10 n [] vs) s
  node_first bits-got = preamble_first ∙ next_got _ bits-got ∙ rw (add-one count)
