-- The new message laid into the lent buffer: three runs of stores and one bit. Premises are the callees' `ensures`.
-- Assumes nothing.
use mathlib.Core.Path.{◌≡◌, refl, sym, ◌∙◌}
use mathlib.Core.Bool.{Bool, true, not, cond}
use mathlib.Core.List.{List, ◌++◌, append_assoc}
use Prim.Native.Nat.{ℕ, ◌+◌, ◌-◌, ◌/◌, ◌%◌, ◌<◌, ◌≤◌}
use native.Mathlib.Omega.{arith}
use lib.Dec.{eqb}
use lib.ListN.{length, get_or, set, take, drop, length-append, length-drop, length-set}
use lib.Seq.{sets, sets-eq, length-take-le, take_all}
use borrow.Author.Tests.{eq-eqb, ne_eqb, eqb-false}
use Rattle.x696.specs.Outcome.{got}
use Rattle.x696.proofs.OutcomeLaws.{cases, refused_never}
use Rattle.x696.specs.Value.{Val, same}
use Rattle.x696.proofs.ValueLaws.{same_refl}
use Rattle.x696.specs.Types.{Ty, missing}
use Rattle.x696.specs.Encode.{own_octets}
use Rattle.x696.specs.Walk.{Listed, list_at, walk_component}
use Rattle.x696.specs.Table.{row_kind, type_of}
use Rattle.x696.specs.TableCheck.{default_sound}
use Rattle.x696.specs.TableFault.{row_sound}
use Rattle.x696.proofs.TableRows.{kind_known}
use Rattle.x696.specs.Operations.{over}
use Rattle.octets.specs.Presence.{with_bit, set_bit}
use Rattle.octets.proofs.Stores.{sets_after}
use Rattle.octets.proofs.EditBits.{set_bit_front}
use Rattle.pens.specs.Put.{Put}
use Rattle.writing.specs.Noted.{missing_at}
use Rattle.writing.proofs.NodeTests.{kind_is}
use Rattle.writing.proofs.Missing.{missing_got, carried_walk, carried_differs}
use Rattle.finding.specs.declared.spot.Spot.{Spot}
use Rattle.editing.specs.Splicing.{around, spliced_octets, Spliced}
use Rattle.std.proofs.Common.{Result, Ok, Err}
use Rattle.octets.specs.declared.faults.Fault.{Fault}
use Rattle.pens.specs.declared.pen.Pen.{Pen}

-- ---- the bit
pub mark_none : (l l' : List ℕ) (m : ℕ) → m ≡ 0 → l ≡ cond (eqb m 0) l l'
mark_none l l' m e = rw (eq-eqb m 0 e) refl

pub mark_put : (l l' : List ℕ) {l'' : List ℕ} (m : ℕ) → (m ≡ 0 → ⊥) → l'' ≡ l' → l'' ≡ cond (eqb m 0) l l'
mark_put l l' m h e = rw (ne_eqb m 0 h) e

pub bit_as : (l : List ℕ) (pre b : ℕ) {l' : List ℕ} {x : Bool} (ws : List ℕ) {j k : ℕ} (m d : ℕ)
    → x ≡ missing_at ws 0 j m d
    → j ≡ k
    → l' ≡ set l (pre + b / 8) (with_bit (get_or l (pre + b / 8) 0) (b % 8) (not x))
    → l' ≡ set_bit l pre b (not (missing_at ws 0 k m d))
unfolding set_bit
bit_as l pre b ws m d ex ek e = e ∙ rw (ex, ek) refl

-- the node that is looked at tells whether the new component is carried
same_cases : (b : Bool) {x y : Val} → x ≡ y → b ≡ true → b ≡ same x y
same_cases b {x} {y} e h = h ∙ rw e (sym (same_refl y))

carried_as : (rows items : List ℕ) (row m d : ℕ) (ws cs : List ℕ) → row_sound rows items row ≡ true → (m ≡ 0 → ⊥)
    → (1 < m → default_sound (type_of rows items row) d ≡ true) → {y : Val} {r : Listed}
    → walk_component m (type_of rows items row) (list_at ws cs 0) ≡ got y r
    → missing_at ws 0 (row_kind rows row) m d ≡ same y (missing m d (type_of rows items row))
carried_as rows items row m d ws cs sound marked given {y} {r} walks =
    let t = type_of rows items row in
    let k = row_kind rows row in
    let is = sym (kind_is rows items row sound) in
    let known = (kind_known rows items row sound).0 in
    cases (missing_at ws 0 k m d)
    (λ e.
    let w = sym walks ∙ missing_got t ws cs 0 0 k d is m marked e (given) in
    let q : y ≡ missing m d t = cc in
    same_cases _ q e)
    (λ e.
    let w = sym (carried_walk t ws cs 0 0 k d is known m marked e) ∙ walks in
    e ∙ sym (carried_differs t ws cs 0 0 k d is known m marked e w))

-- ---- the stores
set_bit_length : (xs : List ℕ) (pre b : ℕ) (x : Bool) → length (set_bit xs pre b x) ≡ length xs
unfolding set_bit
set_bit_length xs pre b x = length-set xs (pre + b / 8) _

-- stores over the front of a buffer that has room
sets_over : (vs l : List ℕ) → length vs ≤ length l → sets l 0 vs ≡ over vs l
unfolding over
sets_over vs l h = let e : 0 + length vs ≡ length vs = omega arith in rw e at (sets-eq vs l 0 (omega arith))

-- three runs, one after another
runs : (xs ys zs out : List ℕ) {l₁ l₂ l₃ : List ℕ} {i j : ℕ} → l₁ ≡ sets out 0 xs → i ≡ length xs → l₂ ≡ sets l₁ i ys
    → j ≡ length xs + length ys
    → l₃ ≡ sets l₂ j zs → length xs + (length ys + length zs) ≤ length out → l₃ ≡ over (xs ++ (ys ++ zs)) out
runs xs ys zs out {l₂ = l₂} {j = j} e₁ ei e₂ ej e₃ room =
    let two : l₂ ≡ sets out 0 (xs ++ ys) = e₂ ∙ sets_after xs ys out 0 e₁ (omega arith) in
    let there : j ≡ 0 + length (xs ++ ys) = omega (arith, length-append xs ys) in
    e₃
    ∙ sets_after (xs ++ ys) zs out 0 two there
    ∙ rw (append_assoc xs ys zs)
    (sets_over (xs ++ (ys ++ zs)) out (omega (arith, length-append xs (ys ++ zs), length-append ys zs)))

-- one bit of what lies over the front
over_bit : (xs out : List ℕ) (pre b : ℕ) (x : Bool) → pre + b / 8 < length xs
    → set_bit (over xs out) pre b x ≡ over (set_bit xs pre b x) out
unfolding over
over_bit xs out pre b x h = rw (set_bit_front xs (drop (length xs) out) pre b x h, set_bit_length xs pre b x) refl

module _ (rows items : List ℕ) (s : Spot) (ws cs : List ℕ) (n : ℕ) (msg out : List ℕ)
    (sound : row_sound rows items s.component.row ≡ true)
    (given : 1 < s.component.mark → default_sound (type_of rows items s.component.row) s.component.given ≡ true)
    (reach : s.start ≤ length msg) (ends : s.end ≤ length msg) where
  abbrev t : Ty
  t = type_of rows items s.component.row

  abbrev own : Val → List ℕ
  own y = own_octets s.component.mark s.component.given t y

  laid : (y : Val) {l₁ l₂ l₃ : List ℕ} → l₁ ≡ sets out 0 (take s.start (drop 0 msg))
      → l₂ ≡ sets l₁ s.start (own y)
      → l₃ ≡ sets l₂ (s.start + n) (take (length msg - s.end) (drop s.end msg)) → n ≡ length (own y)
      → s.start + (n + (length msg - s.end)) ≤ length out → l₃ ≡ over (around s (own y) msg) out
  laid y e₁ e₂ e₃ en room =
      let front : length (take s.start msg) ≡ s.start = length-take-le s.start msg reach in
      let back : length (drop s.end msg) ≡ length msg - s.end = length-drop s.end msg in
      let all : take (length msg - s.end) (drop s.end msg) ≡ drop s.end msg =
      take_all (length msg - s.end) (drop s.end msg) (omega arith) in
      runs (take s.start msg) (own y) (drop s.end msg) out e₁ (sym front) e₂ (omega arith) (rw all at e₃)
      (omega arith)

  marked_over : {l₃ l₄ : List ℕ} {y : Val} {r : Listed} → l₃ ≡ over (around s (own y) msg) out
      → l₄ ≡ cond (eqb s.component.mark 0) l₃
      (set_bit l₃ s.pre s.bit (not (missing_at ws 0 (row_kind rows s.component.row) s.component.mark s.component.given)))
      → walk_component s.component.mark t (list_at ws cs 0) ≡ got y r
      → ((s.component.mark ≡ 0 → ⊥) → s.pre + s.bit / 8 < s.start)
      → l₄ ≡ over (spliced_octets s (own y) msg (not (same y (missing s.component.mark s.component.given t)))) out
  unfolding spliced_octets
  marked_over {y = y} e₃ e₄ walks inside =
      cases (eqb s.component.mark 0)
      (λ q. e₄ ∙ rw q e₃)
      (λ q.
      let marked = eqb-false s.component.mark 0 q in
      let here = carried_as rows items s.component.row s.component.mark s.component.given ws cs sound marked given walks in
      let front : length (take s.start msg) ≡ s.start = length-take-le s.start msg reach in
      let within : s.pre + s.bit / 8 < length (around s (own y) msg) =
      omega (arith, inside marked, length-append (take s.start msg) (own y ++ drop s.end msg)) in
      e₄ ∙ rw (q, here, e₃) (over_bit (around s (own y) msg) out s.pre s.bit _ within))

  pub splice_done : {l₁ l₂ l₃ l₄ : List ℕ} (r : Result Pen Fault) → l₁ ≡ sets out 0 (take s.start (drop 0 msg))
      → Put ws cs (walk_component s.component.mark t (list_at ws cs 0)) own 0 0 s.start l₁ l₂ r
      → l₃ ≡ sets l₂ (s.start + n) (take (length msg - s.end) (drop s.end msg))
      → l₄ ≡ cond (eqb s.component.mark 0) l₃
      (set_bit l₃ s.pre s.bit (not (missing_at ws 0 (row_kind rows s.component.row) s.component.mark s.component.given)))
      → Spliced t s ws cs n msg out l₄
  splice_done (Err f) e₁ w e₃ e₄ y r walks en room inside =
      absurd (refused_never (sym (w.stopped f refl) ∙ walks))
  splice_done (Ok c) e₁ w e₃ e₄ y r walks en room inside =
      let k = w.went c refl in
      let z = sym walks ∙ k.walks in
      let v : k.what ≡ y = cc in
      marked_over (laid y e₁ (rw v at k.stored) e₃ en room) e₄ walks inside
