-- One component, plain, not carried (ABSENT or its DEFAULT) or carried: one law for each return of its writers, with
-- and without the presence bit. Premises are the callees' `ensures`. Assumes nothing.
use mathlib.Core.Path.{◌≡◌, refl, sym, ◌∙◌}
use mathlib.Core.Bool.{Bool, true, false, not, ◌&&◌}
use mathlib.Core.List.{List}
use Prim.Native.Nat.{ℕ, zero, suc, ◌+◌, ◌<◌, ◌≤◌}
use native.Mathlib.Omega.{arith}
use native.Mathlib.Nat.{add-zero}
use native.Mathlib.Numerals.{add-one}
use lib.ListN.{length}
use lib.Dec.{eqb}
use borrow.Author.Tests.{eqb-true, eqb-false, not-true}
use Rattle.x696.specs.Outcome.{Outcome, choose}
use Rattle.x696.proofs.OutcomeLaws.{cases, and_both}
use Rattle.x696.specs.Value.{Val}
use Rattle.x696.specs.Types.{Ty, kind_of, missing}
use Rattle.x696.specs.Encode.{encode, own_octets}
use Rattle.x696.specs.Walk.{Listed, walk, walk_component}
use Rattle.x696.specs.Table.{row_kind, component_default, type_of}
use Rattle.x696.specs.TableFault.{row_sound}
use Rattle.x696.specs.TableCheck.{default_sound}
use Rattle.x696.proofs.TableRows.{kind_known}
use Rattle.pens.specs.Put.{pen, listed_at, Penned, Put}
use Rattle.pens.specs.declared.pen.Pen.{Pen}
use Rattle.writing.specs.Noted.{missing_at, with_presence, marked, noted, Notes}
use Rattle.reading.specs.Members.{Member}
use Rattle.pens.proofs.Putting.{put_penned}
use Rattle.writing.proofs.NodeTests.{kind_is}
use Rattle.writing.proofs.Missing.{missing_got, carried_walk, carried_differs, missing_octets, missing_bits}
use Rattle.writing.proofs.Missing.{carried_octets_lem, carried_bits, plain_octets, plain_bits, plain_walk, stands_there}
use Rattle.std.proofs.Common.{Result, Ok}
use Rattle.octets.specs.declared.faults.Fault.{Fault}

pub marked_plain : (m : ℕ) (l : List ℕ) (pre b : ℕ) → m ≡ 0 → marked m l pre b ≡ l
unfolding marked
marked_plain m l pre b e = rw e

pub marked_set : (m : ℕ) (l : List ℕ) (pre b : ℕ) → (m ≡ 0 → ⊥) → marked m l pre b ≡ with_presence l pre b
unfolding marked
marked_set zero l pre b h = absurd (h refl)
marked_set (suc m) l pre b h = refl

-- the same walk with the same octets
module _ {ws cs : List ℕ} {o o' : Outcome Listed Val} {f f' : Val → List ℕ} {n u p : ℕ} {l l' : List ℕ} {c : Pen}
  where
    penned_as : (g : Penned ws cs o f n u p l l' c) → o' ≡ o → f' g.what ≡ f g.what
        → Penned ws cs o' f' n u p l l' c
    penned_as g e h = record {
      what = g.what;
      walks = e ∙ g.walks;
      inside = g.inside;
      within = g.within;
      ends = rw h g.ends;
      bound = g.bound;
      stored = rw h g.stored;
    }

module _ (t : Ty) (ws cs : List ℕ) (n u p m d : ℕ) where
  abbrev S : Listed
  S = listed_at ws cs n u

  abbrev own : Val → List ℕ
  own = λ v. own_octets m d t v

  module _ {l l' : List ℕ} {c : Pen} (g : Penned ws cs (walk t S) (λ v. encode t v) n u p l l' c) where
    plain_penned : m ≡ 0 → Penned ws cs (walk_component m t S) own n u p l l' c
    plain_penned e = penned_as g (plain_walk d t m S e) (plain_octets d t m g.what e)

    carried_penned : {k : ℕ} → k ≡ kind_of t → 0 < k → (m ≡ 0 → ⊥) → missing_at ws n k m d ≡ false
        → Penned ws cs (walk_component m t S) own n u p l l' c
    carried_penned {k} ek known h e =
        penned_as g (carried_walk t ws cs n u k d ek known m h e)
        (carried_octets_lem d t m g.what (carried_differs t ws cs n u k d ek known m h e g.walks))

  missing_penned : {k : ℕ} (l : List ℕ) → k ≡ kind_of t → (m ≡ 0 → ⊥) → missing_at ws n k m d ≡ true
      → (1 < m → default_sound t d ≡ true) → u ≤ length cs
      → Penned ws cs (walk_component m t S) own n u p l l (pen (n + 1) u p)
  missing_penned {k} l ek h e s g =
      let none = missing_octets d t m h in
      record {
        what = missing m d t;
        walks = missing_got t ws cs n u k d ek m h e s ∙ rw (add-one n);
        inside = omega (arith, stands_there ws n k m d e);
        within = g;
        ends = rw none (sym (add-zero p));
        bound = omega arith;
        stored = rw none refl;
      }

  -- ---- without a presence bit
  module _ {l l' : List ℕ} {r : Result Pen Fault} (w : Put ws cs (walk t S) (λ v. encode t v) n u p l l' r) where
    pub component_plain : m ≡ 0 → Put ws cs (walk_component m t S) own n u p l l' r
    component_plain e = record {
      went = λ c f. plain_penned (w.went c f) e;
      stopped = λ x f. plain_walk d t m S e ∙ w.stopped x f;
    }

    pub component_carried : (k : ℕ) → k ≡ kind_of t → 0 < k → (m ≡ 0 → ⊥) → missing_at ws n k m d ≡ false
        → Put ws cs (walk_component m t S) own n u p l l' r
    component_carried k ek known h e = record {
      went = λ c f. carried_penned (w.went c f) ek known h e;
      stopped = λ x f. carried_walk t ws cs n u k d ek known m h e ∙ w.stopped x f;
    }

  pub component_missing : (k : ℕ) {l : List ℕ} {r : Result Pen Fault} → k ≡ kind_of t → (m ≡ 0 → ⊥) → missing_at ws n k m d ≡ true
      → (1 < m → default_sound t d ≡ true) → u ≤ length cs → r ≡ Ok (pen (n + 1) u p)
      → Put ws cs (walk_component m t S) own n u p l l r
  component_missing k {l} ek h e s g f = put_penned (missing_penned l ek h e s g) f

  -- ---- with its presence bit, b of the preamble at pre
  module _ (pre b : ℕ) where
    pub noted_plain : {l l' : List ℕ} {r : Result Pen Fault} → Put ws cs (walk t S) (λ v. encode t v) n u p l l' r → m ≡ 0
        → Notes ws cs m d t S pre b n u p l l' r
    unfolding noted
    noted_plain {l} w e = record {
      went = λ c f. record {
        start = l;
        goes = plain_penned (w.went c f) e;
        bit = λ v q g. rw (plain_bits d t m v e) refl;
      };
      stopped = λ x f. plain_walk d t m S e ∙ w.stopped x f;
    }

    pub noted_missing : (k : ℕ) {l : List ℕ} {r : Result Pen Fault} → k ≡ kind_of t → (m ≡ 0 → ⊥) → missing_at ws n k m d ≡ true
        → (1 < m → default_sound t d ≡ true) → u ≤ length cs → r ≡ Ok (pen (n + 1) u p)
        → Notes ws cs m d t S pre b n u p l l r
    unfolding noted choose
    noted_missing k {l} ek h e s g f = record {
      went = λ c q.
          let is : pen (n + 1) u p ≡ c = cc in
          rw (← is) (record {
            start = l;
            goes = missing_penned l ek h e s g;
            bit = λ v q g.
                let same_value : v ≡ missing m d t = cc (g, missing_got t ws cs n u k d ek m h e s) in
                rw (same_value, missing_bits d t m h) refl;
          });
      stopped = λ x q. let z : ◌≡◌ {A = ℕ} 0 1 = cc in absurd (omega arith);
    }

    pub noted_carried : (k : ℕ) {l l₁ l' : List ℕ} {r : Result Pen Fault} → k ≡ kind_of t → 0 < k → (m ≡ 0 → ⊥)
        → missing_at ws n k m d ≡ false
        → l₁ ≡ with_presence l pre b
        → Put ws cs (walk t S) (λ v. encode t v) n u p l₁ l' r → Notes ws cs m d t S pre b n u p l l' r
    unfolding noted choose
    noted_carried k {l₁ = l₁} ek known h e s w = record {
      went = λ c f.
          record {
            start = l₁;
            goes = carried_penned (w.went c f) ek known h e;
            bit = λ v q g.
                let walked = sym (carried_walk t ws cs n u k d ek known m h e) ∙ g in
                rw (carried_bits d t m v h (carried_differs t ws cs n u k d ek known m h e walked)) s;
          };
      stopped = λ x f. carried_walk t ws cs n u k d ek known m h e ∙ w.stopped x f;
    }

-- ---- a member of a group, by the words of the code
module _ (rows items ws cs : List ℕ) (above row mark i n u p pre b : ℕ) (known : Member rows items above row mark i b)
    (sound : row_sound rows items row ≡ true) (x : Bool)
    (ex : x ≡ not (eqb mark 0) && missing_at ws n (row_kind rows row) mark (component_default items i)) where
  abbrev T : Ty
  T = type_of rows items row

  abbrev given : ℕ
  given = component_default items i

  abbrev WroteMember : (l l' : List ℕ) → Result Pen Fault → Type 0
  WroteMember l l' r = Notes ws cs mark given T (listed_at ws cs n u) pre b n u p l l' r

  is_kind : row_kind rows row ≡ kind_of T
  is_kind = sym (kind_is rows items row sound)

  default_sound_lem : 1 < mark → default_sound T given ≡ true
  default_sound_lem two =
      let (_, one, er, em, _) = known.marked (λ z. omega arith) in
      rw er (one.default (omega (arith, one.mark, em)))

  pub member_missing : {l : List ℕ} {r : Result Pen Fault} → x ≡ true → u ≤ length cs → r ≡ Ok (pen (n + 1) u p) → WroteMember
      l l r
  member_missing e g f =
      let (some, stands) = and_both (not (eqb mark 0)) _ (sym ex ∙ e) in
      noted_missing T ws cs n u p mark given pre b (row_kind rows row) is_kind (eqb-false mark 0 (not-true (eqb mark
      0) some)) stands
      default_sound_lem g f

  pub member_carried : {l l₁ l' : List ℕ} {r : Result Pen Fault} → x ≡ false → l₁ ≡ marked mark l pre b
      → Put ws cs (walk T (listed_at ws cs n u)) (λ v. encode T v) n u p l₁ l' r → WroteMember l l' r
  unfolding marked
  member_carried {l} {l₁} {l'} {r} e s w =
      cases (eqb mark 0)
      (λ z.
      let plain = eqb-true mark 0 z in
      let stays : l₁ ≡ l = s ∙ marked_plain mark l pre b plain in
      noted_plain T ws cs n u p mark given pre b (rw stays at w) plain)
      (λ z.
      let has = eqb-false mark 0 z in
      let stands : missing_at ws n (row_kind rows row) mark given ≡ false = rw z at (sym ex ∙ e) in
      noted_carried T ws cs n u p mark given pre b (row_kind rows row) is_kind (kind_known rows items row sound).0
      has stands
      (s ∙ marked_set mark l pre b has) w)
