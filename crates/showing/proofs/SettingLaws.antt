-- The setting of a component that was found: by its row's kind, and of a refusal. Premises are the callees' `ensures`.
-- Assumes nothing.
use mathlib.Core.Path.{◌≡◌, refl, ap, sym, ◌∙◌}
use mathlib.Core.Bool.{Bool, true, false, false≢true}
use mathlib.Core.List.{List}
use Prim.Native.Nat.{ℕ, zero, suc, ◌^◌, ◌<◌}
use native.Mathlib.Omega.{arith}
use lib.Dec.{eqb}
use lib.IntN.{ℤ}
use mir.Syntax.{w64}
use lib.Ieee.{Float, of_bits, binary32 as single, binary64 as double}
use mir.Val.{to_z, of_z, SFits}
use mir.ValLaws.{to_z-of_z}
use Rattle.std.specs.Prelude.{◌⊎◌}
use Rattle.std.proofs.Math.Logic.{⊎_elim}
use Rattle.x696.proofs.OutcomeLaws.{cases_lt}
use Rattle.x696.specs.Outcome.{choose}
use Rattle.x696.specs.Integer.{is_unsigned}
use Rattle.x696.specs.Real.{binary32, real_octets}
use Rattle.x696.specs.Value.{Val, node}
use Rattle.x696.specs.Leaf.{real, real_fits}
use Rattle.x696.specs.Types.{Ty, leaf, missing}
use Rattle.x696.specs.Fits.{Fits, leaf_fits, FitsComponent, plain, carried, left_out}
use Rattle.x696.specs.Encode.{carried_octets, encode, own_octets}
use Rattle.x696.specs.Path.{find}
use Rattle.x696.proofs.PathLaws.{find_fits}
use Rattle.x696.specs.Setting.{Setting as Meant, absent_setting, leaf_setting, type_setting, setting_of}
use Rattle.x696.specs.Reply.{Answer, then}
use Rattle.x696.specs.Table.{row_kind, row_flags, row_a, type_by, type_of}
use Rattle.x696.specs.TableCheck.{default_sound}
use Rattle.x696.proofs.TableLaws.{type_of_row}
use Rattle.x696.specs.Editing.{Place, place_in, read_setting}
use Rattle.kinds.specs.Run.{number_of}
use Rattle.table.specs.Kind.{code_of}
use Rattle.table.specs.declared.kind.Kind.{Kind}
use Rattle.table.specs.declared.kind.Kind.TheVariants.{Single as SingleKind}
use Rattle.kinds.proofs.ByKind.{single_type}
use Rattle.decoding.specs.Replied.{Refuses}
use Rattle.finding.specs.Passing.{Fitting}
use Rattle.finding.specs.Following.{kind_in}
use Rattle.finding.specs.Placing.{Placed}
use Rattle.showing.specs.Settings.{setting_as, answer_as, integer_setting, kind_setting}
use Rattle.finding.specs.declared.spot.Way.{Way}
use Rattle.showing.specs.declared.settings.Setting.{Setting}
use Rattle.showing.specs.declared.settings.Setting.TheVariants.{Absent, Truth, Unsigned, Signed, Single}
use Rattle.std.proofs.Common.{Ok, Err}
use Rattle.octets.specs.declared.faults.Refusal.{Refusal}
use Rattle.showing.specs.Settings.{told}
use Rattle.x696.specs.Reply.{done}
use Rattle.showing.specs.declared.settings.Setting.TheVariants.{Double, Size, Group}

-- ---- by the row's kind
either : (b : Bool) (x y : Unit {0} → Ty) (n : ℕ) {p q : Meant} → type_setting (x tt) n ≡ p → type_setting (y tt) n ≡ q
    → type_setting (choose b x y) n ≡ choose b (λ _. p) (λ _. q)
unfolding choose
either true x y n e f = e
either false x y n e f = f

pub kind_setting_lem : (rows items : List ℕ) (row n : ℕ)
    → type_setting (type_of rows items row) n ≡ kind_setting (row_kind rows row) (row_flags rows row) (row_a rows row) n
unfolding kind_setting integer_setting type_by type_setting leaf_setting
kind_setting_lem rows items row n =
    rw (type_of_row rows items row)
    (either _ _ _ n refl (either _ _ _ n refl (either _ _ _ n refl (either _ _ _ n refl (either _ _ _ n refl
    (either _ _ _ n refl (either _ _ _ n refl (either _ _ _ n refl (either _ _ _ n refl (either _ _ _ n refl
    (either _ _ _ n refl refl)))))))))))

-- ---- ABSENT, or a value that is there
pub absent_setting_lem : (t : Ty) (v : Val) → eqb (kind_in v) 0 ≡ true → setting_of t v ≡ absent_setting
unfolding setting_of kind_in
absent_setting_lem t (node k n os vs) e = rw e refl

pub there_setting : (t : Ty) (v : Val) → eqb (kind_in v) 0 ≡ false → setting_of t v ≡ type_setting t (number_of v)
unfolding setting_of kind_in number_of
there_setting t (node k n os vs) e = rw e refl

-- a component that is there, of a type without DEFAULT, is a value of its type, and its own octets are that value's
module _ {t : Ty} (none : (d : ℕ) → default_sound t d ≡ false) where
  there_fits : {m d : ℕ} {v : Val} → FitsComponent m d t v → Fitting t m d → eqb (kind_in v) 0 ≡ false
      → Fits t v × (own_octets m d t v ≡ encode t v)
  unfolding missing kind_in own_octets carried_octets choose
  there_fits (plain f) fit e = (f, refl)
  there_fits (carried f differs) fit e = (f, rw differs refl)
  there_fits {v = v} (left_out {m = zero} is) fit e = absurd (false≢true (sym e ∙ rw is refl))
  there_fits {d = d} (left_out {m = suc m} is) fit e =
      absurd (false≢true (sym (none d) ∙ fit.1 (omega (arith, fit.0))))

small : {v : Val} → Fits (leaf (real binary32)) v → number_of v < 2 ^ 32
unfolding number_of real_octets
small (leaf_fits e (real_fits h a)) = h

module _ (rows items : List ℕ) (row : ℕ) (msg path : List ℕ) where
  abbrev asked : Answer Place
  asked = place_in rows items row msg path

  module _ {w : Way} (h : Placed rows items row msg path asked w) where
    abbrev t : Ty
    t = type_of rows items w.spot.component.row

    abbrev v : Val
    v = h.spot.value

    pub component_there : w.spot.absent ≡ false → ((d : ℕ) → default_sound t d ≡ false)
        → Fits t v × (own_octets w.spot.component.mark w.spot.component.given t v ≡ encode t v)
    unfolding find
    component_there e none =
        there_fits none (find_fits (type_of rows items row) h.whole path h.spot.finds h.fits)
        h.spot.fitting
        (sym h.spot.absent ∙ e)

    pub setting_absent : w.spot.absent ≡ true → told (Ok Absent) ≡ answer_as (read_setting rows items row msg path)
    unfolding read_setting then answer_as setting_as told
    setting_absent e = rw (h.is, absent_setting_lem t v (sym h.spot.absent ∙ e)) refl

    pub setting_there : {r : Setting} {k f a : ℕ} → w.spot.absent ≡ false → k ≡ row_kind rows w.spot.component.row
        → f ≡ row_flags rows w.spot.component.row
        → a ≡ row_a rows w.spot.component.row → r ≡ setting_as (kind_setting k f a w.spot.number)
        → told (Ok r) ≡ answer_as (read_setting rows items row msg path)
    unfolding read_setting then answer_as told
    setting_there {k = k} {f} {a} e ek ef ea er =
        ap (λ s. done s) (er ∙ ap (λ n. setting_as (kind_setting k f a n)) h.spot.number)
        ∙ rw (
          h.is,
          there_setting t v (sym h.spot.absent ∙ e),
          kind_setting_lem rows items w.spot.component.row (number_of v),
          ek,
          ef,
          ea,
        ) refl

    -- the bits of a single real
    pub single_small : {k : Kind} → w.spot.absent ≡ false → code_of k ≡ row_kind rows w.spot.component.row → k ≡ SingleKind
        → w.spot.number < 2 ^ 32
    unfolding default_sound
    single_small e ek four =
        let is = single_type rows items w.spot.component.row ek four in
        let fits = (component_there e (λ d. rw is refl)).0 in
        rw h.spot.number (small (rw is at fits))

  pub setting_refused : {x : Refusal} → Refuses asked x
      → told (Err x) ≡ answer_as (read_setting rows items row msg path)
  unfolding read_setting then answer_as told
  setting_refused h = rw h.is refl

-- ---- the code's enum, kind by kind
module _ (f a n : ℕ) where
  pub unsigned_setting : is_unsigned f a ≡ true → Unsigned n ≡ setting_as (integer_setting f a n)
  unfolding setting_as integer_setting
  unsigned_setting e = rw e refl

  pub signed_setting : {z : ℤ} → is_unsigned f a ≡ false → SFits w64 z → z ≡ to_z w64 n
      → Signed (to_z w64 (of_z w64 z)) ≡ setting_as (integer_setting f a n)
  unfolding setting_as integer_setting
  signed_setting {z} e fits h = rw (e, to_z-of_z w64 z fits, h) refl

module _ (k f a n : ℕ) where
  pub kind_one : k ≡ 1 → Truth (eqb n 1) ≡ setting_as (kind_setting k f a n)
  unfolding setting_as kind_setting choose
  kind_one e = rw e refl

  pub kind_two : {r : Setting} → k ≡ 2 → r ≡ setting_as (integer_setting f a n) → r ≡ setting_as (kind_setting k f a n)
  unfolding kind_setting choose
  kind_two e h = rw e h

  pub kind_three : {z : ℤ} → k ≡ 3 → SFits w64 z → z ≡ to_z w64 n
      → Signed (to_z w64 (of_z w64 z)) ≡ setting_as (kind_setting k f a n)
  unfolding setting_as kind_setting choose
  kind_three {z} e fits h = rw (e, to_z-of_z w64 z fits, h) refl

  pub kind_four : {x : Float} → k ≡ 4 → x ≡ of_bits single n → Single x ≡ setting_as (kind_setting k f a n)
  unfolding setting_as kind_setting choose
  kind_four e h = rw (e, h) refl

  pub kind_five : {x : Float} → k ≡ 5 → x ≡ of_bits double n → Double x ≡ setting_as (kind_setting k f a n)
  unfolding setting_as kind_setting choose
  kind_five e h = rw (e, h) refl

  pub kind_six : k ≡ 6 → Group 0 ≡ setting_as (kind_setting k f a n)
  unfolding setting_as kind_setting choose
  kind_six e = rw e refl

  pub kind_string : (6 < k) × (k < 10) → Size n ≡ setting_as (kind_setting k f a n)
  unfolding setting_as kind_setting choose
  kind_string (more, less) =
      cases_lt k 8
      (λ _ l. let e : k ≡ 7 = omega arith in rw e refl)
      (λ _ g. cases_lt k 9
      (λ _ l. let e : k ≡ 8 = omega arith in rw e refl)
      (λ _ g. let e : k ≡ 9 = omega arith in rw e refl))

  pub kind_group : (k ≡ 10) ⊎ (k ≡ 11) → Group n ≡ setting_as (kind_setting k f a n)
  unfolding setting_as kind_setting choose
  kind_group = ⊎_elim (λ e. rw e refl) (λ e. rw e refl)

  pub kind_twelve : k ≡ 12 → Group 1 ≡ setting_as (kind_setting k f a n)
  unfolding setting_as kind_setting choose
  kind_twelve e = rw e refl
