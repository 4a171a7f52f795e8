-- A setting's enum tells exactly what was read: the definition's setting can be had back from it, bits of reals included.
-- Assumes nothing.
use mathlib.Core.Path.{◌≡◌, refl, sym}
use mathlib.Core.List.{List}
use Prim.Native.Nat.{ℕ, zero, suc, ◌^◌, ◌<◌}
use native.Mathlib.Omega.{arith}
use lib.Dec.{eqb}
use borrow.Author.Tests.{eqb-true, eqb-false}
use Rattle.x696.proofs.OutcomeLaws.{cases}
use Rattle.x696.specs.Integer.{is_unsigned}
use Rattle.x696.specs.Real.{binary32, binary64, real_octets}
use Rattle.x696.specs.Value.{Val, absent}
use Rattle.x696.specs.Encode.{bit}
use Rattle.x696.specs.Leaf.{Leaf, integer, LeafFits, boolean_fits, null_fits, integer_fits, enumerated_fits, real_fits}
use Rattle.x696.specs.Leaf.{octets_fit, visible_fits, bits_fit}
use Rattle.x696.specs.Types.{Ty, missing}
use Rattle.x696.specs.Fits.{Fits, leaf_fits, sequence_fits, sequence_of_fits, choice_fits, FitsComponent, plain, carried}
use Rattle.x696.specs.Fits.{left_out}
use Rattle.x696.specs.WellFormed.{DefaultFits}
use Rattle.x696.specs.Setting.{leaf_setting, type_setting, setting_of}
use Rattle.x696.specs.Reply.{done}
use Rattle.kinds.specs.Run.{number_of}
use Rattle.finding.specs.Following.{kind_in}
use Rattle.showing.specs.Settings.{setting_as, setting_back}
use Rattle.finding.proofs.Spots.{fits_there}
use Rattle.showing.proofs.SettingLaws.{absent_setting_lem, there_setting}
use Rattle.showing.proofs.Floats.{word_back, single_back, double_back}

truth_back : (n : ℕ) → n < 2 → bit (eqb n 1) ≡ n
unfolding bit
truth_back n h =
    cases (eqb n 1)
    (λ e. rw e (sym (eqb-true n 1 e)))
    (λ e. let other = eqb-false n 1 e in rw e (omega arith))

-- ---- kind by kind
integer_back : (f a n : ℕ) → n < 2 ^ 64
    → setting_back (setting_as (leaf_setting (integer f a 0) n)) ≡ done (leaf_setting (integer f a 0) n)
unfolding leaf_setting setting_as setting_back
integer_back f a n h = cases (is_unsigned f a) (λ e. rw e refl) (λ e. rw (e, word_back n h) refl)

leaf_back : {l : Leaf} {n : ℕ} {os : List ℕ} → LeafFits l n os
    → setting_back (setting_as (leaf_setting l n)) ≡ done (leaf_setting l n)
unfolding leaf_setting setting_as setting_back real_octets
leaf_back (boolean_fits {n = n} h) = rw (truth_back n h) refl
leaf_back null_fits = refl
leaf_back (integer_fits {f = f} {a} {n = n} h g) = integer_back f a n h
leaf_back (enumerated_fits {n = n} h g) = rw (word_back n h) refl
leaf_back (real_fits {w = binary32} {n = n} h g) = rw (single_back n h g) refl
leaf_back (real_fits {w = binary64} {n = n} h g) = rw (double_back n h g) refl
leaf_back (octets_fit b e g) = refl
leaf_back (visible_fits b e g v) = refl
leaf_back (bits_fit b e c g) = refl

type_back : {t : Ty} {v : Val} → Fits t v
    → setting_back (setting_as (type_setting t (number_of v))) ≡ done (type_setting t (number_of v))
unfolding type_setting setting_as setting_back number_of
type_back (leaf_fits e f) = leaf_back f
type_back (sequence_fits e f) = refl
type_back (sequence_of_fits e h f) = refl
type_back (choice_fits e f) = refl

value_back : {t : Ty} {v : Val} → Fits t v → setting_back (setting_as (setting_of t v)) ≡ done (setting_of t v)
value_back {t} {v} f = rw (there_setting t v (fits_there f)) (type_back f)

-- of every component that fits its mark and type, as one that a path finds in a message does (`find_fits`)
pub setting_exact : {m d : ℕ} {t : Ty} {v : Val} → FitsComponent m d t v → DefaultFits m d t
    → setting_back (setting_as (setting_of t v)) ≡ done (setting_of t v)
unfolding missing setting_as setting_back kind_in
setting_exact (plain f) g = value_back f
setting_exact (carried f differs) g = value_back f
setting_exact {d = d} {t} (left_out {m = zero} is) g = rw (is, absent_setting_lem t absent refl) refl
setting_exact {d = d} {t} (left_out {m = suc m} is) g = rw is (value_back g)
