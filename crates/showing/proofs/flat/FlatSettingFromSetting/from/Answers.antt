-- One equation for each case.
-- Assumes nothing.
use mathlib.Core.Path.{◌≡◌, refl}
use mathlib.Core.Bool.{Bool, true, false, cond}
use mir.Syntax.{w64}
use mir.Val.{SFits, bool_byte}
use mir.ValLaws.{to_z-of_z}
use Rattle.showing.specs.Flat.{flat_of}
use Rattle.showing.proofs.flat.FlatSettingFromSetting.from.Goals as goal

truth_word : (b : Bool) → bool_byte b ≡ cond b 1 0
unfolding bool_byte
truth_word true = refl
truth_word false = refl

pub returns-in-Absent : goal.returns-in-Absent
unfolding flat_of
returns-in-Absent c = rw (c.there.ensures, c.in-Absent.is) refl

pub returns-in-Truth : goal.returns-in-Truth
unfolding flat_of
returns-in-Truth c = rw (c.there-in-Truth.ensures, c.from.ensures, c.in-Truth.is, truth_word c.in-Truth.b) refl

pub returns-in-Unsigned : goal.returns-in-Unsigned
unfolding flat_of
returns-in-Unsigned c = rw (c.there-in-Unsigned.ensures, c.in-Unsigned.is) refl

pub returns-in-Signed : goal.returns-in-Signed
unfolding flat_of
returns-in-Signed c =
    let fits : SFits w64 c.in-Signed.x = record { sfits = c.in-Signed.known_told-in-Signed-1-own.given.0.1 } in
    rw (c.there-in-Signed.ensures, c.cast_unsigned.ensures, to_z-of_z w64 _ fits, c.in-Signed.is) refl

pub returns-in-Single : goal.returns-in-Single
unfolding flat_of
returns-in-Single c = rw (c.there-in-Single.ensures, c.single_word.ensures, c.in-Single.is) refl

pub returns-in-Double : goal.returns-in-Double
unfolding flat_of
returns-in-Double c = rw (c.there-in-Double.ensures, c.double_word.ensures, c.in-Double.is) refl

pub returns-in-Size : goal.returns-in-Size
unfolding flat_of
returns-in-Size c = rw (c.there-in-Size.ensures, c.in-Size.is) refl

pub returns-in-Group : goal.returns-in-Group
unfolding flat_of
returns-in-Group c = rw (c.there-in-Group.ensures, c.in-Group.is) refl
