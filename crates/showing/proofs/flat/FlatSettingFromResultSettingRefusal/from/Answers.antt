-- A refusal's three numbers, or the setting's own five.
-- Assumes nothing.
use mathlib.Core.Path.{refl}
use Rattle.showing.specs.Settings.{told}
use Rattle.showing.specs.Flat.{flat_answer}
use Rattle.showing.proofs.flat.FlatSettingFromResultSettingRefusal.from.Goals as goal

pub returns-in-Ok : goal.returns-in-Ok
unfolding told flat_answer
returns-in-Ok c = rw (c.from.ensures, c.in-Ok.is) refl

pub returns-in-Err : goal.returns-in-Err
unfolding told flat_answer
returns-in-Err c = rw (c.number.ensures, c.number-in-Err.ensures, c.in-Err.is) refl
