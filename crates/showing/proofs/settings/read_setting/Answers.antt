-- The refusal, ABSENT, or the value's own setting.
-- Assumes nothing.
use Rattle.std.proofs.lemmas.Result.{err_from_is_err_and}
use Rattle.x696.proofs.TableRows.{kind_known}
use Rattle.showing.proofs.SettingLaws.{setting_refused, setting_absent, setting_there, single_small}
use Rattle.showing.proofs.settings.read_setting.Goals as goal

pub returns-in_err-s : goal.returns-in_err-s
returns-in_err-s c =
    let p = err_from_is_err_and c.from_residual.result c.from_residual.ensures.1 in
    rw (p.1, p.2) (setting_refused _ _ _ _ _ (c.find_in.ensures.stopped _ c.in_err-s.was))

pub returns-then-s : goal.returns-then-s
returns-then-s c = setting_absent _ _ _ _ _ (c.find_in.ensures.went _ c.in_ok-s.was) c.if-s.true

pub known_kind-requires : goal.known_kind-requires
known_kind-requires c =
    let placed = c.find_in.ensures.went _ c.in_ok-s.was in
    let known = kind_known _ _ _ (placed.sound.row _ placed.spot.inside) in
    (placed.spot.inside, known.0, known.1)

pub row_bounds-requires : goal.row_bounds-requires
row_bounds-requires c = (c.find_in.ensures.went _ c.in_ok-s.was).spot.inside

pub setting_of-requires : goal.setting_of-requires
setting_of-requires c =
    single_small _ _ _ _ _ (c.find_in.ensures.went _ c.in_ok-s.was) c.if-s.false
    c.known_kind.ensures

pub returns : goal.returns
returns c =
    setting_there _ _ _ _ _ (c.find_in.ensures.went _ c.in_ok-s.was) c.if-s.false c.known_kind.ensures
    c.row_bounds.ensures.0 c.row_bounds.ensures.1 c.setting_of.ensures
