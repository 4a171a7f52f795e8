-- The number read, refused where the list has it not. Assumes nothing.
use Rattle.std.proofs.lemmas.Result.{err_from_is_err_and}
use mathlib.Core.Path.{refl}
use Rattle.kinds.proofs.Numbered.{enumerated_tested, tested_stops, tested_refuses, tested_goes}
use Rattle.kinds.proofs.listed.read_listed.Goals as goal

pub returns-then-not-is_listed : goal.returns-then-not-is_listed
returns-then-not-is_listed c =
    λ n.
    tested_refuses (enumerated_tested _ _ _ c.requires.0 _) c.read_enumerated.ensures _ c.in_ok-x.was
    c.is_listed.ensures
    c.if-not-is_listed.true c.at.ensures

pub returns-in_err-x : goal.returns-in_err-x
returns-in_err-x c =
    let p = err_from_is_err_and c.from_residual.result c.from_residual.ensures.1 in
    rw (p.1, p.2) (λ n. tested_stops (enumerated_tested _ _ _ c.requires.0 _) c.read_enumerated.ensures _
    c.in_err-x.was)

pub returns : goal.returns
returns c =
    λ n.
    tested_goes (enumerated_tested _ _ _ c.requires.0 _) c.read_enumerated.ensures _ c.in_ok-x.was
    c.is_listed.ensures
    c.if-not-is_listed.false refl
