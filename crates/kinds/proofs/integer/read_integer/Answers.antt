-- The number that the form gives, refused where the bounds forbid it. Assumes nothing.
use Rattle.std.proofs.lemmas.Result.{err_from_is_err_and}
use mathlib.Core.Path.{refl}
use Rattle.kinds.proofs.Numbered.{integer_tested, tested_stops, tested_refuses, tested_goes}
use Rattle.kinds.proofs.integer.read_integer.Goals as goal

pub returns-then-not-allows : goal.returns-then-not-allows
returns-then-not-allows c =
    λ n.
    tested_refuses (integer_tested _ _ _ c.requires _ _ _) c.read_form.ensures _ c.in_ok-n.was
    c.allows.ensures
    c.if-not-allows.true c.at.ensures

pub returns-in_err-n : goal.returns-in_err-n
returns-in_err-n c =
    let p = err_from_is_err_and c.from_residual.result c.from_residual.ensures.1 in
    rw (p.1, p.2) (λ n. tested_stops (integer_tested _ _ _ c.requires _ _ _) c.read_form.ensures _ c.in_err-n.was)

pub returns : goal.returns
returns c =
    λ n.
    tested_goes (integer_tested _ _ _ c.requires _ _ _) c.read_form.ensures _ c.in_ok-n.was
    c.allows.ensures
    c.if-not-allows.false refl
