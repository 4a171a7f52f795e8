-- Elements are read in one go, as the members of a group, with nothing lent.
-- Assumes nothing.
use Rattle.std.proofs.lemmas.Result.{err_from_is_err_and}
use mathlib.Core.Path.{refl}
use native.Mathlib.Omega.{arith}
use Rattle.reading.proofs.Members.{members_alone, times_members}
use Rattle.finding.proofs.Parts.{all_stopped, all_passed}
use Rattle.finding.proofs.passing.pass_elements.Goals as goal

pub read_members-requires : goal.read_members-requires
read_members-requires c = (
  omega (arith, c.requires.0),
  members_alone (omega arith),
  c.requires.1,
  c.requires.1,
  omega arith,
  c.requires.2,
)

pub returns-in_err-end : goal.returns-in_err-end
returns-in_err-end c =
    let p = err_from_is_err_and c.from_residual.result c.from_residual.ensures.1 in
    rw (p.1, p.2) (all_stopped (times_members _ _ _ _ _ _ _ _ _) c.read_members.ensures _ c.in_err-end.was)

pub returns : goal.returns
returns c =
    all_passed (times_members _ _ _ _ _ _ _ _ _)
    c.read_members.ensures _ c.in_ok-end.was
    refl
