-- The component is read, and has no such child.
-- Assumes nothing.
use Rattle.std.proofs.lemmas.Result.{err_from_is_err_and}
use Rattle.finding.proofs.Followings.{follows_on, follows_fault, none_loses}
use Rattle.finding.proofs.following.follow_nowhere.Goals as goal

pub returns-in_err-end : goal.returns-in_err-end
returns-in_err-end c =
    let p = err_from_is_err_and c.from_residual.result c.from_residual.ensures.1 in
    rw (p.1, p.2) (follows_fault _ (c.pass_component.ensures.stopped _ c.in_err-end.was))

pub returns : goal.returns
returns c =
    follows_on (none_loses _ _ _ _ _ _ _ _ _ _ _ _ c.requires.6 c.requires.7
    (c.pass_component.ensures.went _ c.in_ok-end.was))
