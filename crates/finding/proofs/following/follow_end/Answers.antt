-- The component is read, and stands where it was read.
-- Assumes nothing.
use Rattle.std.proofs.lemmas.Result.{err_from_is_err_and}
use native.Mathlib.Omega.{arith}
use Rattle.octets.proofs.Octets.{below_known}
use Rattle.finding.proofs.Spots.{counted_more, end_finds}
use Rattle.finding.proofs.Followings.{follows_on, follows_fault}
use Rattle.finding.proofs.following.follow_end.Goals as goal

pub overflow_sub-result : goal.overflow_sub-result
overflow_sub-result c =
    let below = below_known 8 c.args.msg.now (λ i. (c.type_inv.msg i).fits) in
    omega (
      arith,
      counted_more _ _ _ _ _ _ _ _ _ _ c.requires.1 below (c.pass_component.ensures.went _
          c.in_ok-end.was),
    )

pub returns-in_err-end : goal.returns-in_err-end
returns-in_err-end c =
    let p = err_from_is_err_and c.from_residual.result c.from_residual.ensures.1 in
    rw (p.1, p.2) (follows_fault _ (c.pass_component.ensures.stopped _ c.in_err-end.was))

pub returns : goal.returns
returns c =
    let below = below_known 8 c.args.msg.now (λ i. (c.type_inv.msg i).fits) in
    follows_on (end_finds _ _ _ _ _ _ _ _ _ _ c.requires.1 below (c.pass_component.ensures.went _
    c.in_ok-end.was) _
    c.is_absent-absent.ensures c.requires.5 c.requires.0 c.requires.3 _ _ c.requires.6)
