-- One law for each return; the measure is the row number, since a step leads into a smaller row.
use Rattle.std.proofs.lemmas.Result.{err_from_is_err_and}
use native.Mathlib.Omega.{arith}
use Rattle.finding.proofs.Followings.{follows_on, follows_fault, child_goes}
use mathlib.Core.Path.{ap, ◌∙◌}
use Rattle.std.proofs.Common.{Ok}
use Rattle.finding.proofs.following.+follow.Goals as goal

pub follow_end-requires : goal.follow_end-requires
follow_end-requires t c = (
  c.requires.0,
  c.requires.1,
  c.requires.2,
  c.requires.3,
  c.requires.4,
  c.requires.5,
  c.if-ended.true,
)

pub returns-then-ended : goal.returns-then-ended
returns-then-ended t c = c.follow_end.ensures

pub open_component-requires : goal.open_component-requires
open_component-requires t c = c.requires

pub returns-in_err-opened : goal.returns-in_err-opened
returns-in_err-opened t c =
    let p = err_from_is_err_and c.from_residual.result c.from_residual.ensures.1 in
    rw (p.1, p.2) (follows_fault _ (c.open_component.ensures.stopped _ c.in_err-opened.was))

pub follow_nowhere-requires : goal.follow_nowhere-requires
follow_nowhere-requires t c = (
  c.requires.0,
  c.requires.1,
  c.requires.2,
  c.requires.3,
  c.requires.4,
  c.requires.5,
  c.if-ended.false,
  c.open_component.ensures.nowhere (c.in_ok-opened.was ∙ ap Ok c.in-None.is),
)

pub returns-in-None : goal.returns-in-None
returns-in-None t c = c.follow_nowhere.ensures

pub overflow_add-step : goal.overflow_add-step
overflow_add-step t c = omega (arith, c.if-ended.false)

pub follow-requires : goal.follow-requires
follow-requires t c =
    let l = c.open_component.ensures.into _ (c.in_ok-opened.was ∙ ap Ok c.in-Some.is) in (
      omega (arith, l.lower),
      (
        omega (arith, l.lower, c.requires.0),
        l.inside,
        c.requires.2,
        l.fitting,
        c.requires.1,
        l.few,
      ),
    )

pub returns-in_err-child-in-Some : goal.returns-in_err-child-in-Some
returns-in_err-child-in-Some t c =
    let l = c.open_component.ensures.into _ (c.in_ok-opened.was ∙ ap Ok c.in-Some.is) in
    let p = err_from_is_err_and c.from_residual-in_err-child-in-Some.result c.from_residual-in_err-child-in-Some.ensures.1 in
    rw (p.1, p.2) (follows_fault _ (l.stops _ _ (c.follow.ensures.stopped _ c.in_err-child-in-Some.was)))

pub pass_behind-requires : goal.pass_behind-requires
pass_behind-requires t c =
    let l = c.open_component.ensures.into _ (c.in_ok-opened.was ∙ ap Ok c.in-Some.is) in
    let h = c.follow.ensures.went _ c.in_ok-child-in-Some.was in
    (c.requires.0, h.inside, c.requires.2, c.requires.1, l.lower, l.behind)

pub returns-in_err-end-in-Some : goal.returns-in_err-end-in-Some
returns-in_err-end-in-Some t c =
    let l = c.open_component.ensures.into _ (c.in_ok-opened.was ∙ ap Ok c.in-Some.is) in
    let h = c.follow.ensures.went _ c.in_ok-child-in-Some.was in
    let p = err_from_is_err_and c.from_residual-in_err-end-in-Some.result c.from_residual-in_err-end-in-Some.ensures.1 in
    rw (p.1, p.2) (follows_fault _ (l.ends h.what _ _ _ h.reads (c.pass_behind.ensures.stopped _ c.in_err-end-in-Some.was)))

pub returns-in_ok-end-in-Some : goal.returns-in_ok-end-in-Some
returns-in_ok-end-in-Some t c =
    let l = c.open_component.ensures.into _ (c.in_ok-opened.was ∙ ap Ok c.in-Some.is) in
    let h = c.follow.ensures.went _ c.in_ok-child-in-Some.was in
    follows_on (child_goes _ _ _ _ _ _ _ _ _ _ _ _ c.if-ended.false _ l h (c.pass_behind.ensures.went _
    c.in_ok-end-in-Some.was))
