-- The bits, or 11, or 7. Assumes nothing.
use Rattle.std.proofs.Common.{arith, ◌∙◌}
use Rattle.kinds.proofs.Numbered.{real_few}
use Rattle.pens.proofs.Numbers.{real_checked, sign_fits, real_formed, real_unformed, misformed, unallowed, goes, stored_digits}
use Rattle.pens.proofs.real.write_real.Goals as goal

pub overflow_add-wide : goal.overflow_add-wide
overflow_add-wide g c = omega (arith, sign_fits g.P.Precision.format c.SIGN-sign.ensures)

pub returns-then-wide : goal.returns-then-wide
returns-then-wide g c =
    misformed (real_checked _ _) (real_unformed g.P.Precision.format c.SIGN-sign.ensures c.if-wide.true)

pub returns-then-not-real_allowed : goal.returns-then-not-real_allowed
returns-then-not-real_allowed g c =
    unallowed (real_checked _ _) (real_formed g.P.Precision.format c.SIGN-sign.ensures c.if-wide.false)
    c.real_allowed.ensures c.if-not-real_allowed.true

pub put_number-requires : goal.put_number-requires
put_number-requires g c =
    let e = c.OCTETS-octets.ensures ∙ g.P.Precision.format.has_octets in
    omega (arith, real_few g.P.Precision.precision, e, c.requires)

pub overflow_add-result : goal.overflow_add-result
overflow_add-result g c =
    let e = c.OCTETS-octets.ensures ∙ g.P.Precision.format.has_octets in
    omega (arith, real_few g.P.Precision.precision, e, c.requires)

pub returns : goal.returns
returns g c =
    let e = c.OCTETS-octets.ensures ∙ g.P.Precision.format.has_octets in
    goes (real_checked _ _) (real_formed g.P.Precision.format c.SIGN-sign.ensures c.if-wide.false)
    c.real_allowed.ensures c.if-not-real_allowed.false
    (rw (← e) (stored_digits _ _ (rw e (real_few g.P.Precision.precision)) c.put_number.ensures))
