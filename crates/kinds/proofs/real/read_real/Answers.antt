-- The octets are there or not, and their bits are allowed or not. Assumes nothing.
use Rattle.std.proofs.Common.{arith, refl, ◌∙◌}
use Rattle.kinds.proofs.Numbered.{real_few, real_lacks, real_refuses, real_goes}
use Rattle.kinds.proofs.real.read_real.Goals as goal

pub returns-then-msg-at : goal.returns-then-msg-at
returns-then-msg-at g c =
    λ n. real_lacks _ (c.OCTETS-octets.ensures ∙ g.P.Precision.format.has_octets) _ c.requires c.if-msg-at.true c.at.ensures

pub read_number-bits-requires : goal.read_number-bits-requires
read_number-bits-requires g c =
    let few = real_few g.P.Precision.precision in
    let e = c.OCTETS-octets.ensures ∙ g.P.Precision.format.has_octets in
    omega (arith, few, e, c.if-msg-at.false, c.requires)

pub returns-then-not-real_allowed : goal.returns-then-not-real_allowed
returns-then-not-real_allowed g c =
    λ n.
    real_refuses _ (c.OCTETS-octets.ensures ∙ g.P.Precision.format.has_octets) _ c.requires c.if-msg-at.false c.read_number-bits.ensures.0
    c.real_allowed.ensures c.if-not-real_allowed.true c.at-then-not-real_allowed.ensures

pub returns : goal.returns
returns g c =
    λ n.
    real_goes _ (c.OCTETS-octets.ensures ∙ g.P.Precision.format.has_octets) _ c.requires c.if-msg-at.false c.read_number-bits.ensures.0
    c.real_allowed.ensures c.if-not-real_allowed.false refl
