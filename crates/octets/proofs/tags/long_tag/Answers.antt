-- `long_tag` meets its contract: one law for each `return`. Invariant: the octets from `start` to `i` are groups, each
-- with another one after it, and `n` is their number, capped (`Grouped`).
-- Assumes nothing.
use mathlib.Core.Path.{refl}
use native.Mathlib.Omega.{arith}
use Rattle.octets.proofs.Groups.{grouped_start, grouped_small, grouped_more}
use Rattle.octets.proofs.Tagging.{long_none, long_low, long_lead, long_found}
use Rattle.octets.proofs.tags.long_tag.Goals as goal

pub loop-i-init : goal.loop-i-init
loop-i-init c = grouped_start _ _ c.requires

pub with_group-n-requires : goal.with_group-n-requires
with_group-n-requires c = (grouped_small c.loop-i.invariant, omega arith)

pub returns-then-low : goal.returns-then-low
returns-then-low c =
    long_low _ _ _ _ c.loop-i.invariant c.loop-i-test.true
    c.octet-x.ensures.0 c.octet-x.ensures.1 c.with_group-n.ensures.0
    c.if-x-lt128.true c.if-low.true c.at.ensures

pub returns-then-octet-eq128 : goal.returns-then-octet-eq128
returns-then-octet-eq128 c =
    long_lead _ _ _ _ c.loop-i.invariant c.loop-i-test.true
    c.octet-x.ensures.0 c.octet-x.ensures.1 c.with_group-n.ensures.0
    c.if-x-lt128.true c.octet.ensures.0 c.if-low.false
    c.if-octet-eq128.true c.at-then-octet-eq128.ensures

pub returns-then-x-lt128 : goal.returns-then-x-lt128
returns-then-x-lt128 c =
    long_found _ _ _ _ c.loop-i.invariant c.loop-i-test.true
    c.octet-x.ensures.0 c.octet-x.ensures.1 c.with_group-n.ensures.0
    c.if-x-lt128.true c.octet.ensures.0 c.if-low.false
    c.if-octet-eq128.false refl

pub loop-i-preserved : goal.loop-i-preserved
loop-i-preserved c =
    grouped_more c.loop-i.invariant c.loop-i-test.true
    c.octet-x.ensures.0 c.octet-x.ensures.1 c.with_group-n.ensures.0
    c.if-x-lt128.false

pub returns : goal.returns
returns c = long_none _ _ _ _ c.loop-i.invariant c.loop-i-test.false c.at-2.ensures
