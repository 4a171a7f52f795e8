-- Whether octets are the fewest for their number in two's complement: none are not, one is, more are if their first
-- nine bits are not all alike.
-- Assumes nothing.
use Rattle.octets.proofs.Octets.{below_known}
use Rattle.octets.proofs.Runs.{run_none, run_one, run_plus, run_minus}
use Rattle.octets.proofs.numbers.is_fewest_signed.Goals as goal

pub returns-then-k-eq0 : goal.returns-then-k-eq0
returns-then-k-eq0 c = let a = c.args in (run_none a.msg.now a.start a.k c.if-k-eq0.true).1

pub returns-then-k-eq1 : goal.returns-then-k-eq1
returns-then-k-eq1 c =
    let a = c.args in
    let b = below_known 8 a.msg.now (λ i. (c.type_inv.msg i).fits) in
    (run_one a.msg.now a.start a.k b c.requires c.if-k-eq1.true).1

pub returns-then-second-lt128 : goal.returns-then-second-lt128
returns-then-second-lt128 c =
    let a = c.args in
    let b = below_known 8 a.msg.now (λ i. (c.type_inv.msg i).fits) in
    run_plus a.msg.now a.start a.k b c.requires c.if-k-eq0.false c.if-k-eq1.false
    _ _ c.octet-first.ensures.0 c.octet-second.ensures.0 c.if-second-lt128.true

pub returns-else-second-lt128 : goal.returns-else-second-lt128
returns-else-second-lt128 c =
    let a = c.args in
    let b = below_known 8 a.msg.now (λ i. (c.type_inv.msg i).fits) in
    run_minus a.msg.now a.start a.k b c.requires c.if-k-eq0.false c.if-k-eq1.false
    _ _ c.octet-first.ensures.0 c.octet-second.ensures.0 c.if-second-lt128.false
