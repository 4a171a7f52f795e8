-- Whether octets are the fewest for their number: none are not, one is, more are if the first is not 0.
-- Assumes nothing.
use Rattle.octets.proofs.Octets.{below_known}
use Rattle.octets.proofs.Runs.{run_none, run_one, run_more}
use Rattle.octets.proofs.numbers.is_fewest.Goals as goal

pub returns-then-k-eq0 : goal.returns-then-k-eq0
returns-then-k-eq0 c = let a = c.args in (run_none a.msg.now a.start a.k c.if-k-eq0.true).0

pub returns-then-k-eq1 : goal.returns-then-k-eq1
returns-then-k-eq1 c =
    let a = c.args in
    let b = below_known 8 a.msg.now (λ i. (c.type_inv.msg i).fits) in
    (run_one a.msg.now a.start a.k b c.requires c.if-k-eq1.true).0

pub returns : goal.returns
returns c =
    let a = c.args in
    let b = below_known 8 a.msg.now (λ i. (c.type_inv.msg i).fits) in
    run_more a.msg.now a.start a.k b c.requires c.if-k-eq0.false c.if-k-eq1.false _
    c.octet.ensures.0
