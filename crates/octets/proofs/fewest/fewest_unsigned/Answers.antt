-- The fewest octets of a number, by the place of its highest bit.
-- Assumes nothing.
use native.Mathlib.Omega.{arith}
use Rattle.octets.proofs.Few.{fewest_top}
use Rattle.octets.proofs.fewest.fewest_unsigned.Goals as goal

pub returns : goal.returns
returns c =
    let t = c.ilog2-top.ensures in
    let m = c.max.ensures in
    (fewest_top c.args.n _ (rw m at t.power_le) (rw m at t.next_power_gt), omega arith, omega arith)
