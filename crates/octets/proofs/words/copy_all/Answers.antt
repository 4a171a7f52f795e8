-- A run of octets is copied, octet by octet.
-- The loop's invariant: the first i octets are stored.
-- Assumes nothing.
use native.Mathlib.Omega.{arith}
use Rattle.octets.proofs.Stores.{copied_more}
use Rattle.octets.proofs.words.copy_all.Goals as goal

pub loop-i-preserved : goal.loop-i-preserved
loop-i-preserved c =
    let a = c.args in
    copied_more a.from.now a.out.now _ a.start a.to c.loop-i.i (omega arith) c.loop-i.invariant
