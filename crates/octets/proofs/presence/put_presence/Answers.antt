-- `put_presence` meets its contract: the octet without the bit, and with it if it is to be set.
-- Assumes nothing.
use Prim.Native.Nat.{◌+◌, ◌/◌}
use native.Mathlib.Omega.{arith}
use Rattle.octets.proofs.Weights.{put_set, put_clear}
use Rattle.octets.proofs.presence.put_presence.Goals as goal

pub returns-then-present : goal.returns-then-present
returns-then-present c =
    let a = c.args in
    put_set a.out.now (a.pre + a.b / 8) _ _ _ _ (omega arith) c.weight-w.ensures.0
    c.octet-o.ensures.0 c.octet-o.ensures.1
    c.if-present.true c.put.ensures

pub returns-else-present : goal.returns-else-present
returns-else-present c =
    let a = c.args in
    put_clear a.out.now (a.pre + a.b / 8) _ _ _ _ (omega arith) c.weight-w.ensures.0
    c.octet-o.ensures.0 c.octet-o.ensures.1
    c.if-present.false c.put-else-present.ensures
