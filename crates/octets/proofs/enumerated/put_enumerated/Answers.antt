-- `put_enumerated` stores the octets of `enumerated_octets`.
-- Assumes nothing.
use mathlib.Core.Path.{refl}
use Rattle.octets.proofs.Puts.{put_enumerated_long, put_enumerated_short}
use Rattle.octets.proofs.enumerated.put_enumerated.Goals as goal

pub returns-then-w-lt128 : goal.returns-then-w-lt128
returns-then-w-lt128 c =
    put_enumerated_short _ _ _ _ c.if-w-lt128.true
    c.put.ensures

pub returns : goal.returns
returns c =
    let k = c.fewest_signed-k.ensures in
    put_enumerated_long _ _ _ _ _ _ _ k.2 c.put_led.ensures k.0 c.if-w-lt128.false refl
