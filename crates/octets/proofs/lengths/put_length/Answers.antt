-- `put_length` stores the octets of `length_octets`.
-- Assumes nothing.
use mathlib.Core.Path.{refl}
use Rattle.octets.proofs.Puts.{put_length_long, put_length_short}
use Rattle.octets.proofs.lengths.put_length.Goals as goal

pub returns-then-short : goal.returns-then-short
returns-then-short c = put_length_short _ _ _ _ c.if-short.true c.put.ensures

pub returns : goal.returns
returns c =
    let k = c.fewest_unsigned-k.ensures in
    put_length_long _ _ _ _ _ _ _ k.2 c.put_led.ensures k.0 c.if-short.false refl
