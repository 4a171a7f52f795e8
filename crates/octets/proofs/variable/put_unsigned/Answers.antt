-- `put_unsigned` stores the octets of `variable_unsigned`.
-- Assumes nothing.
use mathlib.Core.Path.{refl}
use Rattle.octets.proofs.Puts.{put_variable_unsigned}
use Rattle.octets.proofs.variable.put_unsigned.Goals as goal

pub returns : goal.returns
returns c =
    let k = c.fewest_unsigned-k.ensures in
    put_variable_unsigned _ _ _ _ _ _ _ k.2 c.put_led.ensures k.0 refl
