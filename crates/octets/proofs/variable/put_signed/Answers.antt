-- `put_signed` stores the octets of `variable_signed`.
-- Assumes nothing.
use mathlib.Core.Path.{refl}
use Rattle.octets.proofs.Puts.{put_variable_signed}
use Rattle.octets.proofs.variable.put_signed.Goals as goal

pub returns : goal.returns
returns c =
    let k = c.fewest_signed-k.ensures in
    put_variable_signed _ _ _ _ _ _ _ k.2 c.put_led.ensures k.0 refl
