use mathlib.Core.Path.{sym, ◌∙◌}
use lib.Ieee.{binary32}
use Rattle.showing.proofs.Floats.{not_nan, is_nan_lem, zero_by_zero}
use Rattle.showing.proofs.numbers.single_of.Goals as goal

pub float_from_bits-result : goal.float_from_bits-result
float_from_bits-result c = not_nan binary32 _ c.if-b-le2139095040.true

pub returns-else-b-le2139095040 : goal.returns-else-b-le2139095040
returns-else-b-le2139095040 c = zero_by_zero binary32 ∙ sym (is_nan_lem binary32 _ c.if-b-le2139095040.false)
