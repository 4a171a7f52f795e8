use mathlib.Core.Path.{sym, ◌∙◌}
use lib.Ieee.{binary64}
use Rattle.showing.proofs.Floats.{not_nan, is_nan_lem, zero_by_zero}
use Rattle.showing.proofs.numbers.double_of.Goals as goal

pub float_from_bits-result : goal.float_from_bits-result
float_from_bits-result c = not_nan binary64 _ c.if-b-le9218868437227405312.true

pub returns-else-b-le9218868437227405312 : goal.returns-else-b-le9218868437227405312
returns-else-b-le9218868437227405312 c = zero_by_zero binary64 ∙ sym (is_nan_lem binary64 _ c.if-b-le9218868437227405312.false)
