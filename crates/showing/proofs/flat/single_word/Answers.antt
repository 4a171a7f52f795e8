-- The bits, or those of the one NaN.
-- Assumes nothing.
use lib.Ieee.{to_bits}
use Rattle.showing.proofs.Flats.{no_nan, only_nan, single_small}
use Rattle.showing.proofs.flat.single_word.Goals as goal

pub float_to_bits-result : goal.float_to_bits-result
float_to_bits-result c = no_nan _ c.if-x.false

pub overflow_cast-result : goal.overflow_cast-result
overflow_cast-result c = record { fits = single_small _ c.well_formed.0.1 }

pub returns-then-x : goal.returns-then-x
unfolding to_bits
returns-then-x c = rw (only_nan c.args.x c.if-x.true)
