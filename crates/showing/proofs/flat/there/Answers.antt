-- As defined.
-- Assumes nothing.
use mathlib.Core.Path.{refl}
use Rattle.showing.specs.Flat.{there_flat}
use Rattle.showing.proofs.flat.there.Goals as goal

pub returns : goal.returns
unfolding there_flat
returns c = refl
