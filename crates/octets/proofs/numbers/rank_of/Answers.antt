-- The rank of a word in the signed order: half of all words more, around the end.
-- Assumes nothing.
use mathlib.Core.Path.{refl}
use Rattle.x696.specs.Integer.{rank}
use Rattle.octets.proofs.numbers.rank_of.Goals as goal

pub returns : goal.returns
returns c = unfold rank in refl
