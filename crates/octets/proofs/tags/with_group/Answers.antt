-- `with_group` meets its contract: the sum as it is below the cap, or the cap.
-- Assumes nothing.
use native.Mathlib.Omega.{arith}
use Rattle.octets.proofs.Groups.{capped_low, capped_high}
use Rattle.octets.proofs.tags.with_group.Goals as goal

pub returns-then-more-lt2097152 : goal.returns-then-more-lt2097152
returns-then-more-lt2097152 c = (capped_low _ (omega arith), omega arith)

pub returns-else-more-lt2097152 : goal.returns-else-more-lt2097152
returns-else-more-lt2097152 c = (capped_high _ (omega arith), omega arith)
