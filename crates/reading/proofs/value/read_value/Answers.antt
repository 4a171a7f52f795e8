-- A value is a member alone.
-- Assumes nothing.
use native.Mathlib.Omega.{arith}
use Rattle.reading.proofs.Chains.{alone_ran}
use Rattle.reading.proofs.Members.{members_alone, alone_members}
use Rattle.reading.proofs.value.read_value.Goals as goal

pub read_members-requires : goal.read_members-requires
read_members-requires c = (
  omega (arith, c.requires.0),
  members_alone (omega arith),
  c.requires.1,
  c.requires.1,
  c.requires.2,
  c.requires.3,
)

pub returns : goal.returns
returns c = alone_ran _ (alone_members _ _ _ _ _ _ _) c.read_members.ensures
