-- A value is a member alone.
-- Assumes nothing.
use native.Mathlib.Omega.{arith}
use Rattle.reading.proofs.Members.{members_alone}
use Rattle.writing.proofs.Copies
use Rattle.writing.proofs.value.write_value.Goals as goal

pub write_members-requires : goal.write_members-requires
write_members-requires c = (
  omega (arith, c.requires.0),
  members_alone (omega arith),
  c.requires.1,
  c.requires.2,
  c.requires.3,
  c.requires.4,
  c.requires.5,
  Copies.no_preamble _ _ _ _ _,
  Copies.no_zeros _ _ _ _ _ _,
)

pub returns : goal.returns
returns c = Copies.alone _ _ _ c.write_members.ensures
