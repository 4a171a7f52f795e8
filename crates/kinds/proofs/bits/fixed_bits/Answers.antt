-- The answer of `fixed_bits` is the outcome of `read_fixed_bits`, in a message.
-- Assumes nothing.
use mathlib.Core.Path.{refl}
use Rattle.kinds.proofs.Ran.{ran_refused}
use Rattle.kinds.proofs.BitRuns.{fixed_lacks, fixed_unclear, fixed_goes}
use Rattle.kinds.proofs.bits.fixed_bits.Goals as goal

pub returns-then-msg-at : goal.returns-then-msg-at
returns-then-msg-at c =
    ran_refused (fixed_lacks _ _ _ _ c.requires.1
    c.octets-filled.ensures c.if-msg-at.true) c.at.ensures

pub returns-then-not-low_bits_clear : goal.returns-then-not-low_bits_clear
returns-then-not-low_bits_clear c =
    ran_refused (fixed_unclear _ _ _ _
    c.requires.1
    c.octets-filled.ensures c.if-msg-at.false
    c.unused.ensures c.low_bits_clear.ensures
    c.if-not-low_bits_clear.true) c.at-then-not-low_bits_clear.ensures

pub returns : goal.returns
returns c =
    fixed_goes _ _ _ _ c.requires.1
    c.octets-filled.ensures c.if-msg-at.false
    c.unused.ensures c.low_bits_clear.ensures
    c.if-not-low_bits_clear.false (rw c.number.ensures at c.put_node.ensures)
    c.copy.ensures refl
