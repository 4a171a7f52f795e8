-- Both tests of a width, by the ranks of the bounds. Assumes nothing.
use Rattle.kinds.proofs.Chosen.{between_low, between_high}
use Rattle.kinds.proofs.widths.is_within.Goals as goal

pub returns-then-low-h : goal.returns-then-low-h
returns-then-low-h c = between_low _ _ _ c.if-low-h.true

pub returns : goal.returns
returns c = between_high _ _ _ c.if-low-h.false
