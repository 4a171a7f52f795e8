-- An OPTIONAL component whose presence bit is 0.
-- Assumes nothing.
use borrow.Author.Tests.{eq-eqb, ne_eqb}
use mathlib.Core.Path.{refl}
use Rattle.finding.proofs.following.is_absent.Goals as goal

pub returns-then-optional : goal.returns-then-optional
returns-then-optional c = rw (eq-eqb _ 1 c.if-optional.true, c.is_present.ensures) refl

pub returns-else-optional : goal.returns-else-optional
returns-else-optional c = rw (ne_eqb _ 1 c.if-optional.false) refl
