-- The k octets of a number are stored big end first, the lowest first.
-- The loop's invariant: storing the i octets of v that are left gives what storing all k of w gives.
-- Assumes nothing.
use mathlib.Core.Path.{◌≡◌}
use lib.ListN.{length}
use lib.Seq.{sets}
use Rattle.x696.specs.Digits.{digits}
use Rattle.octets.proofs.numbers.put_digits.Given as goal

abbrev pub invariant-loop-i : goal.invariant-loop-i
invariant-loop-i l = (sets l.out l.to (digits 8 l.i l.v) ≡ sets l.initial.out l.to (digits 8 l.k l.w)) × (length l.out ≡ length l.initial.out)
