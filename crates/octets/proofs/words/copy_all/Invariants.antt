-- A run of octets is copied, octet by octet.
-- The loop's invariant: the first i octets are stored.
-- Assumes nothing.
use mathlib.Core.Path.{◌≡◌}
use lib.ListN.{take, drop}
use lib.Seq.{sets}
use Rattle.octets.proofs.words.copy_all.Given as goal

abbrev pub invariant-loop-i : goal.invariant-loop-i
invariant-loop-i l = l.out ≡ sets l.initial.out l.to (take l.i (drop l.start l.from))
