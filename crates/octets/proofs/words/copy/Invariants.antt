-- A run of octets is copied as far as there is room.
-- The first loop's invariant: the first b blocks are stored.
-- Assumes nothing.
use mathlib.Core.Path.{◌≡◌}
use Prim.Native.Nat.{◌*◌}
use lib.ListN.{take, drop}
use lib.Seq.{sets}
use Rattle.octets.proofs.words.copy.Given as goal

abbrev pub invariant-loop-b : goal.invariant-loop-b
invariant-loop-b l = l.out ≡ sets l.initial.out l.to (take (l.b * 32) (drop l.start l.from))
