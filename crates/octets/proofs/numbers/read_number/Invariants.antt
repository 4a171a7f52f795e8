-- The number of k octets, read big end first.
-- The loop's invariant: v is the number of the first i octets, below 2 ^ (8 * i).
-- Assumes nothing.
use mathlib.Core.Path.{◌≡◌}
use Prim.Native.Nat.{◌<◌, ◌*◌, ◌^◌}
use lib.ListN.{take, drop}
use Rattle.x696.specs.Digits.{from_digits}
use Rattle.octets.proofs.numbers.read_number.Given as goal

abbrev pub invariant-loop-i : goal.invariant-loop-i
invariant-loop-i l = (l.v ≡ from_digits 8 (take l.i (drop l.start l.msg))) × (l.v < 2 ^ (8 * l.i))
