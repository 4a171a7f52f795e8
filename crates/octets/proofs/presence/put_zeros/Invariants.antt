-- `put_zeros` meets its contract. Invariant: what is left to store makes of the octets now what was to be stored in all
-- (`Zeroed`).
-- Assumes nothing.
use Rattle.octets.proofs.Weights.{Zeroed}
use Rattle.octets.proofs.presence.put_zeros.Given as goal

abbrev pub invariant-loop-i : goal.invariant-loop-i
invariant-loop-i l = Zeroed l.initial.out l.to l.n l.out l.i
