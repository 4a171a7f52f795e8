-- The answer of `run_at` is the outcome of `run`.
-- Assumes nothing.
use mathlib.Core.Path.{refl}
use native.Mathlib.Omega.{arith}
use Rattle.octets.proofs.Answered.{run_found, run_refused}
use Rattle.octets.proofs.CountedRuns.{run_lacks, run_there}
use Rattle.octets.proofs.lengths.run_at.Goals as goal

pub returns-then-left-n : goal.returns-then-left-n
returns-then-left-n c = run_refused (run_lacks _ _ _ _ c.requires c.if-left-n.true) c.at.ensures

pub returns : goal.returns
returns c =
    run_found (run_there _ _ _ _ c.requires c.if-left-n.false)
    (omega (arith, c.requires, c.if-left-n.false)) (omega arith) refl
