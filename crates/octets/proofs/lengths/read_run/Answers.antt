-- The answer of `read_run` is the outcome of `read_run`.
-- Assumes nothing.
use native.Mathlib.Omega.{arith}
use Rattle.octets.proofs.Answered.{run_from, run_refused}
use Rattle.octets.proofs.CountedRuns.{read_long, read_past, read_short}
use Rattle.octets.proofs.lengths.read_run.Goals as goal

pub returns-then-msg-at : goal.returns-then-msg-at
returns-then-msg-at c = run_refused (read_past _ _ _ c.if-msg-at.true) c.at.ensures

pub returns-then-x-lt128 : goal.returns-then-x-lt128
returns-then-x-lt128 c =
    run_from
    (read_short _ _ _ _ c.if-msg-at.false c.octet-x.ensures.0
    c.if-x-lt128.true)
    (omega arith) c.run_at.ensures

pub returns : goal.returns
returns c =
    run_from
    (read_long _ _ _ _ c.if-msg-at.false c.octet-x.ensures.0
    c.if-x-lt128.false)
    (omega arith) c.long_run.ensures
