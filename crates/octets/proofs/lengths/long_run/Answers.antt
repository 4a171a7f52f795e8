-- The answer of `long_run` is the outcome of `long_run`, one law for each return.
-- Assumes nothing.
use native.Mathlib.Omega.{arith}
use Rattle.octets.proofs.Answered.{run_from, run_refused}
use Rattle.octets.proofs.CountedRuns.{long_goes, long_huge, long_lacks, long_low, long_none, long_wide}
use Rattle.octets.proofs.lengths.long_run.Goals as goal

pub returns-then-k-eq0 : goal.returns-then-k-eq0
returns-then-k-eq0 c = run_refused (long_none _ _ _ c.if-k-eq0.true) c.at.ensures

pub returns-then-msg-start : goal.returns-then-msg-start
returns-then-msg-start c =
    run_refused
    (long_lacks _ _ _ _ c.requires.0 c.if-k-eq0.false
    c.if-msg-start.true)
    c.at-then-msg-start.ensures

pub returns-then-not-is_fewest : goal.returns-then-not-is_fewest
returns-then-not-is_fewest c =
    run_refused
    (long_wide _ _ _ _ c.requires.0
    c.if-k-eq0.false c.if-msg-start.false _
    c.is_fewest.ensures c.if-not-is_fewest.true)
    c.at-then-not-is_fewest.ensures

pub returns-then-huge : goal.returns-then-huge
returns-then-huge c =
    run_refused
    (long_huge _ _ _ _ c.requires.0
    c.if-k-eq0.false c.if-msg-start.false _
    c.is_fewest.ensures c.if-not-is_fewest.false
    (omega arith) c.if-huge.true)
    c.at-then-huge.ensures

pub returns-then-low : goal.returns-then-low
returns-then-low c =
    run_refused
    (long_low _ _ _ _ c.requires.0
    c.if-k-eq0.false
    c.if-msg-start.false _ c.read_number-n.ensures.0
    c.if-low.true)
    c.at-then-low.ensures

pub returns : goal.returns
returns c =
    run_from
    (long_goes _ _ _ _ c.requires.0
    c.if-k-eq0.false
    c.if-msg-start.false _
    c.is_fewest.ensures
    c.if-not-is_fewest.false _ c.read_number-n.ensures.0
    c.if-low.false)
    (omega arith) c.run_at.ensures
