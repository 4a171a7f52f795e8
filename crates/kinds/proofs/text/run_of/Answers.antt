-- The answer of `run_of` is the outcome of `text_run`.
-- Assumes nothing.
use native.Mathlib.Omega.{arith}
use Rattle.octets.proofs.Answered.{run_from}
use Rattle.kinds.proofs.Texts.{text_fixed, text_varies}
use Rattle.kinds.proofs.text.run_of.Goals as goal

pub returns-then-is_fixed : goal.returns-then-is_fixed
returns-then-is_fixed c =
    run_from (text_fixed _ _ _ _ _ c.is_fixed.ensures c.if-is_fixed.true) (omega arith)
    c.run_at.ensures

pub returns-else-is_fixed : goal.returns-else-is_fixed
returns-else-is_fixed c =
    run_from (text_varies _ _ _ _ _ c.is_fixed.ensures c.if-is_fixed.false) (omega arith)
    c.read_run.ensures
