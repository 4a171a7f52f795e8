-- The answer of `read_bits` is the outcome of reading a BIT STRING.
-- Assumes nothing.
use Rattle.std.proofs.lemmas.Result.{err_from_is_err_and}
use Rattle.kinds.proofs.Ran.{ran_by, ran_fault}
use Rattle.kinds.proofs.BitRuns.{bits_fixed, bits_stop, bits_counted}
use Rattle.kinds.proofs.bits.read_bits.Goals as goal

pub returns-then-is_fixed : goal.returns-then-is_fixed
returns-then-is_fixed c =
    ran_by (bits_fixed _ _ _ _ _ _ c.requires.1 c.is_fixed.ensures
    c.if-is_fixed.true)
    c.fixed_bits.ensures

pub bits_in-requires : goal.bits_in-requires
bits_in-requires c =
    let g = c.read_run.ensures.went _
    c.in_ok-run.was in (
      c.requires.0,
      g.ahead,
      g.inside,
      c.requires.2,
      c.requires.3,
    )

pub returns-in_err-run : goal.returns-in_err-run
returns-in_err-run c =
    let p = err_from_is_err_and c.from_residual.result c.from_residual.ensures.1 in
    rw (p.1, p.2) (ran_fault _ (bits_stop _ _ _ _ _ _
    c.requires.1
    c.is_fixed.ensures c.if-is_fixed.false
    c.read_run.ensures _ c.in_err-run.was))

pub returns : goal.returns
returns c =
    ran_by (bits_counted _ _ _ _ _ _
    c.requires.1
    c.is_fixed.ensures c.if-is_fixed.false
    c.read_run.ensures _ c.in_ok-run.was)
    c.bits_in.ensures
