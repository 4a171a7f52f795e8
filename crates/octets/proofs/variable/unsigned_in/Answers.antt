-- The answer of `unsigned_in` is the outcome of `unsigned_in`.
-- Assumes nothing.
use mathlib.Core.Path.{refl}
use native.Mathlib.Omega.{arith}
use Rattle.octets.proofs.Answered.{number_found, number_refused}
use Rattle.octets.proofs.Determined.{unsigned_good, unsigned_long, unsigned_wide}
use Rattle.octets.proofs.variable.unsigned_in.Goals as goal

pub returns-then-not-is_fewest : goal.returns-then-not-is_fewest
returns-then-not-is_fewest c =
    number_refused
    (unsigned_wide _ _ _ _ c.requires _ c.is_fewest.ensures
    c.if-not-is_fewest.true)
    c.at.ensures

pub returns-then-k-gt8 : goal.returns-then-k-gt8
returns-then-k-gt8 c =
    number_refused
    (unsigned_long _ _ _ _ c.requires _
    c.is_fewest.ensures c.if-not-is_fewest.false
    c.if-k-gt8.true)
    c.at-then-k-gt8.ensures

pub returns : goal.returns
returns c =
    number_found
    (unsigned_good _ _ _ _ c.requires _
    c.is_fewest.ensures _ c.if-not-is_fewest.false
    c.if-k-gt8.false c.read_number.ensures.0)
    c.requires (omega arith) refl
