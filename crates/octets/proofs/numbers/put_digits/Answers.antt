-- The k octets of a number are stored big end first, the lowest first.
-- The loop's invariant: storing the i octets of v that are left gives what storing all k of w gives.
-- Assumes nothing.
use mathlib.Core.Path.{◌∙◌}
use native.Mathlib.Omega.{arith}
use Rattle.octets.proofs.BigEnd.{stored_low, stored_all}
use borrow.Author.Rules.{rules}
use Rattle.octets.proofs.numbers.put_digits.Goals as goal

pub loop-i-preserved : goal.loop-i-preserved
loop-i-preserved c =
    let l = c.loop-i in
    (stored_low _ _ c.args.to l.i l.v (omega arith) c.put.ensures ∙ l.invariant.0, search rules)

pub returns : goal.returns
returns c =
    let l = c.loop-i in
    stored_all _ _ c.args.to l.i l.v (omega arith) l.invariant.0
