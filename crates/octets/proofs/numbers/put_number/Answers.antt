-- The octets of a number are stored by the loop of `put_digits`; where nothing fits, storing them would change nothing.
-- Assumes nothing.
use mathlib.Core.Path.{sym}
use Rattle.x696.specs.Digits.{digits}
use Rattle.octets.proofs.Stores.{sets_out}
use Rattle.octets.proofs.numbers.put_number.Goals as goal

pub returns-then-out-to : goal.returns-then-out-to
returns-then-out-to c =
    let a = c.args in
    sym (sets_out (digits 8 a.k a.w) _ a.to c.if-out-to.true)
