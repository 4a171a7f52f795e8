-- The answer of `read_enumerated` is the outcome of `read_enumerated`.
-- Assumes nothing.
use mathlib.Core.Path.{refl}
use native.Mathlib.Omega.{arith}
use Rattle.octets.proofs.Answered.{number_found, number_from, number_refused}
use Rattle.octets.proofs.Determined.{enumerated_long, enumerated_past, enumerated_short}
use Rattle.octets.proofs.enumerated.read_enumerated.Goals as goal

pub returns-then-msg-at : goal.returns-then-msg-at
returns-then-msg-at c = number_refused (enumerated_past _ _ _ c.if-msg-at.true) c.at.ensures

pub returns-then-x-lt128 : goal.returns-then-x-lt128
returns-then-x-lt128 c =
    number_found
    (enumerated_short _ _ _ _ c.if-msg-at.false c.octet-x.ensures.0
    c.if-x-lt128.true)
    (omega arith) (omega arith) refl

pub returns : goal.returns
returns c =
    number_from
    (enumerated_long _ _ _ _ c.if-msg-at.false c.octet-x.ensures.0
    c.if-x-lt128.false)
    (omega arith) c.long_number.ensures
