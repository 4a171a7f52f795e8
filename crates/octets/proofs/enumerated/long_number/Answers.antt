-- The answer of `long_number` is the outcome of `long_number`.
-- Assumes nothing.
use native.Mathlib.Omega.{arith}
use Rattle.octets.proofs.Answered.{number_from, number_refused}
use Rattle.octets.proofs.Determined.{number_goes, number_lacks, number_low, number_none}
use Rattle.octets.proofs.enumerated.long_number.Goals as goal
use Rattle.octets.proofs.enumerated.long_number.Goals.{then-k-eq1+else-octet-lt128, else-k-eq1}

pub returns-then-k-eq0 : goal.returns-then-k-eq0
returns-then-k-eq0 c = number_refused (number_none _ _ _ c.if-k-eq0.true) c.at.ensures

pub returns-then-msg-start : goal.returns-then-msg-start
returns-then-msg-start c =
    number_refused
    (number_lacks _ _ _ _ c.requires.0 c.if-k-eq0.false
    c.if-msg-start.true)
    c.at-then-msg-start.ensures

pub returns-then-octet-lt128 : goal.returns-then-octet-lt128
returns-then-octet-lt128 c =
    number_refused
    (number_low _ _ _ _ c.requires.0
    c.if-k-eq0.false c.if-msg-start.false _
    c.if-k-eq1.true c.octet.ensures.0 c.if-octet-lt128.true)
    c.at-then-octet-lt128.ensures

pub returns : goal.returns
returns c =
    number_from
    (number_goes _ _ _ _ c.requires.0 c.if-k-eq0.false
    c.if-msg-start.false
    (λ e. elim c.if-k-eq1.branch [
      | then-k-eq1+else-octet-lt128 w ↦ omega (arith, w.octet.ensures.0, w.if-octet-lt128.false)
      | else-k-eq1 w ↦ absurd (w.if-k-eq1.false e)
    ]))
    (omega arith) c.signed_in.ensures
