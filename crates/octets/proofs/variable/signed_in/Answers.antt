-- The answer of `signed_in` is the outcome of `signed_in`.
-- Assumes nothing.
use mathlib.Core.Path.{refl}
use native.Mathlib.Omega.{arith}
use Rattle.octets.proofs.Answered.{number_found, number_refused}
use Rattle.octets.proofs.Determined.{signed_good, signed_long, signed_one, signed_wide}
use Rattle.octets.proofs.variable.signed_in.Goals as goal

pub returns-then-not-is_fewest_signed : goal.returns-then-not-is_fewest_signed
returns-then-not-is_fewest_signed c =
    number_refused
    (signed_wide _ _ _ _ c.requires _ c.is_fewest_signed.ensures
    c.if-not-is_fewest_signed.true)
    c.at.ensures

pub returns-then-k-gt8 : goal.returns-then-k-gt8
returns-then-k-gt8 c =
    number_refused
    (signed_long _ _ _ _ c.requires _
    c.is_fewest_signed.ensures c.if-not-is_fewest_signed.false
    c.if-k-gt8.true)
    c.at-then-k-gt8.ensures

pub sign_extend-requires : goal.sign_extend-requires
sign_extend-requires c = (
  signed_one _ _ _ 0 c.requires _
      c.is_fewest_signed.ensures c.if-not-is_fewest_signed.false,
  c.if-k-gt8.false,
  c.read_number.ensures.1,
)

pub returns : goal.returns
returns c =
    number_found
    (signed_good _ _ _ _ c.requires _
    c.is_fewest_signed.ensures
    c.if-not-is_fewest_signed.false _ _ c.if-k-gt8.false
    c.read_number.ensures.0 c.sign_extend.ensures)
    c.requires (omega arith) refl
