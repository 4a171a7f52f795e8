-- The message is measured, read and followed, and its end compared: one law for each return.
-- Assumes nothing.
use Rattle.octets.proofs.Refusing.{refuses}
use mathlib.Core.Path.{refl}
use native.Mathlib.Omega.{arith}
use Rattle.octets.proofs.Octets.{below_known}
use Rattle.finding.proofs.PlaceLaws.{place_stop, place_found, long_behind, fault_behind, left_behind}
use Rattle.finding.proofs.PlaceLaws.{lost_at, found_behind}
use Rattle.finding.proofs.places.find_below.Goals as goal

pub returns-then-msg-gt65535 : goal.returns-then-msg-gt65535
returns-then-msg-gt65535 c = place_stop (long_behind _ _ _ c.if-msg-gt65535.true) (refuses c.at.ensures c.in_part.ensures)

pub follow-requires : goal.follow-requires
follow-requires c = (
  c.requires,
  omega arith,
  omega (arith, c.if-msg-gt65535.false),
  (
    omega arith,
    (λ z. absurd (omega
        arith)),
    λ z. refl,
  ),
  omega arith,
  omega arith,
)

pub returns-then-end-msg : goal.returns-then-end-msg
returns-then-end-msg c =
    let h = c.follow.ensures.went _ c.in-Ok.is in
    place_stop (left_behind _ _ _ _ _ (omega (arith, c.if-msg-gt65535.false)) h.reads h.inside c.if-end-msg.true)
    (refuses c.at-then-end-msg.ensures c.in_part-then-end-msg.ensures)

pub returns-in-Err : goal.returns-in-Err
returns-in-Err c =
    place_stop (fault_behind _ _ _ _ _ (omega (arith, c.if-msg-gt65535.false)) _ (c.follow.ensures.stopped _
    c.in-Err.is)) c.in_part-in-Err.ensures

pub returns-in-Err-leads : goal.returns-in-Err-leads
returns-in-Err-leads c =
    let h = c.follow.ensures.went _ c.in-Ok.is in
    place_stop (lost_at _ _ _ _ _ (omega (arith, c.if-msg-gt65535.false)) h c.if-end-msg.false c.in-Err-leads.is)
    (refuses c.at-in-Err-leads.ensures c.in_part-in-Err-leads.ensures)

pub returns-in-Ok-leads : goal.returns-in-Ok-leads
returns-in-Ok-leads c =
    let h = c.follow.ensures.went _ c.in-Ok.is in
    let below = below_known 8 c.args.msg.now (λ i. (c.type_inv.msg i).fits) in
    place_found (found_behind _ _ _ _ _ (omega (arith, c.if-msg-gt65535.false)) c.args.table.now.sound c.requires below h
    c.if-end-msg.false c.in-Ok-leads.is)
