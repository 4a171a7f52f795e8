-- Measured, the room compared, then written with the buffer lent.
-- Assumes nothing.
use native.Mathlib.Omega.{arith}
use Rattle.std.proofs.lemmas.Result.{err_from_is_err_and}
use Rattle.octets.proofs.Refusing.{refuses}
use Rattle.encoding.proofs.Replying.{octets_table, octets_by, encode_stop, encode_room, encode_done}
use mathlib.Core.Path.{refl}
use Rattle.encoding.proofs.operations.put_list.Goals as goal

pub returns-in_err-table : goal.returns-in_err-table
returns-in_err-table c =
    let p = err_from_is_err_and c.from_residual.result c.from_residual.ensures.1 in
    let o = octets_table _ _ _ c.args.nodes.now c.args.contents.now (c.asked_table.ensures.stopped _ c.in_err-table.was) in
    rw (p.1, p.2) (encode_stop _ _ _ _ _ (o.stopped _ refl) _)

pub octets_in-requires : goal.octets_in-requires
octets_in-requires c =
    let ready = c.asked_table.ensures.ready _ c.in_ok-table.was in
    rw ready.0 ready.3

pub returns-in_err-n : goal.returns-in_err-n
returns-in_err-n c =
    let o = octets_by _ _ _ _ _ c.asked_table.ensures c.in_ok-table.was c.octets_in.ensures in
    let p = err_from_is_err_and c.from_residual-in_err-n.result c.from_residual-in_err-n.ensures.1 in
    rw (p.1, p.2) (encode_stop _ _ _ _ _ (o.stopped _ c.in_err-n.was) _)

pub returns-then-lacks : goal.returns-then-lacks
returns-then-lacks c =
    let o = octets_by _ _ _ _ _ c.asked_table.ensures c.in_ok-table.was c.octets_in.ensures in
    encode_room _ _ _ _ _ (o.went _ c.in_ok-n.was) _ c.if-lacks.true (refuses c.at.ensures c.in_part.ensures)

pub write_value-again-requires : goal.write_value-again-requires
write_value-again-requires c =
    let o = octets_by _ _ _ _ _ c.asked_table.ensures c.in_ok-table.was c.octets_in.ensures in
    let ready = c.asked_table.ensures.ready _ c.in_ok-table.was in
    let g = o.went _ c.in_ok-n.was in
    (rw ready.0 ready.3, g.list.few, omega arith, omega arith, g.list.short, omega arith)

pub returns : goal.returns
returns c =
    let o = octets_by _ _ _ _ _ c.asked_table.ensures c.in_ok-table.was c.octets_in.ensures in
    let ready = c.asked_table.ensures.ready _ c.in_ok-table.was in
    encode_done _ _ _ _ _ (o.went _ c.in_ok-n.was) _ c.if-lacks.false _
    (rw (ready.0, ready.1) at c.write_value-again.ensures)
