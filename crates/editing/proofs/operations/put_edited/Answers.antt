-- One law for each return.
-- Assumes nothing.
use Rattle.std.proofs.lemmas.Result.{err_from_is_err_and}
use Rattle.octets.proofs.Refusing.{refuses}
use native.Mathlib.Omega.{arith}
use Rattle.octets.proofs.Octets.{below_known}
use Rattle.editing.proofs.Held.{given_sound, marked_inside, nodes_held, octets_held}
use Rattle.editing.proofs.Edits.{place_stops, list_stops, nodes_stop, long_stop, room_stop, edit_done}
use Rattle.editing.proofs.operations.put_edited.Goals as goal

pub survey_list-requires : goal.survey_list-requires
survey_list-requires c =
    let h = c.find_in.ensures.went _ c.in_ok-w.was in
    (h.spot.inside, given_sound _ _ _ _ _ h)

pub invariant_of-table : goal.invariant_of-table
invariant_of-table c =
    let h = c.find_in.ensures.went _ c.in_ok-w.was in
    record { sound = h.sound }

pub overflow_sub-many : goal.overflow_sub-many
overflow_sub-many c =
    let h = c.find_in.ensures.went _ c.in_ok-w.was in
    nodes_held _ _ _ _ _ h

pub overflow_add-many : goal.overflow_add-many
overflow_add-many c =
    let h = c.find_in.ensures.went _ c.in_ok-w.was in
    omega (arith, h.few, (c.survey_list.ensures.went _ c.in_ok-n.was).few)

pub returns-then-many : goal.returns-then-many
returns-then-many c =
    let h = c.find_in.ensures.went _ c.in_ok-w.was in
    let words = below_known 64 c.args.nodes.now (λ i. (c.type_inv.nodes i).fits) in
    let octets = below_known 8 c.args.contents.now (λ i. (c.type_inv.contents i).fits) in
    let table = below_known 64 c.args.items.now (λ i. (c.type_inv.items i).fits) in
    nodes_stop _ _ _ _ _ _ _ _ h (c.survey_list.ensures.went _ c.in_ok-n.was) words octets table
    c.if-many.true (refuses c.at.ensures c.in_part.ensures)

pub returns-then-n-gt65535 : goal.returns-then-n-gt65535
returns-then-n-gt65535 c =
    let h = c.find_in.ensures.went _ c.in_ok-w.was in
    let words = below_known 64 c.args.nodes.now (λ i. (c.type_inv.nodes i).fits) in
    let octets = below_known 8 c.args.contents.now (λ i. (c.type_inv.contents i).fits) in
    let table = below_known 64 c.args.items.now (λ i. (c.type_inv.items i).fits) in
    long_stop _ _ _ _ _ _ _ _ h (c.survey_list.ensures.went _ c.in_ok-n.was) words octets table
    c.if-many.false
    (omega (arith, c.if-n-gt65535.true)) (refuses c.at-then-n-gt65535.ensures c.in_part-then-n-gt65535.ensures)

pub overflow_sub-octets : goal.overflow_sub-octets
overflow_sub-octets c =
    let h = c.find_in.ensures.went _ c.in_ok-w.was in
    (octets_held _ _ _ _ _ h).0

pub overflow_sub-octets-2 : goal.overflow_sub-octets-2
overflow_sub-octets-2 c =
    let h = c.find_in.ensures.went _ c.in_ok-w.was in
    let (low, high) = octets_held _ _ _ _ _ h in
    omega (arith, low, high)

pub overflow_add-octets : goal.overflow_add-octets
overflow_add-octets c =
    let h = c.find_in.ensures.went _ c.in_ok-w.was in
    omega (arith, h.short, c.if-n-gt65535.false)

pub returns-then-octets-gt65535 : goal.returns-then-octets-gt65535
returns-then-octets-gt65535 c =
    let h = c.find_in.ensures.went _ c.in_ok-w.was in
    let words = below_known 64 c.args.nodes.now (λ i. (c.type_inv.nodes i).fits) in
    let octets = below_known 8 c.args.contents.now (λ i. (c.type_inv.contents i).fits) in
    let table = below_known 64 c.args.items.now (λ i. (c.type_inv.items i).fits) in
    long_stop _ _ _ _ _ _ _ _ h (c.survey_list.ensures.went _ c.in_ok-n.was) words octets table
    c.if-many.false
    c.if-octets-gt65535.true (refuses c.at-then-octets-gt65535.ensures c.in_part-then-octets-gt65535.ensures)

pub returns-then-lacks : goal.returns-then-lacks
returns-then-lacks c =
    let h = c.find_in.ensures.went _ c.in_ok-w.was in
    let words = below_known 64 c.args.nodes.now (λ i. (c.type_inv.nodes i).fits) in
    let octets = below_known 8 c.args.contents.now (λ i. (c.type_inv.contents i).fits) in
    let table = below_known 64 c.args.items.now (λ i. (c.type_inv.items i).fits) in
    room_stop _ _ _ _ _ _ _ _ h (c.survey_list.ensures.went _ c.in_ok-n.was) words octets table
    c.if-many.false
    c.if-octets-gt65535.false c.if-lacks.true (refuses c.at-then-lacks.ensures c.in_part-then-lacks.ensures)

pub splice-requires : goal.splice-requires
splice-requires c =
    let h = c.find_in.ensures.went _ c.in_ok-w.was in
    let a = c.survey_list.ensures.went _ c.in_ok-n.was in
    let (low, high) = octets_held _ _ _ _ _ h in (
      h.spot.inside,
      given_sound _ _ _ _ _ h,
      a.few,
      a.short,
      h.short,
      omega (arith, low, high),
      high,
      c.if-n-gt65535.false,
      marked_inside _ _ _ _ _ h,
      h.spot.few,
    )

pub returns : goal.returns
returns c =
    let h = c.find_in.ensures.went _ c.in_ok-w.was in
    let words = below_known 64 c.args.nodes.now (λ i. (c.type_inv.nodes i).fits) in
    let octets = below_known 8 c.args.contents.now (λ i. (c.type_inv.contents i).fits) in
    let table = below_known 64 c.args.items.now (λ i. (c.type_inv.items i).fits) in
    edit_done _ _ _ _ _ _ _ _ h (c.survey_list.ensures.went _ c.in_ok-n.was) words octets table
    c.if-many.false
    c.if-octets-gt65535.false c.if-lacks.false c.splice.ensures

pub returns-in_err-w : goal.returns-in_err-w
returns-in_err-w c =
    let p = err_from_is_err_and c.from_residual.result c.from_residual.ensures.1 in
    rw (p.1, p.2) (place_stops _ _ _ _ _ _ _ _ (c.find_in.ensures.stopped _ c.in_err-w.was))

pub returns-in_err-n : goal.returns-in_err-n
returns-in_err-n c =
    let h = c.find_in.ensures.went _ c.in_ok-w.was in
    let p = err_from_is_err_and c.from_residual-in_err-n.result c.from_residual-in_err-n.ensures.1 in
    rw (p.1, p.2) (list_stops _ _ _ _ _ _ _ _ h (c.survey_list.ensures.stopped _ c.in_err-n.was))
