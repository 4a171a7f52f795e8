-- The quantity, then the elements before the step's own: one law for each return.
-- Assumes nothing.
use Rattle.std.proofs.lemmas.Result.{err_from_is_err_and}
use mathlib.Core.Path.{refl}
use native.Mathlib.Omega.{arith}
use Rattle.x696.proofs.TableRows.{sequence_of_row}
use Rattle.octets.proofs.Octets.{below_known}
use Rattle.reading.proofs.Elements.{quantity_stops}
use Rattle.finding.proofs.Openings.{opened_into, opened_nowhere, opened_fault}
use Rattle.finding.proofs.OpenElements.{past_elements, before_stops, sequence_of_leads}
use Rattle.finding.proofs.opening.open_sequence_of.Goals as goal

pub component_row-inner-requires : goal.component_row-inner-requires
component_row-inner-requires c =
    let sound = c.args.table.now.sound.row c.args.row c.requires.0 in
    let row = sequence_of_row _ _ _ sound c.requires.4 in
    omega (arith, row.range, row.one, c.row_first.ensures)

pub returns-then-many-step : goal.returns-then-many-step
returns-then-many-step c =
    let sound = c.args.table.now.sound.row c.args.row c.requires.0 in
    opened_nowhere (past_elements _ _ _ _ _ _ c.requires.1 sound c.requires.4 _ _ _ c.row_first.ensures
    c.component_row-inner.ensures c.read_quantity.ensures _ c.in_ok-q.was c.if-many-step.true)

pub pass_elements-requires : goal.pass_elements-requires
pass_elements-requires c =
    let sound = c.args.table.now.sound.row c.args.row c.requires.0 in
    let row = sequence_of_row _ _ _ sound c.requires.4 in (
      omega (arith, c.requires.0, rw (← c.row_first.ensures) at row.lower, c.component_row-inner.ensures),
      (c.read_quantity.ensures.went _ c.in_ok-q.was).inside,
      c.requires.2,
    )

pub returns-in_err-q : goal.returns-in_err-q
returns-in_err-q c =
    let sound = c.args.table.now.sound.row c.args.row c.requires.0 in
    let p = err_from_is_err_and c.from_residual.result c.from_residual.ensures.1 in
    rw (p.1, p.2) (opened_fault _ (quantity_stops _ _ _ _ _ _ c.requires.1 sound c.requires.4 c.read_quantity.ensures _
    c.in_err-q.was))

pub returns-in_err-before : goal.returns-in_err-before
returns-in_err-before c =
    let sound = c.args.table.now.sound.row c.args.row c.requires.0 in
    let p = err_from_is_err_and c.from_residual-in_err-before.result c.from_residual-in_err-before.ensures.1 in
    rw (p.1, p.2) (opened_fault _ (before_stops _ _ _ _ _ _ c.requires.1 sound c.requires.4 _ _ _ c.row_first.ensures
    c.component_row-inner.ensures c.read_quantity.ensures _ c.in_ok-q.was c.if-many-step.false
    (c.pass_elements.ensures.stopped _ c.in_err-before.was)))

pub returns : goal.returns
returns c =
    let sound = c.args.table.now.sound.row c.args.row c.requires.0 in
    let below = below_known 8 c.args.msg.now (λ i. (c.type_inv.msg i).fits) in
    opened_into (sequence_of_leads _ _ _ _ _ _ c.requires.1 sound c.requires.4 _ _ _ c.row_first.ensures
    c.component_row-inner.ensures c.read_quantity.ensures _ c.in_ok-q.was c.if-many-step.false below
    (c.pass_elements.ensures.went _ c.in_ok-before.was) _ refl refl refl refl refl refl refl)
