-- The preamble, then the components before the step's own: one law for each return.
-- Assumes nothing.
use Rattle.std.proofs.lemmas.Result.{err_from_is_err_and}
use mathlib.Core.Path.{refl}
use native.Mathlib.Omega.{arith}
use native.Mathlib.Nat.{add_assoc}
use Rattle.x696.proofs.TableRows.{sequence_row}
use Rattle.octets.proofs.Octets.{below_known}
use Rattle.reading.proofs.Sequences.{preamble_short, preamble_padded, preamble_got, preamble_stops}
use Rattle.finding.proofs.Openings.{opened_into, opened_nowhere, opened_refused, opened_fault}
use Rattle.finding.proofs.OpenSequence.{past_components, all_marks, before_stops, sequence_leads}
use Rattle.finding.proofs.opening.open_sequence.Goals as goal

pub returns-then-n-step : goal.returns-then-n-step
returns-then-n-step c =
    let sound = c.args.table.now.sound.row c.args.row c.requires.0 in
    opened_nowhere (past_components _ _ _ _ _ _ c.requires.1 sound c.requires.4 _ _ _
    c.row_first-first.ensures
    c.row_count-n.ensures c.if-n-step.true)

pub overflow_add-own : goal.overflow_add-own
overflow_add-own c =
    let sound = c.args.table.now.sound.row c.args.row c.requires.0 in
    let row = sequence_row _ _ _ sound c.requires.4 in
    omega (
      arith,
      row.range,
      c.args.table.now.sound.few_items,
      c.row_first-first.ensures,
      c.row_count-n.ensures,
      c.if-n-step.false,
    )

pub count_marked-bit-requires : goal.count_marked-bit-requires
count_marked-bit-requires c =
    let sound = c.args.table.now.sound.row c.args.row c.requires.0 in
    let row = sequence_row _ _ _ sound c.requires.4 in
    omega (arith, row.range, c.row_first-first.ensures, c.row_count-n.ensures, c.if-n-step.false)

pub count_marked-requires : goal.count_marked-requires
count_marked-requires c =
    let sound = c.args.table.now.sound.row c.args.row c.requires.0 in
    let row = sequence_row _ _ _ sound c.requires.4 in
    omega (arith, row.range, c.row_first-first.ensures, c.row_count-n.ensures, c.if-n-step.false)

pub overflow_add-bits-2 : goal.overflow_add-bits-2
overflow_add-bits-2 c =
    let sound = c.args.table.now.sound.row c.args.row c.requires.0 in
    let row = sequence_row _ _ _ sound c.requires.4 in
    omega (
      arith,
      row.range,
      c.args.table.now.sound.few_items,
      c.row_first-first.ensures,
      c.row_count-n.ensures,
      c.if-n-step.false,
      c.count_marked-bit.ensures.1,
      c.count_marked.ensures.1,
    )

pub returns-then-msg-at : goal.returns-then-msg-at
returns-then-msg-at c =
    let sound = c.args.table.now.sound.row c.args.row c.requires.0 in
    opened_refused (preamble_stops _ _ _ _ _ _ c.requires.1 sound c.requires.4 _ _ _ c.row_first-first.ensures
    c.row_count-n.ensures
    (all_marks _ _ _ _ _ _ c.if-n-step.false c.count_marked-bit.ensures.0
    c.count_marked.ensures.0)
    (preamble_short _ _ _ c.requires.1 c.if-msg-at.true)) c.at.ensures

pub is_padded-requires : goal.is_padded-requires
is_padded-requires c =
    let sound = c.args.table.now.sound.row c.args.row c.requires.0 in
    let row = sequence_row _ _ _ sound c.requires.4 in (
      omega (
        arith,
        row.range,
        c.args.table.now.sound.few_items,
        c.row_first-first.ensures,
        c.row_count-n.ensures,
        c.if-n-step.false,
        c.count_marked-bit.ensures.1,
        c.count_marked.ensures.1,
      ),
      omega (arith, c.requires.1, c.if-msg-at.false),
    )

pub returns-then-not-is_padded : goal.returns-then-not-is_padded
returns-then-not-is_padded c =
    let sound = c.args.table.now.sound.row c.args.row c.requires.0 in
    opened_refused (preamble_stops _ _ _ _ _ _ c.requires.1 sound c.requires.4 _ _ _ c.row_first-first.ensures
    c.row_count-n.ensures
    (all_marks _ _ _ _ _ _ c.if-n-step.false c.count_marked-bit.ensures.0 c.count_marked.ensures.0)
    (preamble_padded _ _ _ c.requires.1 c.if-msg-at.false _ c.is_padded.ensures
    c.if-not-is_padded.true))
    c.at-then-not-is_padded.ensures

pub pass_components-requires : goal.pass_components-requires
pass_components-requires c =
    let sound = c.args.table.now.sound.row c.args.row c.requires.0 in
    let row = sequence_row _ _ _ sound c.requires.4 in (
      c.requires.0,
      omega (arith, c.requires.1, c.if-msg-at.false),
      c.requires.2,
      omega (arith, row.range, c.row_first-first.ensures, c.row_count-n.ensures, c.if-n-step.false),
      (λ j l. rw c.row_first-first.ensures (row.component j (omega (
        arith,
        l,
        c.row_count-n.ensures,
        c.if-n-step.false,
      )))),
      c.requires.1,
      omega (
        arith,
        row.range,
        c.args.table.now.sound.few_items,
        c.row_first-first.ensures,
        c.row_count-n.ensures,
        c.if-n-step.false,
      ),
    )

pub component_row-requires : goal.component_row-requires
component_row-requires c =
    let sound = c.args.table.now.sound.row c.args.row c.requires.0 in
    let row = sequence_row _ _ _ sound c.requires.4 in
    omega (arith, row.range, c.row_first-first.ensures, c.row_count-n.ensures, c.if-n-step.false)

pub component_mark-requires : goal.component_mark-requires
component_mark-requires c =
    let sound = c.args.table.now.sound.row c.args.row c.requires.0 in
    let row = sequence_row _ _ _ sound c.requires.4 in
    omega (arith, row.range, c.row_first-first.ensures, c.row_count-n.ensures, c.if-n-step.false)

pub component_default-requires : goal.component_default-requires
component_default-requires c =
    let sound = c.args.table.now.sound.row c.args.row c.requires.0 in
    let row = sequence_row _ _ _ sound c.requires.4 in
    omega (arith, row.range, c.row_first-first.ensures, c.row_count-n.ensures, c.if-n-step.false)

pub overflow_add-result : goal.overflow_add-result
overflow_add-result c =
    let sound = c.args.table.now.sound.row c.args.row c.requires.0 in
    let row = sequence_row _ _ _ sound c.requires.4 in
    omega (
      arith,
      row.range,
      c.args.table.now.sound.few_items,
      c.row_first-first.ensures,
      c.row_count-n.ensures,
      c.if-n-step.false,
    )

pub is_marked-requires : goal.is_marked-requires
is_marked-requires c =
    let sound = c.args.table.now.sound.row c.args.row c.requires.0 in
    let row = sequence_row _ _ _ sound c.requires.4 in
    omega (arith, row.range, c.row_first-first.ensures, c.row_count-n.ensures, c.if-n-step.false)

pub returns-in_err-before : goal.returns-in_err-before
returns-in_err-before c =
    let sound = c.args.table.now.sound.row c.args.row c.requires.0 in
    let below = below_known 8 c.args.msg.now (λ i. (c.type_inv.msg i).fits) in
    let p = err_from_is_err_and c.from_residual.result c.from_residual.ensures.1 in
    rw (p.1, p.2) (opened_fault _ (before_stops _ _ _ _ _ _ c.requires.1 sound c.requires.4 _ _ _ c.row_first-first.ensures
    c.row_count-n.ensures c.if-n-step.false _ _ c.count_marked-bit.ensures.0 c.count_marked.ensures.0 below
    (preamble_got _ _ _ c.requires.1 c.if-msg-at.false _ c.is_padded.ensures c.if-not-is_padded.false)
    (c.pass_components.ensures.stopped _ c.in_err-before.was)))

pub returns : goal.returns
returns c =
    let sound = c.args.table.now.sound.row c.args.row c.requires.0 in
    let below = below_known 8 c.args.msg.now (λ i. (c.type_inv.msg i).fits) in
    opened_into (sequence_leads _ _ _ _ _ _ c.requires.1 sound c.requires.4 _ _ _ c.row_first-first.ensures
    c.row_count-n.ensures c.if-n-step.false _ _ c.count_marked-bit.ensures.0 c.count_marked.ensures.0
    below
    (preamble_got _ _ _ c.requires.1 c.if-msg-at.false _ c.is_padded.ensures c.if-not-is_padded.false)
    (c.pass_components.ensures.went _ c.in_ok-before.was) _ c.component_row.ensures
    c.component_mark.ensures
    c.component_default.ensures refl refl refl (add_assoc _ _ _)
    (rw c.is_marked.ensures.0 refl) refl c.count_marked-bit.ensures.1 c.args.table.now.sound.few_items (omega
    (arith, c.requires.1, c.if-msg-at.false)))
