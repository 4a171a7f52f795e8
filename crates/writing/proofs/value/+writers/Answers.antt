-- The answer of `write_choice` is the outcome of walking a CHOICE behind its node: one law for each return.
-- The answer of `write_member` is the outcome of walking one component, its presence bit noted: one law for each return.
-- The answer of `write_members` is the outcome of walking the members of a group: one law for each return.
-- The answer of `write_row` is the outcome of walking a value: its node, then by the row's kind.
-- The answer of `write_sequence` is the outcome of walking a SEQUENCE behind its node: one law for each return.
-- The answer of `write_sequence_of` is the outcome of walking a SEQUENCE OF behind its node.
use Rattle.std.proofs.lemmas.Result.{err_from_is_err_and}
use Prim.Native.Nat.{◌<◌, ◌≤◌}
use mathlib.Core.Path.{refl, ◌∙◌}
use native.Mathlib.Omega.{arith}
use Rattle.x696.proofs.TableRows.{choice_row, sequence_row, sequence_of_row}
use Rattle.table.proofs.KindNumbers.{kind_number, leaf_left}
use Rattle.reading.proofs.Members.{members_alone}
use Rattle.pens.proofs.Putting
use Rattle.writing.proofs.Copies
use Rattle.writing.proofs.Alternatives
use Rattle.writing.proofs.Components
use Rattle.reading.proofs.Members as Laws
use Rattle.writing.proofs.Members
use Rattle.writing.proofs.NodeTests
use Rattle.writing.proofs.Sequences
use Rattle.writing.proofs.Elements
use borrow.Author.Rules.{rules}
use Rattle.writing.proofs.value.+writers.Goals as goal

pub write_choice-returns-then-row_count-number : goal.write_choice-returns-then-row_count-number
write_choice-returns-then-row_count-number t c =
    let sound = c.args.table.now.sound.row c.args.row c.requires.0 in
    Putting.put_refused (Alternatives.place_none _ _ c.args.nodes.now c.args.contents.now _ _
    c.args.used _ sound c.requires.6 _
    c.row_count.ensures c.if-row_count-number.true) c.at.ensures

pub write_choice-overflow_add-i : goal.write_choice-overflow_add-i
write_choice-overflow_add-i t c =
    let sound = c.args.table.now.sound.row c.args.row c.requires.0 in
    let row = choice_row _ _ _ sound c.requires.6 in
    omega (
      arith,
      row.range,
      c.args.table.now.sound.few_items,
      c.row_first.ensures,
      c.row_count.ensures,
      c.if-row_count-number.false,
    )

pub write_choice-tag_class-requires : goal.write_choice-tag_class-requires
write_choice-tag_class-requires t c =
    let sound = c.args.table.now.sound.row c.args.row c.requires.0 in
    let row = choice_row _ _ _ sound c.requires.6 in
    omega (arith, row.range, c.row_first.ensures, c.row_count.ensures, c.if-row_count-number.false)

pub write_choice-tag_number-requires : goal.write_choice-tag_number-requires
write_choice-tag_number-requires t c =
    let sound = c.args.table.now.sound.row c.args.row c.requires.0 in
    let row = choice_row _ _ _ sound c.requires.6 in
    omega (arith, row.range, c.row_first.ensures, c.row_count.ensures, c.if-row_count-number.false)

pub write_choice-put_tag-p-requires : goal.write_choice-put_tag-p-requires
write_choice-put_tag-p-requires t c =
    let sound = c.args.table.now.sound.row c.args.row c.requires.0 in
    let row = choice_row _ _ _ sound c.requires.6 in
    let one = row.alternative c.args.number (rw (← c.row_count.ensures) c.if-row_count-number.false) in
    let few : c.tag_number.result ≤ 2097151 = rw (c.tag_number.ensures, c.row_first.ensures) one.number in
    (omega arith, rw (c.tag_class.ensures, c.row_first.ensures) one.class, omega (arith, few))

pub write_choice-alternative_row-inner-requires : goal.write_choice-alternative_row-inner-requires
write_choice-alternative_row-inner-requires t c =
    let sound = c.args.table.now.sound.row c.args.row c.requires.0 in
    let row = choice_row _ _ _ sound c.requires.6 in
    omega (arith, row.range, c.row_first.ensures, c.row_count.ensures, c.if-row_count-number.false)

pub write_choice-write_members-requires : goal.write_choice-write_members-requires
write_choice-write_members-requires t c =
    let sound = c.args.table.now.sound.row c.args.row c.requires.0 in
    let row = choice_row _ _ _ sound c.requires.6 in
    let one = row.alternative c.args.number (rw (← c.row_count.ensures) c.if-row_count-number.false) in
    let lt : c.alternative_row-inner.result < c.args.row = rw (
      c.alternative_row-inner.ensures,
      c.row_first.ensures,
    ) one.lower in (
      omega arith,
      (
        omega (arith, c.requires.0),
        members_alone lt,
        c.requires.1,
        omega (arith, c.requires.2),
        c.requires.3,
        c.requires.4,
        omega (arith, c.requires.5, c.put_tag-p.ensures.2),
        Copies.no_preamble _ _ _ _ _,
        Copies.no_zeros _ _ _ _ _ _,
      ),
    )

pub write_choice-returns : goal.write_choice-returns
write_choice-returns t c =
    let sound = c.args.table.now.sound.row c.args.row c.requires.0 in
    Alternatives.chosen_goes _ _ c.args.nodes.now c.args.contents.now _ _ c.args.used _
    sound c.requires.6 _ c.row_count.ensures c.if-row_count-number.false _ _
    c.row_first.ensures refl _ c.alternative_row-inner.ensures _ _ c.tag_class.ensures
    c.tag_number.ensures c.put_tag-p.ensures.0
    c.put_tag-p.ensures.1 c.put_tag-p.ensures.2 (Copies.alone _ _ _ c.write_members.ensures)

pub write_member-member_missing-requires : goal.write_member-member_missing-requires
write_member-member_missing-requires t c = (
  omega (arith, c.requires.1.lower, c.requires.0),
  λ h. (c.requires.1.marked h).0,
  omega (
    arith,
    c.requires.2,
    c.requires.3,
  ),
)

pub write_member-overflow_add-result : goal.write_member-overflow_add-result
write_member-overflow_add-result t c = omega (arith, c.requires.2, c.requires.3)

pub write_member-returns-then-member_missing : goal.write_member-returns-then-member_missing
write_member-returns-then-member_missing t c =
    let sound = c.args.table.now.sound.row c.args.row (omega (arith, c.requires.1.lower, c.requires.0)) in
    Components.member_missing _ _ _ _ _ _ _ _ _ _ _ _ _ c.requires.1 sound _ c.member_missing.ensures
    c.if-member_missing.true c.requires.4 refl

pub write_member-note_presence-requires : goal.write_member-note_presence-requires
write_member-note_presence-requires t c = (
  omega (
    arith,
    c.requires.6,
    c.requires.7,
    c.requires.2,
    c.requires.3,
    c.requires.4,
    c.requires.5,
  ),
  λ h. (c.requires.1.marked h).4,
)

pub write_member-write_row-requires : goal.write_member-write_row-requires
write_member-write_row-requires t c = (
  omega arith,
  (
    omega (arith, c.requires.1.lower, c.requires.0),
    c.requires.2,
    c.requires.3,
    c.requires.4,
    c.requires.5,
    c.requires.6,
  ),
)

pub write_member-returns : goal.write_member-returns
write_member-returns t c =
    let sound = c.args.table.now.sound.row c.args.row (omega (arith, c.requires.1.lower, c.requires.0)) in
    Components.member_carried _ _ _ _ _ _ _ _ _ _ _ _ _ c.requires.1 sound _ c.member_missing.ensures
    c.if-member_missing.false c.note_presence.ensures c.write_row.ensures

pub write_members-loop-i-init : goal.write_members-loop-i-init
write_members-loop-i-init t c = (
  refl,
  (
    c.requires.3,
    c.requires.4,
    omega arith,
    omega (arith, c.requires.7),
    omega
        arith,
    omega arith,
    Members.members_start _ _ c.args.nodes.now c.args.contents.now _ _ _ _ _ c.args.at
        c.args.used c.requires.7 c.requires.8,
  ),
)

pub write_members-overflow_add-first : goal.write_members-overflow_add-first
write_members-overflow_add-first t c =
    omega (
      arith,
      Laws.member_fits c.requires.1 c.loop-i.i c.loop-i-test.true
          c.args.table.now.sound.few_items 18446744073709551615 (omega arith) (omega arith),
    )

pub write_members-member_mark-mark-requires : goal.write_members-member_mark-mark-requires
write_members-member_mark-mark-requires t c = λ e. Laws.member_inside c.requires.1 c.loop-i.i c.loop-i-test.true e

pub write_members-overflow_add-first-in-loop-i : goal.write_members-overflow_add-first-in-loop-i
write_members-overflow_add-first-in-loop-i t c =
    omega (
      arith,
      Laws.member_fits c.requires.1 c.loop-i.i c.loop-i-test.true
          c.args.table.now.sound.few_items 18446744073709551615 (omega arith) (omega arith),
    )

pub write_members-member_row-row-requires : goal.write_members-member_row-row-requires
write_members-member_row-row-requires t c = λ e. Laws.member_inside c.requires.1 c.loop-i.i c.loop-i-test.true e

pub write_members-overflow_add-first-in-loop-i-2 : goal.write_members-overflow_add-first-in-loop-i-2
write_members-overflow_add-first-in-loop-i-2 t c =
    omega (
      arith,
      Laws.member_fits c.requires.1 c.loop-i.i c.loop-i-test.true
          c.args.table.now.sound.few_items 18446744073709551615 (omega arith) (omega arith),
    )

pub write_members-write_member-requires : goal.write_members-write_member-requires
write_members-write_member-requires t c =
    let one = Laws.member_known c.requires.1 c.loop-i.i c.loop-i-test.true c.loop-i.b
    (omega (arith, c.loop-i.invariant.1.4)) _ _ c.member_mark-mark.ensures c.member_row-row.ensures in
    let lt = one.lower in (
      omega (arith, lt),
      (
        c.requires.0,
        one,
        c.requires.2,
        c.loop-i.invariant.1.0,
        c.loop-i.invariant.1.1,
        c.requires.5,
        omega (arith, c.loop-i.invariant.1.2, c.requires.6),
        c.loop-i.invariant.1.3,
      ),
    )

pub write_members-returns-in_err-pen : goal.write_members-returns-in_err-pen
write_members-returns-in_err-pen t c =
    let p = err_from_is_err_and c.from_residual.result c.from_residual.ensures.1 in
    rw (p.1, p.2) (Members.members_stop _ _ c.args.nodes.now c.args.contents.now _ _ _ _ _ c.args.at
    c.args.used _ c.loop-i.pen.at c.loop-i.pen.used c.loop-i.invariant.1.6 c.loop-i-test.true
    c.member_mark-mark.ensures c.member_row-row.ensures (c.write_member.ensures.stopped _
    c.in_err-pen.was))

pub write_members-overflow_add-b : goal.write_members-overflow_add-b
write_members-overflow_add-b t c = omega (arith, c.loop-i.invariant.1.4, c.bit_of-b.ensures.1, c.loop-i-test.true)

pub write_members-loop-i-preserved : goal.write_members-loop-i-preserved
write_members-loop-i-preserved t c = (
  search rules,
  let w = c.write_member.ensures.went _ c.in_ok-pen.was in
      let g = w.goes in (
        g.inside,
        g.within,
        omega (arith, g.bound, c.loop-i.invariant.1.2),
        omega (
          arith,
          g.ends,
          c.loop-i.invariant.1.3,
        ),
        omega (arith, c.loop-i.invariant.1.4, c.bit_of-b.ensures.1),
        Members.marks_again _ _ _ _ _ _ c.loop-i.i c.loop-i.b c.loop-i-test.true c.loop-i.invariant.1.5
            c.member_mark-mark.ensures c.bit_of-b.ensures.0,
        Members.member_goes _ _ c.args.nodes.now c.args.contents.now _ _ _ _ _ c.args.at
            c.args.used _ c.loop-i.pen.at c.loop-i.pen.used c.loop-i.invariant.1.6 c.loop-i-test.true
            c.loop-i.invariant.1.5
            c.member_mark-mark.ensures c.member_row-row.ensures c.bit_of-b.ensures.0 w,
      ),
)

pub write_members-returns : goal.write_members-returns
write_members-returns t c =
    Members.members_done _ _ c.args.nodes.now c.args.contents.now _ _ _ _ _ c.args.at
    c.args.used _ c.loop-i.pen.at c.loop-i.pen.used c.loop-i.invariant.1.6 c.loop-i-test.false
    c.loop-i.invariant.1.5 c.loop-i.invariant.1.0 c.loop-i.invariant.1.1
    c.loop-i.invariant.1.2 refl

pub write_row-returns-then-nodes-at : goal.write_row-returns-then-nodes-at
write_row-returns-then-nodes-at t c =
    Putting.put_refused (NodeTests.value_lacks _ _ c.args.contents.now _ c.args.used
    c.if-nodes-at.true) c.at.ensures

pub write_row-returns-then-node_kind-number : goal.write_row-returns-then-node_kind-number
write_row-returns-then-node_kind-number t c =
    let sound = c.args.table.now.sound.row c.args.row c.requires.0 in
    Putting.put_refused (NodeTests.row_other _ _ _ sound _ c.args.contents.now _ c.args.used
    c.if-nodes-at.false (c.number.ensures ∙ c.row_kind-kind.ensures)
    c.node_kind.ensures c.if-node_kind-number.true) c.at-then-node_kind-number.ensures

pub write_row-write_leaf-requires : goal.write_row-write_leaf-requires
write_row-write_leaf-requires t c =
    let sound = c.args.table.now.sound.row c.args.row c.requires.0 in
    let leaf = leaf_left _ c.in_default.not-Sequence c.in_default.not-SequenceOf c.in_default.not-Choice in (
      c.requires.0,
      sound,
      omega (arith, c.row_kind-kind.ensures, leaf),
      omega (arith, c.if-nodes-at.false),
      c.requires.3,
      c.requires.4,
      c.requires.5,
    )

pub write_row-returns-in_default : goal.write_row-returns-in_default
write_row-returns-in_default t c =
    let sound = c.args.table.now.sound.row c.args.row c.requires.0 in
    Putting.put_by (NodeTests.row_behind _ _ _ sound _ c.args.contents.now _ c.args.used
    c.if-nodes-at.false (c.number.ensures ∙ c.row_kind-kind.ensures) c.node_kind.ensures
    c.if-node_kind-number.false c.node_number-number.ensures)
    (c.write_leaf.ensures c.args.nodes.now (omega (arith, c.if-nodes-at.false)))

pub write_row-write_sequence-requires : goal.write_row-write_sequence-requires
write_row-write_sequence-requires t c = (
  omega arith,
  (
    c.requires.0,
    c.requires.1,
    omega (arith, c.if-nodes-at.false),
    c.requires.3,
    c.requires.4,
    c.requires.5,
    kind_number c.row_kind-kind.ensures c.in-Sequence.is,
  ),
)

pub write_row-returns-in-Sequence : goal.write_row-returns-in-Sequence
write_row-returns-in-Sequence t c =
    let sound = c.args.table.now.sound.row c.args.row c.requires.0 in
    Putting.put_by (NodeTests.row_behind _ _ _ sound _ c.args.contents.now _ c.args.used
    c.if-nodes-at.false (c.number.ensures ∙ c.row_kind-kind.ensures) c.node_kind.ensures
    c.if-node_kind-number.false c.node_number-number.ensures)
    c.write_sequence.ensures

pub write_row-write_sequence_of-requires : goal.write_row-write_sequence_of-requires
write_row-write_sequence_of-requires t c = (
  omega arith,
  (
    c.requires.0,
    c.requires.1,
    omega (arith, c.if-nodes-at.false),
    c.requires.3,
    c.requires.4,
    c.requires.5,
    kind_number c.row_kind-kind.ensures c.in-SequenceOf.is,
  ),
)

pub write_row-returns-in-SequenceOf : goal.write_row-returns-in-SequenceOf
write_row-returns-in-SequenceOf t c =
    let sound = c.args.table.now.sound.row c.args.row c.requires.0 in
    Putting.put_by (NodeTests.row_behind _ _ _ sound _ c.args.contents.now _ c.args.used
    c.if-nodes-at.false (c.number.ensures ∙ c.row_kind-kind.ensures) c.node_kind.ensures
    c.if-node_kind-number.false c.node_number-number.ensures)
    c.write_sequence_of.ensures

pub write_row-write_choice-requires : goal.write_row-write_choice-requires
write_row-write_choice-requires t c = (
  omega arith,
  (
    c.requires.0,
    c.requires.1,
    omega (arith, c.if-nodes-at.false),
    c.requires.3,
    c.requires.4,
    c.requires.5,
    kind_number c.row_kind-kind.ensures c.in-Choice.is,
  ),
)

pub write_row-returns-in-Choice : goal.write_row-returns-in-Choice
write_row-returns-in-Choice t c =
    let sound = c.args.table.now.sound.row c.args.row c.requires.0 in
    Putting.put_by (NodeTests.row_behind _ _ _ sound _ c.args.contents.now _ c.args.used
    c.if-nodes-at.false (c.number.ensures ∙ c.row_kind-kind.ensures) c.node_kind.ensures
    c.if-node_kind-number.false c.node_number-number.ensures)
    c.write_choice.ensures

pub write_sequence-returns-then-number-n : goal.write_sequence-returns-then-number-n
write_sequence-returns-then-number-n t c =
    let sound = c.args.table.now.sound.row c.args.row c.requires.0 in
    Putting.put_refused (Sequences.count_other _ _ c.args.nodes.now c.args.contents.now _ _
    c.args.used _ sound c.requires.6 _ c.row_count-n.ensures
    c.if-number-n.true) c.at.ensures

pub write_sequence-count_marked-requires : goal.write_sequence-count_marked-requires
write_sequence-count_marked-requires t c =
    let sound = c.args.table.now.sound.row c.args.row c.requires.0 in
    let row = sequence_row _ _ _ sound c.requires.6 in
    omega (arith, row.range, c.row_first-first.ensures, c.row_count-n.ensures)

pub write_sequence-overflow_add-octets : goal.write_sequence-overflow_add-octets
write_sequence-overflow_add-octets t c =
    let sound = c.args.table.now.sound.row c.args.row c.requires.0 in
    let row = sequence_row _ _ _ sound c.requires.6 in
    omega (
      arith,
      row.range,
      c.args.table.now.sound.few_items,
      c.row_first-first.ensures,
      c.row_count-n.ensures,
      c.count_marked.ensures.1,
    )

pub write_sequence-put_zeros-requires : goal.write_sequence-put_zeros-requires
write_sequence-put_zeros-requires t c =
    let sound = c.args.table.now.sound.row c.args.row c.requires.0 in
    let row = sequence_row _ _ _ sound c.requires.6 in (
      omega arith,
      omega (
        arith,
        row.range,
        c.args.table.now.sound.few_items,
        c.row_first-first.ensures,
        c.row_count-n.ensures,
        c.count_marked.ensures.1,
      ),
    )

pub write_sequence-overflow_add-to : goal.write_sequence-overflow_add-to
write_sequence-overflow_add-to t c =
    let sound = c.args.table.now.sound.row c.args.row c.requires.0 in
    let row = sequence_row _ _ _ sound c.requires.6 in
    omega (
      arith,
      row.range,
      c.args.table.now.sound.few_items,
      c.row_first-first.ensures,
      c.row_count-n.ensures,
      c.count_marked.ensures.1,
    )

pub write_sequence-write_members-requires : goal.write_sequence-write_members-requires
write_sequence-write_members-requires t c =
    let sound = c.args.table.now.sound.row c.args.row c.requires.0 in
    let row = sequence_row _ _ _ sound c.requires.6 in (
      omega arith,
      (
        omega (arith, c.requires.0),
        Sequences.listed_members _ _ _ _ _ row c.args.table.now.sound.few_items
            c.row_first-first.ensures c.row_count-n.ensures,
        c.requires.1,
        omega (arith, c.requires.2),
        c.requires.3,
        c.requires.4,
        omega (
          arith,
          c.requires.5,
          row.range,
          c.args.table.now.sound.few_items,
          c.row_first-first.ensures,
          c.row_count-n.ensures,
          c.count_marked.ensures.1,
        ),
        Sequences.zeros_end _ _ _ _ _ _ c.count_marked.ensures.0,
        Sequences.zeros_stay _ _ _ _ _ _ c.count_marked.ensures.0 _ c.put_zeros.ensures,
      ),
    )

pub write_sequence-returns : goal.write_sequence-returns
write_sequence-returns t c =
    let sound = c.args.table.now.sound.row c.args.row c.requires.0 in
    let row = sequence_row _ _ _ sound c.requires.6 in
    Sequences.components_go _ _ c.args.nodes.now c.args.contents.now _ _ c.args.used _
    sound c.requires.6 _ c.row_count-n.ensures c.if-number-n.false _ _
    c.row_first-first.ensures c.count_marked.ensures.0 _ _ c.put_zeros.ensures (omega (
      arith,
      row.range,
      c.args.table.now.sound.few_items,
      c.row_first-first.ensures,
      c.row_count-n.ensures,
      c.count_marked.ensures.1,
    ))
    c.write_members.ensures

pub write_sequence_of-component_row-inner-requires : goal.write_sequence_of-component_row-inner-requires
write_sequence_of-component_row-inner-requires t c =
    let sound = c.args.table.now.sound.row c.args.row c.requires.0 in
    let row = sequence_of_row _ _ _ sound c.requires.6 in
    omega (arith, row.range, row.one, c.row_first.ensures)

pub write_sequence_of-write_members-requires : goal.write_sequence_of-write_members-requires
write_sequence_of-write_members-requires t c =
    let sound = c.args.table.now.sound.row c.args.row c.requires.0 in
    let row = sequence_of_row _ _ _ sound c.requires.6 in
    let lt : c.component_row-inner.result < c.args.row = rw (c.component_row-inner.ensures, c.row_first.ensures)
    row.lower in (
      omega arith,
      (
        omega (arith, c.requires.0),
        members_alone lt,
        c.requires.1,
        omega (arith, c.requires.2),
        c.requires.3,
        c.requires.4,
        omega (arith, c.requires.5, c.put_quantity-p.ensures.2),
        Copies.no_preamble _ _ _ _ _,
        Copies.no_zeros _ _ _ _ _ _,
      ),
    )

pub write_sequence_of-returns : goal.write_sequence_of-returns
write_sequence_of-returns t c =
    let sound = c.args.table.now.sound.row c.args.row c.requires.0 in
    Elements.elements_go _ _ c.args.nodes.now c.args.contents.now _ _ c.args.used _ sound
    c.requires.6 _ _ c.row_first.ensures c.component_row-inner.ensures _ _
    c.put_quantity-p.ensures.0 c.put_quantity-p.ensures.1 c.put_quantity-p.ensures.2
    c.write_members.ensures
