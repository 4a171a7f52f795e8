-- The answer of `read_choice` is the outcome of reading a CHOICE, its node counted: one law for each return.
-- The answer of `read_member` is the outcome of reading one member, missing or carried: one law for each return.
-- The answer of `read_members` is the outcome of reading the members: one law for each return.
-- The answer of `read_row` is the outcome of reading a value: a node too many, or by the row's kind.
-- The answer of `read_sequence` is the outcome of reading a SEQUENCE, its node counted: one law for each return.
-- The answer of `read_sequence_of` is the outcome of reading a SEQUENCE OF, its node counted: one law for each return.
use Rattle.std.proofs.lemmas.Result.{err_from_is_err_and}
use Prim.Native.Nat.{◌<◌}
use native.Mathlib.Omega.{arith}
use Rattle.x696.proofs.TableRows.{choice_row, sequence_row, sequence_of_row}
use Rattle.table.proofs.KindNumbers.{kind_number, is_number, is_string}
use Rattle.octets.proofs.Octets.{below_known}
use mathlib.Core.Path.{refl, ◌∙◌}
use Rattle.reading.proofs.Chains.{Chain}
use Rattle.x696.specs.Table.{type_of}
use Rattle.kinds.proofs.Ran
use Rattle.reading.proofs.Alternatives
use Rattle.reading.proofs.Chains
use Rattle.reading.proofs.Members as Laws
use Rattle.reading.proofs.OneMember
use Rattle.kinds.proofs.Scalars
use Rattle.reading.proofs.Elements
use Rattle.reading.proofs.Sequences
use borrow.Author.Rules.{rules}
use Rattle.reading.proofs.value.+readers.Goals as goal

pub read_choice-find_tag-requires : goal.read_choice-find_tag-requires
read_choice-find_tag-requires t c =
    let sound = c.args.table.now.sound.row c.args.row c.requires.0 in
    let row = choice_row _ _ _ sound c.requires.4 in (
      omega (arith, row.range, c.row_first-first.ensures, c.row_count-n.ensures),
      λ i j h g. rw c.row_first-first.ensures (row.ascends i j h (rw (← c.row_count-n.ensures) g)),
    )

pub read_choice-returns-in_default : goal.read_choice-returns-in_default
read_choice-returns-in_default t c =
    let sound = c.args.table.now.sound.row c.args.row c.requires.0 in
    Ran.ran_refused (Alternatives.tag_unknown _ _ _ _ _ _ c.requires.1 sound c.requires.4
    c.read_tag.ensures _ _ _ _ c.in_ok-g.was c.row_first-first.ensures c.row_count-n.ensures
    (c.find_tag.ensures.nowhere c.in_default.is) (omega arith)) c.at.ensures

pub read_choice-overflow_add-first : goal.read_choice-overflow_add-first
read_choice-overflow_add-first t c =
    let sound = c.args.table.now.sound.row c.args.row c.requires.0 in
    let row = choice_row _ _ _ sound c.requires.4 in
    let inside = (c.find_tag.ensures.there _ c.in-Some.is).0 in
    omega (arith, row.range, c.args.table.now.sound.few_items, c.row_first-first.ensures, c.row_count-n.ensures, inside)

pub read_choice-alternative_row-requires : goal.read_choice-alternative_row-requires
read_choice-alternative_row-requires t c =
    let sound = c.args.table.now.sound.row c.args.row c.requires.0 in
    let row = choice_row _ _ _ sound c.requires.4 in
    omega (arith, row.range, c.row_first-first.ensures, c.row_count-n.ensures, (c.find_tag.ensures.there _ c.in-Some.is).0)

pub read_choice-read_members-requires : goal.read_choice-read_members-requires
read_choice-read_members-requires t c =
    let sound = c.args.table.now.sound.row c.args.row c.requires.0 in
    let row = choice_row _ _ _ sound c.requires.4 in
    let y = c.read_tag.ensures.went _ c.in_ok-g.was in
    let lt : c.alternative_row.result < c.args.row = rw (c.alternative_row.ensures, c.row_first-first.ensures)
    (row.alternative c.in-Some.k (rw (← c.row_count-n.ensures) (c.find_tag.ensures.there _ c.in-Some.is).0)).lower in (
      omega arith,
      (
        omega (arith, c.requires.0),
        Laws.members_alone lt,
        c.requires.1,
        y.inside,
        omega (arith, y.ahead, c.requires.2),
        c.requires.5,
      ),
    )

pub read_choice-returns-in_err-g : goal.read_choice-returns-in_err-g
read_choice-returns-in_err-g t c =
    let p = err_from_is_err_and c.from_residual.result c.from_residual.ensures.1 in
    rw (p.1, p.2) (let sound = c.args.table.now.sound.row c.args.row c.requires.0 in
    Ran.ran_fault _ (Alternatives.tag_stops _ _ _ _ _ _ c.requires.1 sound c.requires.4
    c.read_tag.ensures _ c.in_err-g.was))

pub read_choice-returns-in_err-d : goal.read_choice-returns-in_err-d
read_choice-returns-in_err-d t c =
    let p = err_from_is_err_and c.from_residual-in_err-d.result c.from_residual-in_err-d.ensures.1 in
    rw (p.1, p.2) (let sound = c.args.table.now.sound.row c.args.row c.requires.0 in
    let one = Chains.alone_ran _ (Laws.alone_members _ _ _ _ _ _ _) c.read_members.ensures in
    Ran.ran_fault _ (Alternatives.chosen_stops _ _ _ _ _ _ c.requires.1 sound c.requires.4
    c.read_tag.ensures _ _ _ _ c.in_ok-g.was c.row_first-first.ensures c.row_count-n.ensures
    (c.find_tag.ensures.there _ c.in-Some.is).1
    (c.find_tag.ensures.there _ c.in-Some.is).0 c.alternative_row.ensures (one.stopped _ c.in_err-d.was)))

pub read_choice-returns : goal.read_choice-returns
read_choice-returns t c =
    let sound = c.args.table.now.sound.row c.args.row c.requires.0 in
    let one = Chains.alone_ran _ (Laws.alone_members _ _ _ _ _ _ _) c.read_members.ensures in
    Alternatives.chosen_goes _ _ _ _ _ _ c.requires.1 sound c.requires.4
    c.read_tag.ensures _ _ _ _ c.in_ok-g.was c.row_first-first.ensures c.row_count-n.ensures
    (c.find_tag.ensures.there _ c.in-Some.is).1
    (c.find_tag.ensures.there _ c.in-Some.is).0 c.alternative_row.ensures _ (rw c.number.ensures at c.put_node.ensures) (one.went _ c.in_ok-d.was)
    refl

pub read_member-is_missing-requires : goal.read_member-is_missing-requires
read_member-is_missing-requires t c = λ h. (c.requires.2, (c.requires.1.marked h).4)

pub read_member-missing_kind-kind-requires : goal.read_member-missing_kind-kind-requires
read_member-missing_kind-kind-requires t c = omega (arith, c.requires.1.lower, c.requires.0)

pub read_member-component_default-requires : goal.read_member-component_default-requires
read_member-component_default-requires t c = (c.requires.1.marked (OneMember.missing_marked _ _ c.is_missing.ensures c.if-is_missing.true)).0

pub read_member-returns-then-is_missing : goal.read_member-returns-then-is_missing
read_member-returns-then-is_missing t c =
    Ran.ran_by (OneMember.member_missing _ _ _ _ _ _ _ _ _ _ _ c.requires.3 c.requires.1
    c.is_missing.ensures c.if-is_missing.true _ _
    c.missing_kind-kind.ensures c.component_default.ensures) (c.read_missing.ensures _)

pub read_member-read_row-requires : goal.read_member-read_row-requires
read_member-read_row-requires t c =
    let lower = c.requires.1.lower in (
      omega arith,
      (
        omega (arith, c.requires.0),
        c.requires.3,
        c.requires.4,
        c.requires.5,
      ),
    )

pub read_member-is_default-requires : goal.read_member-is_default-requires
read_member-is_default-requires t c = λ e. (c.requires.1.marked (λ z. omega arith)).0

pub read_member-returns-then-is_default : goal.read_member-returns-then-is_default
read_member-returns-then-is_default t c =
    let below = below_known 8 c.args.msg.now (λ i. (c.type_inv.msg i).fits) in
    OneMember.member_default_lem _ _ _ _ _ _ _ _ _ _ _ c.requires.3 c.requires.1 c.is_missing.ensures
    c.if-is_missing.false
    (c.read_row.ensures.went _ c.in_ok-d.was) below c.is_default.ensures c.if-is_default.true
    c.at.ensures

pub read_member-returns-in_err-d : goal.read_member-returns-in_err-d
read_member-returns-in_err-d t c =
    let p = err_from_is_err_and c.from_residual.result c.from_residual.ensures.1 in
    rw (p.1, p.2) (Ran.ran_fault _ (OneMember.member_stops _ _ _ _ _ _ _ _ _ _ _ c.requires.3 c.requires.1
    c.is_missing.ensures c.if-is_missing.false
    (c.read_row.ensures.stopped _ c.in_err-d.was)))

pub read_member-returns : goal.read_member-returns
read_member-returns t c =
    let below = below_known 8 c.args.msg.now (λ i. (c.type_inv.msg i).fits) in
    OneMember.member_goes _ _ _ _ _ _ _ _ _ _ _ c.requires.3 c.requires.1 c.is_missing.ensures
    c.if-is_missing.false
    (c.read_row.ensures.went _ c.in_ok-d.was) below c.is_default.ensures c.if-is_default.false
    refl

pub read_members-loop-i-init : goal.read_members-loop-i-init
read_members-loop-i-init t c = (
  refl,
  refl,
  (c.requires.3, c.requires.4, omega arith, Chains.chain_start (Laws.members_start _ _ _ _ _ _ _ _ _ _)),
)

pub read_members-overflow_add-first : goal.read_members-overflow_add-first
read_members-overflow_add-first t c =
    omega (
      arith,
      Laws.member_fits c.requires.1 c.loop-i.i c.loop-i-test.true
          c.args.table.now.sound.few_items 18446744073709551615 (omega arith) (omega arith),
    )

pub read_members-member_mark-mark-requires : goal.read_members-member_mark-mark-requires
read_members-member_mark-mark-requires t c = λ e. Laws.member_inside c.requires.1 c.loop-i.i c.loop-i-test.true e

pub read_members-overflow_add-first-in-loop-i : goal.read_members-overflow_add-first-in-loop-i
read_members-overflow_add-first-in-loop-i t c =
    omega (
      arith,
      Laws.member_fits c.requires.1 c.loop-i.i c.loop-i-test.true
          c.args.table.now.sound.few_items 18446744073709551615 (omega arith) (omega arith),
    )

pub read_members-member_row-row-requires : goal.read_members-member_row-row-requires
read_members-member_row-row-requires t c = λ e. Laws.member_inside c.requires.1 c.loop-i.i c.loop-i-test.true e

pub read_members-overflow_add-first-in-loop-i-2 : goal.read_members-overflow_add-first-in-loop-i-2
read_members-overflow_add-first-in-loop-i-2 t c =
    omega (
      arith,
      Laws.member_fits c.requires.1 c.loop-i.i c.loop-i-test.true
          c.args.table.now.sound.few_items 18446744073709551615 (omega arith) (omega arith),
    )

pub read_members-read_member-requires : goal.read_members-read_member-requires
read_members-read_member-requires t c =
    let known = Laws.member_known c.requires.1 c.loop-i.i c.loop-i-test.true _
    c.loop-i.invariant.2.2 _ _ c.member_mark-mark.ensures c.member_row-row.ensures in (
      omega arith,
      (
        c.requires.0,
        known,
        c.requires.2,
        c.loop-i.invariant.2.0,
        c.loop-i.invariant.2.1,
        c.requires.5,
      ),
    )

pub read_members-returns-in_err-reached : goal.read_members-returns-in_err-reached
read_members-returns-in_err-reached t c =
    let p = err_from_is_err_and c.from_residual.result c.from_residual.ensures.1 in
    rw (p.1, p.2) (Chains.all_stopped _ (Chains.chain_stop c.loop-i.invariant.2.3 _ (Laws.members_step _ _ _ _ _ _ _ _ _ _ _ _ _ _
    c.loop-i-test.true c.member_mark-mark.ensures c.member_row-row.ensures refl)
    (c.read_member.ensures.stopped _ c.in_err-reached.was)))

pub read_members-overflow_add-b : goal.read_members-overflow_add-b
read_members-overflow_add-b t c =
    omega (
      arith,
      c.loop-i.invariant.2.2,
      c.bit_of-b.ensures.1,
      Laws.bit_fits c.requires.1 c.loop-i.i c.loop-i-test.true 18446744073709551615 (omega arith)
          (omega arith),
    )

pub read_members-loop-i-preserved : goal.read_members-loop-i-preserved
read_members-loop-i-preserved t c = (
  search rules,
  search rules,
  let g = c.read_member.ensures.went _ c.in_ok-reached.was in (
    g.inside,
    omega (arith, g.used, g.ahead, c.loop-i.invariant.2.1),
    omega (arith, c.loop-i.invariant.2.2, c.bit_of-b.ensures.1),
    Chains.chain_turn c.loop-i.invariant.2.3 _ (Laws.members_step _ _ _ _ _ _ _ _ _ _ _ _ _ _
        c.loop-i-test.true c.member_mark-mark.ensures c.member_row-row.ensures c.bit_of-b.ensures.0) g,
  ),
)

pub read_members-returns : goal.read_members-returns
read_members-returns t c =
    Chains.chain_done c.loop-i.invariant.2.3 _ (Laws.members_end _ _ _ _ _ _ _ _ _ _ _ c.loop-i-test.false)
    c.loop-i.invariant.2.0 refl

pub read_row-returns-then-count-ge4096 : goal.read_row-returns-then-count-ge4096
read_row-returns-then-count-ge4096 t c =
    Ran.ran_refused (Elements.value_full (type_of c.args.table.now.rows.now c.args.table.now.items.now c.args.row)
    c.args.msg.now c.args.at c.args.count c.requires.1 c.if-count-ge4096.true)
    c.at.ensures

pub read_row-read_scalar-requires : goal.read_row-read_scalar-requires
read_row-read_scalar-requires t c =
    let sound = c.args.table.now.sound.row c.args.row c.requires.0 in
    (c.requires.0, sound, is_number c.row_kind-kind.ensures c.in-Boolean.is, c.requires.1)

pub read_row-returns-in_err-x-in-Boolean : goal.read_row-returns-in_err-x-in-Boolean
read_row-returns-in_err-x-in-Boolean t c =
    let p = err_from_is_err_and c.from_residual.result c.from_residual.ensures.1 in
    rw (p.1, p.2) (Ran.ran_fault _ (Elements.value_inside _ _ _ _ c.if-count-ge4096.false ∙ (c.read_scalar.ensures
    c.args.count).stopped _ c.in_err-x-in-Boolean.was))

pub read_row-returns-in_ok-x-in-Boolean : goal.read_row-returns-in_ok-x-in-Boolean
read_row-returns-in_ok-x-in-Boolean t c =
    Ran.ran_by (Elements.value_inside _ _ _ _ c.if-count-ge4096.false)
    (Scalars.scalar_stored _ _ (Scalars.scalar_by refl c.row_kind-kind.ensures (c.read_scalar.ensures
    c.args.count)) _
    c.in_ok-x-in-Boolean.was (rw c.number.ensures at c.put_node.ensures) refl)

pub read_row-read_string-requires : goal.read_row-read_string-requires
read_row-read_string-requires t c =
    let (more, less) = is_string c.row_kind-kind.ensures c.in-OctetString.is in
    (c.requires.0, more, less, c.if-count-ge4096.false, c.requires.1, c.requires.2, c.requires.3)

pub read_row-returns-in-OctetString : goal.read_row-returns-in-OctetString
read_row-returns-in-OctetString t c = Ran.ran_by (Elements.value_inside _ _ _ _ c.if-count-ge4096.false) c.read_string.ensures

pub read_row-read_sequence-requires : goal.read_row-read_sequence-requires
read_row-read_sequence-requires t c = (
  omega arith,
  (
    c.requires.0,
    c.requires.1,
    c.requires.2,
    c.if-count-ge4096.false,
    kind_number c.row_kind-kind.ensures c.in-Sequence.is,
    c.requires.3,
  ),
)

pub read_row-returns-in-Sequence : goal.read_row-returns-in-Sequence
read_row-returns-in-Sequence t c = Ran.ran_by (Elements.value_inside _ _ _ _ c.if-count-ge4096.false) c.read_sequence.ensures

pub read_row-read_sequence_of-requires : goal.read_row-read_sequence_of-requires
read_row-read_sequence_of-requires t c = (
  omega arith,
  (
    c.requires.0,
    c.requires.1,
    c.requires.2,
    c.if-count-ge4096.false,
    kind_number c.row_kind-kind.ensures c.in-SequenceOf.is,
    c.requires.3,
  ),
)

pub read_row-returns-in-SequenceOf : goal.read_row-returns-in-SequenceOf
read_row-returns-in-SequenceOf t c = Ran.ran_by (Elements.value_inside _ _ _ _ c.if-count-ge4096.false) c.read_sequence_of.ensures

pub read_row-read_choice-requires : goal.read_row-read_choice-requires
read_row-read_choice-requires t c = (
  omega arith,
  (
    c.requires.0,
    c.requires.1,
    c.requires.2,
    c.if-count-ge4096.false,
    kind_number c.row_kind-kind.ensures c.in-Choice.is,
    c.requires.3,
  ),
)

pub read_row-returns-in-Choice : goal.read_row-returns-in-Choice
read_row-returns-in-Choice t c = Ran.ran_by (Elements.value_inside _ _ _ _ c.if-count-ge4096.false) c.read_choice.ensures

pub read_sequence-count_marked-bits-requires : goal.read_sequence-count_marked-bits-requires
read_sequence-count_marked-bits-requires t c =
    let sound = c.args.table.now.sound.row c.args.row c.requires.0 in
    let row = sequence_row _ _ _ sound c.requires.4 in
    omega (arith, row.range, c.row_first-first.ensures, c.row_count-n.ensures)

pub read_sequence-overflow_add-bits : goal.read_sequence-overflow_add-bits
read_sequence-overflow_add-bits t c =
    let sound = c.args.table.now.sound.row c.args.row c.requires.0 in
    let row = sequence_row _ _ _ sound c.requires.4 in
    omega (
      arith,
      row.range,
      c.args.table.now.sound.few_items,
      c.row_first-first.ensures,
      c.row_count-n.ensures,
      c.count_marked-bits.ensures.1,
    )

pub read_sequence-returns-then-msg-at : goal.read_sequence-returns-then-msg-at
read_sequence-returns-then-msg-at t c =
    let sound = c.args.table.now.sound.row c.args.row c.requires.0 in
    Ran.ran_refused (Sequences.preamble_stops _ _ _ _ _ _ c.requires.1 sound c.requires.4 _ _ _
    c.row_first-first.ensures c.row_count-n.ensures c.count_marked-bits.ensures.0
    (Sequences.preamble_short _ _ _ c.requires.1 c.if-msg-at.true)) c.at.ensures

pub read_sequence-is_padded-requires : goal.read_sequence-is_padded-requires
read_sequence-is_padded-requires t c =
    let sound = c.args.table.now.sound.row c.args.row c.requires.0 in
    let row = sequence_row _ _ _ sound c.requires.4 in (
      omega (
        arith,
        row.range,
        c.args.table.now.sound.few_items,
        c.row_first-first.ensures,
        c.row_count-n.ensures,
        c.count_marked-bits.ensures.1,
      ),
      omega (arith, c.requires.1, c.if-msg-at.false),
    )

pub read_sequence-returns-then-not-is_padded : goal.read_sequence-returns-then-not-is_padded
read_sequence-returns-then-not-is_padded t c =
    let sound = c.args.table.now.sound.row c.args.row c.requires.0 in
    Ran.ran_refused (Sequences.preamble_stops _ _ _ _ _ _ c.requires.1 sound c.requires.4 _ _ _
    c.row_first-first.ensures c.row_count-n.ensures c.count_marked-bits.ensures.0
    (Sequences.preamble_padded _ _ _ c.requires.1 c.if-msg-at.false _ c.is_padded.ensures
    c.if-not-is_padded.true)) c.at-then-not-is_padded.ensures

pub read_sequence-overflow_add-bits-2 : goal.read_sequence-overflow_add-bits-2
read_sequence-overflow_add-bits-2 t c =
    let sound = c.args.table.now.sound.row c.args.row c.requires.0 in
    let row = sequence_row _ _ _ sound c.requires.4 in
    omega (
      arith,
      row.range,
      c.args.table.now.sound.few_items,
      c.row_first-first.ensures,
      c.row_count-n.ensures,
      c.count_marked-bits.ensures.1,
    )

pub read_sequence-read_members-requires : goal.read_sequence-read_members-requires
read_sequence-read_members-requires t c =
    let sound = c.args.table.now.sound.row c.args.row c.requires.0 in
    let row = sequence_row _ _ _ sound c.requires.4 in (
      omega arith,
      (
        omega (arith, c.requires.0),
        Laws.members_among (omega (arith, row.range, c.row_first-first.ensures, c.row_count-n.ensures))
            (omega (arith, row.range, c.args.table.now.sound.few_items, c.row_count-n.ensures))
            (λ i h. rw c.row_first-first.ensures (row.component i (rw (← c.row_count-n.ensures) h))),
        c.requires.1,
        omega (arith, c.requires.1, c.if-msg-at.false),
        omega (arith, c.requires.2),
        c.requires.5,
      ),
    )

pub read_sequence-returns-in_err-d : goal.read_sequence-returns-in_err-d
read_sequence-returns-in_err-d t c =
    let p = err_from_is_err_and c.from_residual.result c.from_residual.ensures.1 in
    rw (p.1, p.2) (let sound = c.args.table.now.sound.row c.args.row c.requires.0 in
    let below = below_known 8 c.args.msg.now (λ i. (c.type_inv.msg i).fits) in
    let is = Laws.sequence_members _ _ _ _ _ _ c.requires.1 sound c.requires.4 _ _ _ 0
    c.row_first-first.ensures
    c.row_count-n.ensures c.count_marked-bits.ensures.0 below (Sequences.preamble_got _ _ _ c.requires.1
    c.if-msg-at.false _ c.is_padded.ensures c.if-not-is_padded.false) in
    Ran.ran_fault _ (Chains.group_stops 10 _ is _ c.read_members.ensures _ c.in_err-d.was))

pub read_sequence-returns : goal.read_sequence-returns
read_sequence-returns t c =
    let sound = c.args.table.now.sound.row c.args.row c.requires.0 in
    let below = below_known 8 c.args.msg.now (λ i. (c.type_inv.msg i).fits) in
    let is = Laws.sequence_members _ _ _ _ _ _ c.requires.1 sound c.requires.4 _ _ _ 0
    c.row_first-first.ensures
    c.row_count-n.ensures c.count_marked-bits.ensures.0 below (Sequences.preamble_got _ _ _ c.requires.1
    c.if-msg-at.false _ c.is_padded.ensures c.if-not-is_padded.false) in
    Chains.group_goes 10 _ is _ c.read_members.ensures _ _ c.in_ok-d.was (rw c.number.ensures at c.put_node.ensures)
    (omega arith) refl

pub read_sequence_of-component_row-inner-requires : goal.read_sequence_of-component_row-inner-requires
read_sequence_of-component_row-inner-requires t c =
    let sound = c.args.table.now.sound.row c.args.row c.requires.0 in
    let row = sequence_of_row _ _ _ sound c.requires.4 in
    omega (arith, row.range, row.one, c.row_first.ensures)

pub read_sequence_of-read_members-requires : goal.read_sequence_of-read_members-requires
read_sequence_of-read_members-requires t c =
    let sound = c.args.table.now.sound.row c.args.row c.requires.0 in
    let row = sequence_of_row _ _ _ sound c.requires.4 in
    let y = c.read_quantity.ensures.went _ c.in_ok-q.was in
    let lt : c.component_row-inner.result < c.args.row = rw (c.component_row-inner.ensures, c.row_first.ensures)
    row.lower in (
      omega arith,
      (
        omega (arith, c.requires.0),
        Laws.members_alone lt,
        c.requires.1,
        y.inside,
        omega (arith, y.ahead, c.requires.2),
        c.requires.5,
      ),
    )

pub read_sequence_of-returns-in_err-q : goal.read_sequence_of-returns-in_err-q
read_sequence_of-returns-in_err-q t c =
    let p = err_from_is_err_and c.from_residual.result c.from_residual.ensures.1 in
    rw (p.1, p.2) (let sound = c.args.table.now.sound.row c.args.row c.requires.0 in
    Ran.ran_fault _ (Elements.quantity_stops _ _ _ _ _ _ c.requires.1 sound c.requires.4
    c.read_quantity.ensures _ c.in_err-q.was))

pub read_sequence_of-returns-in_err-d : goal.read_sequence_of-returns-in_err-d
read_sequence_of-returns-in_err-d t c =
    let p = err_from_is_err_and c.from_residual-in_err-d.result c.from_residual-in_err-d.ensures.1 in
    rw (p.1, p.2) (let sound = c.args.table.now.sound.row c.args.row c.requires.0 in
    let is = Laws.quantity_members _ _ _ _ _ _ c.requires.1 sound c.requires.4
    c.read_quantity.ensures _ _ _ _
    c.in_ok-q.was c.row_first.ensures c.component_row-inner.ensures in
    Ran.ran_fault _ (Chains.group_stops 11 _ is _ c.read_members.ensures _ c.in_err-d.was))

pub read_sequence_of-returns : goal.read_sequence_of-returns
read_sequence_of-returns t c =
    let sound = c.args.table.now.sound.row c.args.row c.requires.0 in
    let is = Laws.quantity_members _ _ _ _ _ _ c.requires.1 sound c.requires.4
    c.read_quantity.ensures _ _ _ _
    c.in_ok-q.was c.row_first.ensures c.component_row-inner.ensures in
    let y = c.read_quantity.ensures.went _ c.in_ok-q.was in
    Chains.group_goes 11 _ is _ c.read_members.ensures _ _ c.in_ok-d.was (rw c.number.ensures at c.put_node.ensures) y.ahead
    refl
