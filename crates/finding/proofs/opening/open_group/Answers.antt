-- The three groups are opened each in its way; a kind without components has no step.
-- Assumes nothing.
use Rattle.table.proofs.KindNumbers.{kind_number, leaf_left}
use Rattle.finding.proofs.Openings.{opened_nowhere, leaf_nowhere}
use Rattle.finding.proofs.opening.open_group.Goals as goal

pub open_sequence-requires : goal.open_sequence-requires
open_sequence-requires c =
    (c.requires.0, c.requires.1, c.requires.2, c.requires.3, kind_number c.row_kind.ensures c.in-Sequence.is)

pub open_sequence_of-requires : goal.open_sequence_of-requires
open_sequence_of-requires c =
    (c.requires.0, c.requires.1, c.requires.2, c.requires.3, kind_number c.row_kind.ensures c.in-SequenceOf.is)

pub open_choice-requires : goal.open_choice-requires
open_choice-requires c =
    (c.requires.0, c.requires.1, c.requires.2, c.requires.3, kind_number c.row_kind.ensures c.in-Choice.is)

pub returns-in_default : goal.returns-in_default
returns-in_default c =
    let leaf = leaf_left _ c.in_default.not-Sequence c.in_default.not-SequenceOf c.in_default.not-Choice in
    opened_nowhere λ v s. leaf_nowhere _ _ _ _ _ v s (rw c.row_kind.ensures at leaf)
