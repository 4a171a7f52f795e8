-- A sound row has a kind, and its items name smaller rows, whose nestings are in the array. Assumes nothing.
use Rattle.x696.proofs.TableRows.{kind_known}
use Rattle.table.proofs.Nested.{choice_named, components_named}
use Rattle.table.proofs.nestings.row_nesting.Goals as goal

pub known_kind-requires : goal.known_kind-requires
known_kind-requires c = let known = kind_known _ _ _ c.requires.2 in (c.requires.0, known.0, known.1)

pub greatest_nesting-requires-in-Choice : goal.greatest_nesting-requires-in-Choice
greatest_nesting-requires-in-Choice c =
    choice_named _ _ _ c.requires.2 c.requires.1 c.row_first-first.ensures c.row_count-n.ensures c.known_kind.ensures c.in-Choice.is

pub greatest_nesting-requires : goal.greatest_nesting-requires
greatest_nesting-requires c =
    components_named _ _ _ c.requires.2 c.requires.1 c.row_first-first.ensures c.row_count-n.ensures c.known_kind.ensures c.in-Sequence.is
