-- Components behind one of a SEQUENCE, elements behind one of a SEQUENCE OF.
-- Assumes nothing.
use mathlib.Core.Path.{◌∙◌}
use Rattle.table.proofs.KindNumbers.{kind_number, kind_once}
use Rattle.finding.proofs.Openings.{components_behind, elements_behind}
use Rattle.finding.proofs.closing.pass_behind.Goals as goal

pub pass_components-requires : goal.pass_components-requires
pass_components-requires c =
    let fits = c.requires.5 (kind_number c.row_kind.ensures c.in-Sequence.is) in (
      c.requires.0,
      c.requires.1,
      c.requires.2,
      fits.0,
      fits.1,
      c.requires.3,
      fits.2,
    )

pub returns-in-Sequence : goal.returns-in-Sequence
returns-in-Sequence c =
    components_behind _ _ _ _ _ _ _ (kind_number c.row_kind.ensures c.in-Sequence.is)
    c.pass_components.ensures

pub returns-in_default : goal.returns-in_default
returns-in_default c =
    elements_behind _ _ _ _ _ _ _ (λ e. c.in_default.not-Sequence (kind_once _ _ (c.row_kind.ensures ∙ e)))
    c.pass_elements.ensures
