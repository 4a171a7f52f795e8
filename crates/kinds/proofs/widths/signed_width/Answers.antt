-- The first of 1, 2, 4 and 8 octets that holds both bounds. Assumes nothing.
use mathlib.Core.Path.{sym, ◌∙◌}
use Rattle.kinds.proofs.Chosen.{signed_ladder, width_one, width_two, width_four, width_eight}
use Rattle.kinds.proofs.widths.signed_width.Goals as goal

pub returns-then-is_within : goal.returns-then-is_within
returns-then-is_within c =
    width_one (signed_ladder _ _ c.rank_of-low.ensures c.rank_of-high.ensures)
    (sym c.is_within.ensures ∙ c.if-is_within.true)

pub returns-then-is_within-2 : goal.returns-then-is_within-2
returns-then-is_within-2 c =
    width_two
    (signed_ladder _ _ c.rank_of-low.ensures
    c.rank_of-high.ensures)
    (sym c.is_within.ensures ∙ c.if-is_within.false)
    (sym c.is_within-2.ensures ∙ c.if-is_within-2.true)

pub returns-then-is_within-3 : goal.returns-then-is_within-3
returns-then-is_within-3 c =
    width_four
    (signed_ladder _ _ c.rank_of-low.ensures
    c.rank_of-high.ensures)
    (sym c.is_within.ensures ∙ c.if-is_within.false)
    (sym c.is_within-2.ensures ∙ c.if-is_within-2.false)
    (sym c.is_within-3.ensures ∙ c.if-is_within-3.true)

pub returns-else-is_within-3 : goal.returns-else-is_within-3
returns-else-is_within-3 c =
    width_eight
    (signed_ladder _ _ c.rank_of-low.ensures
    c.rank_of-high.ensures)
    (sym c.is_within.ensures ∙ c.if-is_within.false)
    (sym c.is_within-2.ensures ∙ c.if-is_within-2.false)
    (sym c.is_within-3.ensures ∙ c.if-is_within-3.false)
