-- No bit without a mark; else it is set if the new component is carried, and cleared if not.
-- Assumes nothing.
use mathlib.Core.Path.{◌∙◌}
use Rattle.editing.proofs.Splices.{mark_none, mark_put, bit_as}
use Rattle.editing.proofs.splicing.put_mark.Goals as goal

pub returns-then-s-eq0 : goal.returns-then-s-eq0
returns-then-s-eq0 c = mark_none _ _ _ c.if-s-eq0.true

pub put_presence-requires : goal.put_presence-requires
put_presence-requires c = (c.requires.1 c.if-s-eq0.false, c.requires.2)

pub returns : goal.returns
returns c =
    mark_put _ _ _ c.if-s-eq0.false (bit_as _ _ _ _ _ _ c.is_missing-missing.ensures (c.number.ensures ∙ c.row_kind.ensures)
    c.put_presence.ensures)
