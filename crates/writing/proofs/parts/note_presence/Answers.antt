-- The bit is set where the mark has one.
-- Assumes nothing.
use mathlib.Core.Path.{sym, ◌∙◌}
use Rattle.writing.proofs.Components
use Rattle.writing.proofs.parts.note_presence.Goals as goal

pub put_presence-requires : goal.put_presence-requires
put_presence-requires c = (c.requires.0, c.requires.1 c.if-mark-ne0.true)

pub returns-then-mark-ne0 : goal.returns-then-mark-ne0
returns-then-mark-ne0 c = c.put_presence.ensures ∙ sym (Components.marked_set _ _ _ _ c.if-mark-ne0.true)

pub returns-else-mark-ne0 : goal.returns-else-mark-ne0
returns-else-mark-ne0 c = sym (Components.marked_plain _ _ _ _ c.if-mark-ne0.false)
