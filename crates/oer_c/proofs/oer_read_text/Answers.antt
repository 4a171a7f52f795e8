-- The part of the message that `find_text` of `finding` tells, as three numbers; its ends are in order.
-- Assumes nothing.
use Rattle.oer_c.proofs.Parts.{nothing_part, shown_part}
use Rattle.oer_c.proofs.oer_read_text.Goals as goal

pub overflow_sub-result : goal.overflow_sub-result
overflow_sub-result c = (c.find_text.ensures.shown _ c.in-Some.is).ordered

pub returns-in-None : goal.returns-in-None
returns-in-None c = nothing_part _ (c.find_text.ensures.nothing c.in-None.is)

pub returns-in-Some : goal.returns-in-Some
returns-in-Some c = shown_part (c.find_text.ensures.shown _ c.in-Some.is)
