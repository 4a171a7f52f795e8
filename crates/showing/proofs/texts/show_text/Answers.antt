-- The whole fallback, or the part of the message.
-- Assumes nothing.
use Rattle.showing.proofs.TextLaws.{fallback_shown, part_octets}
use Rattle.showing.proofs.texts.show_text.Goals as goal

pub slice_bounds-result-count : goal.slice_bounds-result-count
slice_bounds-result-count c = (c.find_text.ensures.shown _ c.in-Some.is).ordered

pub slice_bounds-result-start : goal.slice_bounds-result-start
slice_bounds-result-start c = (c.find_text.ensures.shown _ c.in-Some.is).ordered

pub slice_bounds-result-end : goal.slice_bounds-result-end
slice_bounds-result-end c = (c.find_text.ensures.shown _ c.in-Some.is).inside

pub returns-in-None : goal.returns-in-None
returns-in-None c = fallback_shown _ _ _ (c.find_text.ensures.nothing c.in-None.is)

pub returns-in-Some : goal.returns-in-Some
returns-in-Some c = part_octets _ _ _ (c.find_text.ensures.shown _ c.in-Some.is)
