-- Found by halving: the closure gives how an alternative's tag compares, and the tags ascend. Assumes nothing.
use Rattle.std.proofs.Common.{rules}
use Rattle.reading.proofs.TagSearch.{chooses}
use Rattle.reading.proofs.tags.find_tag.Goals as goal

pub returns : goal.returns
returns c = chooses _ _ _ _ _ c.requires.1 _ (λ i o k. search rules) _ c.find_by.ensures
