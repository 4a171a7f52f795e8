-- Found by halving: the closure gives how a number's rank compares, and the ranks ascend. Assumes nothing.
use Rattle.std.proofs.Common.{◌∙◌, rules}
use Rattle.table.proofs.Halving.{listed_of}
use Rattle.table.proofs.numbers.is_listed.Goals as goal

pub returns : goal.returns
returns c =
    c.is_some.ensures
    ∙ listed_of _ _ _ _ c.requires.1 c.rank_of-goal.ensures (search rules) (λ i. search rules) _ (λ i o k. search rules) _ c.find_by.ensures
