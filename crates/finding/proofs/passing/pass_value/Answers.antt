-- With nothing lent the reader only passes.
-- Assumes nothing.
use Rattle.finding.proofs.Parts.{ran_passed}
use Rattle.finding.proofs.passing.pass_value.Goals as goal

pub returns : goal.returns
returns c = ran_passed c.read_value.ensures
