-- The setting of `oer`, as five numbers.
-- Assumes nothing.
use mathlib.Core.Path.{ap, ◌∙◌}
use Rattle.showing.specs.Flat.{flat_answer}
use Rattle.oer.proofs.ContractLaws.{setting_iff}
use Rattle.oer_c.proofs.oer_read_setting.Goals as goal

pub returns : goal.returns
returns c = c.flatten.ensures ∙ ap flat_answer ((setting_iff _ _ _ _ _ _).0 c.read_setting.ensures)
