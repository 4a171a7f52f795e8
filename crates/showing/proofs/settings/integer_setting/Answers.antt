-- By the type, not by the value.
-- Assumes nothing.
use mathlib.Core.Path.{◌∙◌, sym}
use Rattle.showing.proofs.SettingLaws.{unsigned_setting, signed_setting}
use Rattle.showing.proofs.settings.integer_setting.Goals as goal

pub returns-then-is_unsigned : goal.returns-then-is_unsigned
returns-then-is_unsigned c = unsigned_setting _ _ _ (sym c.is_unsigned.ensures ∙ c.if-is_unsigned.true)

pub returns-else-is_unsigned : goal.returns-else-is_unsigned
returns-else-is_unsigned c =
    signed_setting _ _ _ (sym c.is_unsigned.ensures ∙ c.if-is_unsigned.false) (record {
      sfits =
          c.signed_of.type_inv;
    }) c.signed_of.ensures
