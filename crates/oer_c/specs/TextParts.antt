-- A shown text as the struct of the C face has it: the part of the message, or found 0 for the caller's fallback.
-- Assumes nothing.
use Rattle.x696.specs.Setting.{Shown, fallback, part_of}
use Rattle.oer_c.specs.declared.TextPart.{TextPart}

unfoldable pub part_as : Shown → TextPart
part_as fallback = record { found = 0; start = 0; length = 0 }
part_as (part_of start n) = record { found = 1; start = start; length = n }
