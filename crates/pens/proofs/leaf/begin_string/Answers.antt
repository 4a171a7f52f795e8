-- The answer of the writer of the row's kind, of those with contents. Assumes nothing.
use Rattle.std.proofs.Common.{arith}
use Rattle.kinds.proofs.ByKind.{bits_type, text_type}
use Rattle.pens.proofs.ByRow.{headed_row}
use Rattle.pens.proofs.leaf.begin_string.Goals as goal

pub returns-in-BitString : goal.returns-in-BitString
returns-in-BitString c =
    headed_row (bits_type _ _ _ c.requires.1
    c.row_bounds-bounds.ensures.0
    c.row_bounds-bounds.ensures.1
    c.row_bounds-bounds.ensures.2 c.in-BitString.is)
    c.begin_bits.ensures

pub returns-in_default : goal.returns-in_default
returns-in_default c =
    headed_row (text_type _ _ _ c.requires.1
    c.row_bounds-bounds.ensures.0
    c.row_bounds-bounds.ensures.1
    c.row_bounds-bounds.ensures.2 (omega (arith, c.requires.2))
    c.requires.3
    c.in_default.not-BitString c.eq.ensures) c.begin_text.ensures
