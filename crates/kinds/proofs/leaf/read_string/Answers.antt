-- The answer of `read_string` is the outcome of reading the row's type, by the row's kind.
-- Assumes nothing.
use native.Mathlib.Omega.{arith}
use Rattle.kinds.proofs.ByKind.{ran_row, bits_type, text_type}
use Rattle.kinds.proofs.leaf.read_string.Goals as goal

pub known_kind-kind-requires : goal.known_kind-kind-requires
known_kind-kind-requires c = (c.requires.0, omega (arith, c.requires.1), omega (arith, c.requires.2))

pub returns-in-BitString : goal.returns-in-BitString
returns-in-BitString c =
    ran_row _ _ _ (bits_type _ _ _ c.known_kind-kind.ensures c.row_bounds-bounds.ensures.0 c.row_bounds-bounds.ensures.1
    c.row_bounds-bounds.ensures.2
    c.in-BitString.is) c.read_bits.ensures

pub returns-in_default : goal.returns-in_default
returns-in_default c =
    ran_row _ _ _ (text_type _ _ _ c.known_kind-kind.ensures c.row_bounds-bounds.ensures.0 c.row_bounds-bounds.ensures.1
    c.row_bounds-bounds.ensures.2
    (omega (arith, c.known_kind-kind.ensures, c.requires.1))
    (omega (arith, c.known_kind-kind.ensures, c.requires.2))
    c.in_default.not-BitString c.eq.ensures) c.read_text.ensures
