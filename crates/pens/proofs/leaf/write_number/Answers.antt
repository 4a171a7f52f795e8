-- The answer of the writer of the row's kind, of those without contents. Assumes nothing.
use Rattle.kinds.proofs.ByKind.{boolean_type, integer_type, listed_type, listed_range, single_type, double_type, null_type}
use Rattle.table.proofs.KindNumbers.{null_left}
use Rattle.pens.proofs.ByRow.{numbered_row}
use Rattle.pens.proofs.leaf.write_number.Goals as goal

pub returns-in-Boolean : goal.returns-in-Boolean
returns-in-Boolean c = numbered_row (boolean_type _ _ _ c.requires.2 c.in-Boolean.is) c.write_boolean.ensures

pub returns-in-Integer : goal.returns-in-Integer
returns-in-Integer c = numbered_row (integer_type _ _ _ c.requires.2 c.row_bounds.ensures.0 c.row_bounds.ensures.1 c.row_bounds.ensures.2 c.in-Integer.is) c.write_integer.ensures

pub write_listed-requires : goal.write_listed-requires
write_listed-requires c =
    let (range, ascends) = listed_range _ _ _
    c.requires.2 c.row_first.ensures
    c.row_count.ensures c.in-Enumerated.is
    c.requires.1 in
    (c.requires.4, range, ascends)

pub returns-in-Enumerated : goal.returns-in-Enumerated
returns-in-Enumerated c = numbered_row (listed_type _ _ _ c.requires.2 c.row_first.ensures c.row_count.ensures c.in-Enumerated.is) c.write_listed.ensures

pub returns-in-Single : goal.returns-in-Single
returns-in-Single c = numbered_row (single_type _ _ _ c.requires.2 c.in-Single.is) c.write_real.ensures

pub returns-in-Double : goal.returns-in-Double
returns-in-Double c = numbered_row (double_type _ _ _ c.requires.2 c.in-Double.is) c.write_real-in-Double.ensures

pub returns-in_default : goal.returns-in_default
returns-in_default c =
    let null = null_left _ c.requires.3 c.in_default.not-Boolean c.in_default.not-Integer c.in_default.not-Enumerated
    c.in_default.not-Single c.in_default.not-Double in
    numbered_row (null_type _ _ _ c.requires.2 null) (c.write_null.ensures _)
