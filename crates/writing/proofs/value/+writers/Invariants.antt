-- The measures of the six writers: the row number falls at each descent; `write_members` is below the row bound `above`,
-- the others at their own row. Invariant of the loop: what is left of the members is to the whole as `MembersLeft` says.
use Prim.Native.Nat.{◌≤◌, ◌+◌, ◌*◌}
use mathlib.Core.Path.{◌≡◌}
use lib.ListN.{length}
use Rattle.x696.specs.Value.{node_width}
use Rattle.pens.specs.Put.{node_octets}
use Rattle.writing.proofs.Members.{marks_left, MembersLeft}
use Rattle.writing.proofs.value.+writers.Given as goal

abbrev pub decreases-write_choice : goal.decreases-write_choice
decreases-write_choice l = l.row * 4 + 1

abbrev pub decreases-write_member : goal.decreases-write_member
decreases-write_member l = l.row * 4 + 3

abbrev pub decreases-write_members : goal.decreases-write_members
decreases-write_members l = l.above * 4

abbrev pub decreases-write_row : goal.decreases-write_row
decreases-write_row l = l.row * 4 + 2

abbrev pub decreases-write_sequence : goal.decreases-write_sequence
decreases-write_sequence l = l.row * 4 + 1

abbrev pub decreases-write_sequence_of : goal.decreases-write_sequence_of
decreases-write_sequence_of l = l.row * 4 + 1

abbrev pub invariant-write_members-loop-i : goal.invariant-write_members-loop-i
invariant-write_members-loop-i l = (length l.out ≡ length l.initial.out)
    × ((l.pen.at * node_width ≤ length l.nodes) × (l.pen.used ≤ length l.contents)
    × (l.pen.to + (l.at * node_octets + l.used) ≤ l.to + (l.pen.at * node_octets + l.pen.used)) × (l.pre ≤ l.pen.to)
    × (l.b ≤ l.i) × (l.b + marks_left l.table.rows.now l.table.items.now l.inner l.listed l.first l.n l.i ≡ marks_left l.table.rows.now l.table.items.now l.inner l.listed l.first l.n 0)
    × MembersLeft l.table.rows.now l.table.items.now l.nodes l.contents l.initial.out l.inner l.listed l.pre l.first l.n l.initial.pen.at l.initial.pen.used l.i l.b l.pen.at l.pen.used l.pen.to l.out)
