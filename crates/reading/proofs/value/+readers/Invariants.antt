-- The measures of the six readers: the row number falls at each descent; `read_members` and `read_member` are below the
-- row bound `above`, the others at their own row. Invariant of the loop: what is left of the members is to the whole as
-- `Chain` says.
use Prim.Native.Nat.{◌+◌, ◌*◌, ◌-◌, ◌≤◌}
use mathlib.Core.Path.{◌≡◌}
use lib.ListN.{length, drop}
use Rattle.x696.specs.Read.{message}
use Rattle.reading.specs.Members.{members}
use Rattle.reading.proofs.Chains.{Chain}
use Rattle.reading.proofs.value.+readers.Given as goal

abbrev pub decreases-read_choice : goal.decreases-read_choice
decreases-read_choice l = l.row * 4 + 2

abbrev pub decreases-read_member : goal.decreases-read_member
decreases-read_member l = l.above * 4

abbrev pub decreases-read_members : goal.decreases-read_members
decreases-read_members l = l.above * 4 + 1

abbrev pub decreases-read_row : goal.decreases-read_row
decreases-read_row l = l.row * 4 + 3

abbrev pub decreases-read_sequence : goal.decreases-read_sequence
decreases-read_sequence l = l.row * 4 + 2

abbrev pub decreases-read_sequence_of : goal.decreases-read_sequence_of
decreases-read_sequence_of l = l.row * 4 + 2

abbrev pub invariant-read_members-loop-i : goal.invariant-read_members-loop-i
invariant-read_members-loop-i l = (length l.nodes ≡ length l.initial.nodes) × (length l.contents ≡ length l.initial.contents)
    × ((l.reached.at ≤ length l.msg) × (l.reached.used ≤ l.reached.at) × (l.b ≤ l.bit + l.i)
    × Chain (members l.table.rows.now l.table.items.now l.msg l.inner l.listed l.pre l.n l.first l.bit (message (drop l.initial.reached.at l.msg) l.initial.reached.count)) l.initial.reached.at l.initial.reached.count l.initial.reached.used l.initial.nodes l.initial.contents
    (members l.table.rows.now l.table.items.now l.msg l.inner l.listed l.pre (l.n - l.i) (l.first + l.i) l.b (message (drop l.reached.at l.msg) l.reached.count)) l.reached.at l.reached.count l.reached.used l.reached.number l.nodes l.contents)
