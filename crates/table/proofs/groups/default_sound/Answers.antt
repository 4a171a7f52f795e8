-- A sound row has a kind, and the numbers of an ENUMERATED's lie in the items and ascend. Assumes nothing.
use Rattle.std.proofs.Common.{sym}
use Rattle.x696.proofs.TableRows.{enumerated_row, kind_known}
use Rattle.table.proofs.groups.default_sound.Goals as goal

pub known_kind-requires : goal.known_kind-requires
known_kind-requires c = let known = kind_known _ _ _ c.requires.1 in (c.requires.0, known.0, known.1)

pub is_listed-requires : goal.is_listed-requires
is_listed-requires c =
    let row = enumerated_row _ _ _ c.requires.1 (sym (rw c.in-Enumerated.is at c.known_kind.ensures)) in
    rw (c.row_first.ensures, c.row_count.ensures) (row.range, row.ascends)
