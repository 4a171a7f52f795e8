-- Each row of a sound table has a kind. Assumes nothing.
use Rattle.x696.proofs.TableRows.{kind_known}
use Rattle.table.proofs.sound.Table.row_kind.Goals as goal

pub known_kind-requires : goal.known_kind-requires
known_kind-requires c =
    let known = kind_known _ _ _ (c.args.self.now.sound.row c.args.row c.requires) in
    (c.requires, known.0, known.1)
