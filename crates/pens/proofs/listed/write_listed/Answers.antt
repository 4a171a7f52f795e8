-- The number where it is listed, else 7. Assumes nothing.
use mathlib.Core.Path.{refl}
use Rattle.pens.proofs.Numbers.{listed_checked, unallowed, goes, stored_nine}
use Rattle.pens.proofs.listed.write_listed.Goals as goal

pub returns-then-not-is_listed : goal.returns-then-not-is_listed
returns-then-not-is_listed c =
    unallowed (listed_checked _ _) refl c.is_listed.ensures c.if-not-is_listed.true

pub returns : goal.returns
returns c =
    goes (listed_checked _ _) refl c.is_listed.ensures c.if-not-is_listed.false
    (stored_nine c.put_enumerated.ensures)
