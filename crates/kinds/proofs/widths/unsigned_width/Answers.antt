-- The first of 1, 2, 4 and 8 octets that holds the upper bound. Assumes nothing.
use borrow.Author.Tests.{lt-ltb, le-ltb}
use Rattle.kinds.proofs.Chosen.{unsigned_ladder, width_one, width_two, width_four, width_eight}
use Rattle.kinds.proofs.widths.unsigned_width.Goals as goal

pub returns-then-b-lt256 : goal.returns-then-b-lt256
returns-then-b-lt256 c = width_one (unsigned_ladder _) (lt-ltb _ _ c.if-b-lt256.true)

pub returns-then-b-lt65536 : goal.returns-then-b-lt65536
returns-then-b-lt65536 c = width_two (unsigned_ladder _) (le-ltb _ _ c.if-b-lt256.false) (lt-ltb _ _ c.if-b-lt65536.true)

pub returns-then-b-lt4294967296 : goal.returns-then-b-lt4294967296
returns-then-b-lt4294967296 c =
    width_four (unsigned_ladder _) (le-ltb _ _ c.if-b-lt256.false) (le-ltb _ _ c.if-b-lt65536.false)
    (lt-ltb _ _ c.if-b-lt4294967296.true)

pub returns-else-b-lt4294967296 : goal.returns-else-b-lt4294967296
returns-else-b-lt4294967296 c =
    width_eight (unsigned_ladder _) (le-ltb _ _ c.if-b-lt256.false) (le-ltb _ _ c.if-b-lt65536.false)
    (le-ltb _ _ c.if-b-lt4294967296.false)
