-- A refusal's number (document 01, "Replies").
-- Assumes nothing.
use Rattle.std.specs.Prelude.{ℕ}
use Rattle.octets.specs.declared.faults.Cause.{Cause}
use Rattle.octets.specs.declared.faults.Cause.TheVariants.{TableSize, TableRow, UnknownType, Long, Short}
use Rattle.octets.specs.declared.faults.Cause.TheVariants.{NotCanonical, NotAllowed, Wide, LeftOver, Nodes, BadList, Room, Path}

abbrev pub code_of : Cause → ℕ
code_of TableSize = 1
code_of TableRow = 2
code_of UnknownType = 3
code_of Long = 4
code_of Short = 5
code_of NotCanonical = 6
code_of NotAllowed = 7
code_of Wide = 8
code_of LeftOver = 9
code_of Nodes = 10
code_of BadList = 11
code_of Room = 12
code_of Path = 13
