-- What a refusal is about, by its number, and an operation's refusal (document 01, "Replies").
-- Assumes nothing.
use Rattle.std.specs.Prelude.{ℕ}
use Rattle.octets.specs.declared.faults.Cause.{Cause}
use Rattle.octets.specs.declared.faults.Fault.{Fault}
use Rattle.octets.specs.declared.faults.Part.{Part}
use Rattle.octets.specs.declared.faults.Part.TheVariants.{Table, Message, List, Path, Result}
use Rattle.octets.specs.declared.faults.Refusal.{Refusal}

abbrev pub part_of : Part → ℕ
part_of Table = 0
part_of Message = 1
part_of List = 2
part_of Path = 3
part_of Result = 4

abbrev pub refused : (cause : Cause) → (part : Part) → (place : ℕ) → Refusal
refused c q p = record { cause = c; part = q; place = p }

abbrev pub refusal_in : Part → Fault → Refusal
refusal_in q f = refused f.cause q f.place
