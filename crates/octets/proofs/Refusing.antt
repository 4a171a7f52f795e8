-- A cause, its place and its part, joined to an operation's refusal; and that the numbers of a refusal name it.
-- Premises are the callees' `ensures`.
-- Assumes nothing.
use Rattle.std.proofs.Common.{◌≡◌, ℕ}
use mathlib.Core.Path.{refl, sym, ap, ◌∙◌}
use Rattle.std.proofs.Common.{cond, eqb}
use Rattle.octets.specs.Answers.{fault}
use Rattle.octets.specs.Cause.{code_of}
use Rattle.octets.specs.Part.{part_of, refused, refusal_in}
use Rattle.octets.specs.declared.faults.Cause.{Cause}
use Rattle.octets.specs.declared.faults.Cause.TheVariants.{TableSize, TableRow, UnknownType, Long, Short, NotCanonical}
use Rattle.octets.specs.declared.faults.Cause.TheVariants.{NotAllowed, Wide, LeftOver, Nodes, BadList, Room, Path}
use Rattle.octets.specs.declared.faults.Part.TheVariants.{Table as TablePart, Message as MessagePart}
use Rattle.octets.specs.declared.faults.Part.TheVariants.{List as ListPart, Path as PathPart, Result as ResultPart}
use Rattle.octets.specs.declared.faults.Fault.{Fault}
use Rattle.octets.specs.declared.faults.Part.{Part}
use Rattle.octets.specs.declared.faults.Refusal.{Refusal}

pub refuses : {k : Cause} {q : Part} {p : ℕ} {f : Fault} {x : Refusal} → f ≡ fault k p → x ≡ refusal_in q f
    → x ≡ refused k q p
refuses e h = h ∙ rw e

-- ---- a number names one cause, and one part
abbrev cause_at : ℕ → Cause
cause_at n =
    (cond (eqb n 1) TableSize
    (cond (eqb n 2) TableRow
    (cond (eqb n 3) UnknownType
    (cond (eqb n 4) Long
    (cond (eqb n 5) Short
    (cond (eqb n 6) NotCanonical
    (cond (eqb n 7) NotAllowed
    (cond (eqb n 8) Wide
    (cond (eqb n 9) LeftOver
    (cond (eqb n 10) Nodes
    (cond (eqb n 11) BadList
    (cond (eqb n 12) Room Path))))))))))))

cause_back : (c : Cause) → cause_at (code_of c) ≡ c
cause_back TableSize = refl
cause_back TableRow = refl
cause_back UnknownType = refl
cause_back Long = refl
cause_back Short = refl
cause_back NotCanonical = refl
cause_back NotAllowed = refl
cause_back Wide = refl
cause_back LeftOver = refl
cause_back Nodes = refl
cause_back BadList = refl
cause_back Room = refl
cause_back Path = refl

pub one_cause : (a b : Cause) → code_of a ≡ code_of b → a ≡ b
one_cause a b e = sym (cause_back a) ∙ ap cause_at e ∙ cause_back b

abbrev part_at : ℕ → Part
part_at n =
    (cond (eqb n 0) TablePart
    (cond (eqb n 1) MessagePart
    (cond (eqb n 2) ListPart
    (cond (eqb n 3) PathPart ResultPart))))

part_back : (q : Part) → part_at (part_of q) ≡ q
part_back TablePart = refl
part_back MessagePart = refl
part_back ListPart = refl
part_back PathPart = refl
part_back ResultPart = refl

pub one_part : (a b : Part) → part_of a ≡ part_of b → a ≡ b
one_part a b e = sym (part_back a) ∙ ap part_at e ∙ part_back b
