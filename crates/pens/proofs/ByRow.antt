-- The answer of the kind's writer is the row's, where the row's type is the kind's.
-- Premises are the callees' `ensures` and the tests as they went. Assumes nothing.
use mathlib.Core.Path.{◌≡◌}
use mathlib.Core.List.{List}
use Prim.Native.Nat.{ℕ}
use Rattle.x696.specs.Leaf.{Leaf}
use Rattle.x696.specs.Types.{Ty, leaf}
use Rattle.pens.specs.Flat.{Numbered, RowNumbered, Headed, RowHeaded}
use Rattle.std.proofs.Common.{Result}
use Rattle.pens.specs.declared.head.Head.{Head}
use Rattle.octets.specs.declared.faults.Cause.{Cause}

pub numbered_row : {t : Ty} {k : Leaf} {n p : ℕ} {l l' : List ℕ} {r : Result ℕ Cause} → t ≡ leaf k → Numbered k n p l l' r
    → RowNumbered t n p l l' r
numbered_row {k = k} e w = record { kind = k; is = e; numbered = w }

pub headed_row : {t : Ty} {k : Leaf} {cs : List ℕ} {n u p : ℕ} {l l' : List ℕ} {r : Result Head Cause} → t ≡ leaf k
    → Headed k cs n u p l l' r → RowHeaded t cs n u p l l' r
headed_row {k = k} e w = record { kind = k; is = e; headed = w }
