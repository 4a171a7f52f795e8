-- A value at its place, its node counted; a SEQUENCE OF: its quantity, then its elements.
-- Premises are the callees' `ensures`. Assumes nothing.
use mathlib.Core.Path.{◌≡◌, ◌∙◌}
use mathlib.Core.List.{List, []}
use Prim.Native.Nat.{ℕ, suc, ◌<◌, ◌≤◌}
use lib.ListN.{length, drop}
use borrow.Author.Tests.{lt-ltb, le-ltb}
use mathlib.Core.Bool.{true}
use Rattle.x696.specs.Outcome.{Outcome, refused, got, next, must}
use Rattle.x696.specs.Variable.{read_unsigned}
use Rattle.x696.specs.Value.{Val, node}
use Rattle.x696.specs.Types.{Ty}
use Rattle.x696.specs.Read.{Message, message, times, counted, read_inside, read}
use Rattle.x696.specs.Operations.{node_limit}
use Rattle.x696.specs.Table.{row_kind, row_first, component_row, type_of}
use Rattle.x696.specs.TableFault.{row_sound}
use Rattle.x696.proofs.TableKinds.{sequence_of_type}
use Rattle.octets.specs.Answers.{QuantityAnswer}
use Rattle.octets.specs.declared.faults.Fault.{Fault}
use Rattle.octets.proofs.Answered.{next_refused}
use Rattle.kinds.specs.Run.{inside_at}
use Rattle.kinds.proofs.Ran.{offset_is}
use Rattle.std.proofs.Common.{Result, Err}
use Rattle.octets.specs.Cause.{code_of}
use Rattle.octets.specs.declared.answers.Quantity.{Quantity}

-- ---- a value
module _ (t : Ty) (msg : List ℕ) (at count : ℕ) where
  -- a node too many
  pub value_full : at ≤ length msg → 4096 ≤ count
      → read node_limit t (length msg) (message (drop at msg) count) ≡ refused 10 at
  unfolding read counted must
  value_full h g = rw (le-ltb count 4096 g, offset_is msg at h)

  pub value_inside : count < 4096
      → read node_limit t (length msg) (message (drop at msg) count) ≡ inside_at t msg at count
  unfolding read counted must inside_at
  value_inside g = rw (lt-ltb count 4096 g)

-- ---- a SEQUENCE OF
module _ (rows items msg : List ℕ) (row at count : ℕ) (inside : at ≤ length msg)
    (sound : row_sound rows items row ≡ true) (is : row_kind rows row ≡ 11) where
  abbrev pub D : Outcome Message Val
  D = inside_at (type_of rows items row) msg at count

  pub quantity_first : D ≡ next (read_unsigned at (drop at msg)) λ n r.
      next (times (λ s. read node_limit (type_of rows items (component_row items (row_first rows row))) (length msg) s)
      n (message r (suc count))) λ vs s. got (node 11 n [] vs) s
  unfolding inside_at read_inside read
  quantity_first = rw (sequence_of_type rows items row sound is, offset_is msg at inside)

  module _ {x : Result Quantity Fault} (q : QuantityAnswer msg (read_unsigned at (drop at msg)) at x) where
    pub quantity_stops : (f : Fault) → x ≡ Err f → D ≡ refused (code_of f.cause) f.place
    quantity_stops f e = quantity_first ∙ next_refused _ (q.stopped f e)
