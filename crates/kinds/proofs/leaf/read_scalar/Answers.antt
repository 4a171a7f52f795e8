-- The answer of `read_scalar` is the outcome of reading the row's type, by the row's kind.
-- Assumes nothing.
use mathlib.Core.Path.{refl}
use native.Mathlib.Omega.{arith}
use Rattle.x696.proofs.TableRows.{kind_known}
use Rattle.kinds.proofs.Simple.{null_goes}
use Rattle.kinds.proofs.ByKind.{scalar_row, boolean_type, integer_type, listed_type, listed_range, single_type, double_type}
use Rattle.kinds.proofs.ByKind.{null_type}
use Rattle.x696.specs.Leaf.{real_kind}
use Rattle.table.proofs.KindNumbers.{kind_number, null_left}
use Rattle.kinds.proofs.leaf.read_scalar.Goals as goal

pub known_kind-requires : goal.known_kind-requires
known_kind-requires c = let known = kind_known _ _ _ c.requires.1 in (c.requires.0, known.0, known.1)

pub returns-in-Boolean : goal.returns-in-Boolean
returns-in-Boolean c =
    λ n.
    scalar_row _ _ _ (boolean_type _ _ _ c.known_kind.ensures c.in-Boolean.is)
    (kind_number c.known_kind.ensures c.in-Boolean.is) (c.read_boolean.ensures n)

pub returns-in-Integer : goal.returns-in-Integer
returns-in-Integer c =
    λ n.
    scalar_row _ _ _ (integer_type _ _ _ c.known_kind.ensures c.row_bounds.ensures.0 c.row_bounds.ensures.1
    c.row_bounds.ensures.2 c.in-Integer.is)
    (kind_number c.known_kind.ensures c.in-Integer.is) (c.read_integer.ensures n)

pub read_listed-requires : goal.read_listed-requires
read_listed-requires c =
    let (range, ascends) =
    listed_range _ _ _ c.known_kind.ensures c.row_first.ensures c.row_count.ensures
    c.in-Enumerated.is c.requires.1 in
    (c.requires.3, range, ascends)

pub returns-in-Enumerated : goal.returns-in-Enumerated
returns-in-Enumerated c =
    λ n.
    scalar_row _ _ _ (listed_type _ _ _ c.known_kind.ensures c.row_first.ensures
    c.row_count.ensures c.in-Enumerated.is)
    (kind_number c.known_kind.ensures c.in-Enumerated.is) (c.read_listed.ensures n)

pub returns-in-Single : goal.returns-in-Single
unfolding real_kind
returns-in-Single c =
    λ n.
    scalar_row _ _ _ (single_type _ _ _ c.known_kind.ensures c.in-Single.is)
    (kind_number c.known_kind.ensures c.in-Single.is) (c.read_real.ensures n)

pub returns-in-Double : goal.returns-in-Double
unfolding real_kind
returns-in-Double c =
    λ n.
    scalar_row _ _ _ (double_type _ _ _ c.known_kind.ensures c.in-Double.is)
    (kind_number c.known_kind.ensures c.in-Double.is) (c.read_real-in-Double.ensures n)

pub returns-in_default : goal.returns-in_default
returns-in_default c =
    λ n.
    let null = null_left _ (omega (arith, c.known_kind.ensures, c.requires.2)) c.in_default.not-Boolean c.in_default.not-Integer
    c.in_default.not-Enumerated c.in_default.not-Single c.in_default.not-Double in
    scalar_row _ _ _ (null_type _ _ _ c.known_kind.ensures null) (kind_number c.known_kind.ensures null)
    (null_goes _ c.requires.3 refl)
