-- A node is told by its kind, then its number.
-- Assumes nothing.
use borrow.Author.Tests.{eq-eqb, ne_eqb}
use Rattle.writing.proofs.parts.is_node.Goals as goal

pub returns-then-node_kind-kind : goal.returns-then-node_kind-kind
returns-then-node_kind-kind c = rw (← c.node_kind.ensures, ← c.node_number.ensures, eq-eqb _ _ c.if-node_kind-kind.true)

pub returns-else-node_kind-kind : goal.returns-else-node_kind-kind
returns-else-node_kind-kind c = rw (← c.node_kind.ensures, ne_eqb _ _ c.if-node_kind-kind.false)
