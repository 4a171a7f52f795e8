-- A run lies inside the message, so that its end has a place. Assumes nothing.
use Rattle.std.proofs.Common.{arith}
use Rattle.leaf_bench.proofs.length_at.Goals as goal

pub overflow_add-result : goal.overflow_add-result
overflow_add-result c = omega (arith, (c.read_run.ensures.went _ c.in_ok-run.was).inside)
