-- The rows that are judged grow fewer.
use Rattle.table.proofs.nestings.+judge_rows.Given as goal

abbrev pub decreases-judge_rows : goal.decreases-judge_rows
decreases-judge_rows l = l.n
