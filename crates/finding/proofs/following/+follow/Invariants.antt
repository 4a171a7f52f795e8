-- A step leads into a smaller row.
use Rattle.finding.proofs.following.+follow.Given as goal

abbrev pub decreases-follow : goal.decreases-follow
decreases-follow l = l.component.row
