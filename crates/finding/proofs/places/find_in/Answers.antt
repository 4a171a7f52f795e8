-- The refusal of the table or the row, or the message's own answer.
-- Assumes nothing.
use Rattle.std.proofs.lemmas.Result.{err_from_is_err_and}
use Rattle.finding.proofs.PlaceLaws.{place_refused, asked_stop, asked_place}
use Rattle.finding.proofs.places.find_in.Goals as goal

pub returns-in_err-table : goal.returns-in_err-table
returns-in_err-table c =
    let p = err_from_is_err_and c.from_residual.result c.from_residual.ensures.1 in
    rw (p.1, p.2) (place_refused (asked_stop _ _ _ _ _ (c.asked_table.ensures.stopped _ c.in_err-table.was)))

pub find_below-requires : goal.find_below-requires
find_below-requires c =
    let ready = c.asked_table.ensures.ready _ c.in_ok-table.was in
    rw ready.0 ready.3

pub returns : goal.returns
returns c =
    let ready = c.asked_table.ensures.ready _ c.in_ok-table.was in
    asked_place _ _ _ _ _ ready.4 (rw (ready.0, ready.1) at c.find_below.ensures)
