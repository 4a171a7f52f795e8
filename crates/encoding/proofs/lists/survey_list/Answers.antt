-- The list is measured, walked with nothing lent, and its ends compared.
-- Assumes nothing.
use Rattle.octets.proofs.Refusing.{refuses}
use Rattle.encoding.proofs.Replying.{list_stop, list_odd, list_many, list_long_lem, list_fault, list_nodes_lem, list_contents, list_done}
use Rattle.encoding.proofs.lists.survey_list.Goals as goal

pub returns-then-nodes-ne0 : goal.returns-then-nodes-ne0
returns-then-nodes-ne0 c = list_stop _ _ _ _ (list_odd _ _ _ _ c.if-nodes-ne0.true) (refuses c.at.ensures c.in_part.ensures)

pub returns-then-count-gt4096 : goal.returns-then-count-gt4096
returns-then-count-gt4096 c = list_stop _ _ _ _ (list_many _ _ _ _ c.if-nodes-ne0.false c.if-count-gt4096.true) (refuses c.at-then-count-gt4096.ensures c.in_part-then-count-gt4096.ensures)

pub returns-then-long : goal.returns-then-long
returns-then-long c =
    list_stop _ _ _ _ (list_long_lem _ _ _ _ c.if-nodes-ne0.false c.if-count-gt4096.false c.if-long.true)
    (refuses c.at-then-long.ensures c.in_part-then-long.ensures)

pub returns-then-end-count : goal.returns-then-end-count
returns-then-end-count c =
    let g = c.write_component.ensures.went _ c.in-Ok.is in
    list_stop _ _ _ _ (list_nodes_lem _ _ _ _ c.if-nodes-ne0.false c.if-count-gt4096.false c.if-long.false _ g
    c.if-end-count.true) (refuses c.at-then-end-count.ensures c.in_part-then-end-count.ensures)

pub returns-then-left_over : goal.returns-then-left_over
returns-then-left_over c =
    let g = c.write_component.ensures.went _ c.in-Ok.is in
    list_stop _ _ _ _ (list_contents _ _ _ _ c.if-nodes-ne0.false c.if-count-gt4096.false c.if-long.false _ g c.if-end-count.false
    c.if-left_over.true) (refuses c.at-then-left_over.ensures c.in_part-then-left_over.ensures)

pub returns-in-Err : goal.returns-in-Err
returns-in-Err c =
    let e = c.write_component.ensures.stopped _ c.in-Err.is in
    list_stop _ _ _ _ (list_fault _ _ _ _ c.if-nodes-ne0.false c.if-count-gt4096.false c.if-long.false e) c.in_part-in-Err.ensures

pub returns-else-left_over : goal.returns-else-left_over
returns-else-left_over c =
    let g = c.write_component.ensures.went _ c.in-Ok.is in
    list_done _ _ _ _ c.if-nodes-ne0.false c.if-count-gt4096.false c.if-long.false _ g c.if-end-count.false c.if-left_over.false
