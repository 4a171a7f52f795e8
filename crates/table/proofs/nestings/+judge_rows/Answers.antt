-- The first n rows are judged, n falling: those before the last one, and then, if they are sound, the last one.
use Rattle.std.proofs.Common.{◌≡◌, ◌-◌, [], arith, rules}
use Rattle.x696.specs.TableFault.{rows_fault, bad_row}
use Rattle.table.proofs.Judging.{row_out, row_in, judged_none, bad_before, bad_last, judged_more}
use Rattle.table.proofs.nestings.+judge_rows.Goals as goal

pub returns-then-n-eq0-clause-ok : goal.returns-then-n-eq0-clause-ok
returns-then-n-eq0-clause-ok t c = judged_none _ _ _ c.requires.2 c.if-n-eq0.true

pub returns-in_err-judge_rows-clause-err : goal.returns-in_err-judge_rows-clause-err
returns-in_err-judge_rows-clause-err t c =
    let bad : rows_fault c.args.rows.now c.args.items.now 0 c.args.n [] ≡ bad_row c.in_err-judge_rows.field-0.0 =
    bad_before _ _ _ (omega arith) c.in_err-judge_rows.ensures.err in
    search rules

pub returns-in_err-nestings-clause-err : goal.returns-in_err-nestings-clause-err
returns-in_err-nestings-clause-err t c =
    let out = row_out _ _ _ _ c.judge_row.ensures c.in_err-nestings.ensures.ok_part in
    let none = rw c.in_err-nestings.ensures.ok_part at c.in_err-nestings.ensures.value in
    let row : c.in_err-nestings.field-0.0 ≡ c.args.n - 1 = cc in
    let bad : rows_fault c.args.rows.now c.args.items.now 0 c.args.n [] ≡ bad_row c.in_err-nestings.field-0.0 =
    rw row (bad_last _ _ (c.args.n - 1) (omega arith) c.in_ok-judge_rows.ensures.ok out) in
    search rules

pub returns-clause-ok : goal.returns-clause-ok
returns-clause-ok t c =
    judged_more _ _ (c.args.n - 1) (omega arith) c.in_ok-judge_rows.ensures.ok (omega (arith, c.requires.1))
    (row_in _ _ _ _ c.judge_row.ensures c.in_ok-nestings.ensures.ok_part)
