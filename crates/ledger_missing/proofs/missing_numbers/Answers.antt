-- `missing_numbers` meets its contract. Assumes nothing.
use mathlib.Core.Path.{◌∙◌}
use Rattle.ledger_model.specs.Step.{Ask, RowReport, refusals}
use Rattle.ledger_judged.proofs.Judged.{handed, fine-is}
use Rattle.ledger_missing.proofs.Calls.{missing-refused, missing-accepted}
use Rattle.ledger_missing.proofs.missing_numbers.Goals as goal

pub row_verdict-requires : goal.row_verdict-requires
row_verdict-requires c = c.is_sheet.ensures

pub returns-in_err-row_verdict : goal.returns-in_err-row_verdict
returns-in_err-row_verdict c =
    let g = c.args in
    rw (handed c.from_residual.ensures) (missing-refused g.s.now g.row g.list.now _ c.in_err-row_verdict.ensures)

pub list_missing-requires : goal.list_missing-requires
unfolding refusals
list_missing-requires c =
    let g = c.args in
    let fine = fine-is (Ask (RowReport g.row)) g.s.now c.in_ok-row_verdict.ensures in
    (fine.0, fine.1.0)

pub returns : goal.returns
unfolding refusals
returns c =
    let g = c.args in
    let fine = fine-is (Ask (RowReport g.row)) g.s.now c.in_ok-row_verdict.ensures in
    c.list_missing.ensures ∙ missing-accepted g.s.now g.row g.list.now fine.0.0 fine.1.0
