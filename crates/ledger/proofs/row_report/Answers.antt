-- `row_report` meets its contract. Assumes nothing.
use native.Mathlib.Omega.{arith}
use mathlib.Core.List.{◌∷◌}
use mathlib.Core.Path.{refl, sym, ap, ◌∙◌}
use Rattle.ledger_model.specs.Counts.{place_report}
use Rattle.ledger_model.specs.Step.{Ask, RowReport, refusals, asked, after_refusal}
use Rattle.ledger_layout.proofs.Readers.{row-there, row-read-on}
use Rattle.ledger_counts.specs.inner.Counts.{report_words}
use Rattle.ledger_judged.proofs.Judged.{handed, refused-is, answered-is, fine-is}
use Rattle.ledger.proofs.row_report.Goals as goal

pub returns-in_err-row_verdict : goal.returns-in_err-row_verdict
unfolding after_refusal
returns-in_err-row_verdict c =
    let g = c.args in
    rw (handed c.from_residual.ensures)
    (refused-is (Ask (RowReport g.row)) g.s.now c.shared_slice_known-1.given (λ _. refl) _ c.in_err-row_verdict.ensures)

pub row_report-requires : goal.row_report-requires
unfolding refusals
row_report-requires c =
    let g = c.args in
    let fine = fine-is (Ask (RowReport g.row)) g.s.now c.in_ok-row_verdict.ensures in
    (fine.0.1, omega (arith, row-there _ _ fine.1.0))

pub returns : goal.returns
unfolding refusals asked report_words
returns c =
    let g = c.args in
    let fine = fine-is (Ask (RowReport g.row)) g.s.now c.in_ok-row_verdict.ensures in
    ap (λ w. (w, g.s.now)) (c.row_report.ensures ∙ ap (λ p. 0 ∷ place_report p) (sym (row-read-on g.s.now g.row fine.1.0)))
    ∙ answered-is (RowReport g.row) g.s.now c.shared_slice_known-1.given c.in_ok-row_verdict.ensures
