-- `bench::bench_report` meets its contract. Assumes nothing.
use mathlib.Core.Path.{ap, sym, ◌∙◌}
use borrow.Author.Tests.{ne_eqb}
use Rattle.refusals.proofs.Laws.{number-positive}
use Rattle.ledger_sheet.specs.Words.{report_answer_words}
use Rattle.bench.specs.inner.Digest.{counts}
use Rattle.bench.proofs.bench_report.Goals as goal

pub returns-in-Ok : goal.returns-in-Ok
returns-in-Ok c =
    c.reported.ensures ∙ ap (λ a. counts (report_answer_words a)) (sym c.in-Ok.is) ∙ ap (λ o. counts o.0) c.row_report.ensures

pub returns-in-Err : goal.returns-in-Err
returns-in-Err c =
    c.number.ensures ∙ sym (rw (ne_eqb _ _ (number-positive c.in-Err.why)))
    ∙ ap (λ a. counts (report_answer_words a)) (sym c.in-Err.is) ∙ ap (λ o. counts o.0) c.row_report.ensures
