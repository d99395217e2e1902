-- `add_row` meets its contract. Assumes nothing.
use native.Mathlib.Omega.{arith}
use mathlib.Core.Bool.{true}
use mathlib.Core.Path.{◌≡◌}
use Rattle.laws.proofs.Bools.{failed, passed}
use Rattle.ledger_sheet.specs.Sheet.{is_used}
use Rattle.ledger_sheet.specs.Words.{gaps_values}
use Rattle.ledger_season.proofs.Rows.{first_in, Gaps, whole_says, gaps-say, free-adds, whole-adds, gaps-add, gaps-few, ticks-few}
use Rattle.ledger_season.proofs.add_row.Goals as goal
use Rattle.ledger_season.proofs.add_row.Goals.{In-Some, After-row_report-report}

pub returns-then-not-is_used : goal.returns-then-not-is_used
returns-then-not-is_used c =
    let g = c.args in
    free-adds g.s.now g.row g.sum (failed c.is_used.ensures c.if-not-is_used.true-raw)

pub overflow_add-ticked : goal.overflow_add-ticked
overflow_add-ticked c =
    omega (arith, ticks-few c.args.s.now c.args.row _ (gaps_values c.row_report-report.result.gaps) c.row_report-report.ensures)

-- A row that is reported on is used.
used : (c : After-row_report-report) → let g = c.args in is_used g.s.now g.row ≡ true
used c = passed c.is_used.ensures c.if-not-is_used.false-raw

pub returns-in-None : goal.returns-in-None
returns-in-None c = whole-adds _ _ _ _ (used (goal.at.returns-in-None c).After-row_report-report) (whole_says _ _ _ (rw c.in-None.is at c.row_report-report.ensures))

-- Where the report is of a row with gaps: what it says.
gaps : (c : In-Some) → let g = c.args in
    Gaps g.s.now g.row c.row_report-report.result.ticked c.in-Some.gaps.missing c.in-Some.gaps.lowest
gaps c = gaps-say _ _ _ _ _ (rw c.in-Some.is at c.row_report-report.ensures)

pub overflow_add-result : goal.overflow_add-result
overflow_add-result c = omega (arith, gaps-few _ _ _ _ _ (gaps (goal.at.overflow_add-result c).In-Some))

pub returns-in-Some : goal.returns-in-Some
returns-in-Some c = gaps-add _ _ _ _ _ _ _ (used (goal.at.returns-in-Some c).After-row_report-report)
    (gaps (goal.at.returns-in-Some c).In-Some) (λ further. rw c.«or».ensures (first_in _ _ further))
