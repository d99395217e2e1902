-- `ledger_counts::row_report` meets its contract. Assumes nothing.
use native.Mathlib.Omega.{arith}
use Rattle.ledger_counts.proofs.Starts.{report-start, report-full}
use Rattle.ledger_counts.proofs.row_report.Goals as goal

pub returns-in_default : goal.returns-in_default
returns-in_default c =
    rw (← c.row_at-a.ensures) c.counted_report.ensures

pub returns-then-start-eq0 : goal.returns-then-start-eq0
returns-then-start-eq0 c =
    let s = c.args.s.now in
    let none = c.if-start-eq0.true in
    let full = report-full s c.row_at-a.result (rw none at (c.in-Some.ensures.1)) in
    rw (none, ← c.row_at-a.ensures) full

pub returns : goal.returns
returns c =
    let s = c.args.s.now in
    let start = c.in-Some.start in
    let starts = c.in-Some.ensures.1 in
    let within = c.in-Some.ensures.0 in
    let report = report-start s c.row_at-a.result start starts (omega arith) (omega arith) in
    rw (c.number_in.ensures, ← c.row_at-a.ensures) report
