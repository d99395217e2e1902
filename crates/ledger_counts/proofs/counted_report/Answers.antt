-- `ledger_counts::counted_report` meets its contract. Assumes nothing.
use Prim.Native.Nat.{◌≤◌}
use native.Mathlib.Omega.{arith}
use Rattle.ledger_model.specs.Positions.{row_length}
use Rattle.std.proofs.Common.{◌≡◌, sym, ◌∙◌, ℕ, List}
use Rattle.ledger_layout.proofs.Scans.{below-is, below-not}
use Rattle.ledger_layout.specs.Ticks.{ticked_at}
use Rattle.ledger_counts.specs.inner.Counts.{past_highest}
use Rattle.ledger_counts.proofs.Reports.{end-within, row_count_lem, report-none, report-whole, report-gaps}
use Rattle.ledger_counts.proofs.counted_report.Goals as goal

pub returns-then-end-eq0 : goal.returns-then-end-eq0
returns-then-end-eq0 c = report-none _ _ (rw c.ticks_end-end.ensures at c.if-end-eq0.true)

-- The end lies within the row.
within : (s : List ℕ) (a : ℕ) {n : ℕ} → n ≡ past_highest row_length (ticked_at s a) → n ≤ row_length
within s a e = rw e (end-within _ _)

pub lowest_unticked-requires : goal.lowest_unticked-requires
lowest_unticked-requires c = (omega arith, within _ _ c.ticks_end-end.ensures)

pub overflow_cast-result : goal.overflow_cast-result
overflow_cast-result c = omega (arith, within _ _ c.ticks_end-end.ensures)

pub returns-in_default : goal.returns-in_default
returns-in_default c =
    let end = c.ticks_end-end.ensures in
    let none = below-not _ _ (sym c.lowest_unticked.ensures ∙ c.in_default.is) in
    rw end (report-whole _ _ (rw end at none))

pub overflow_cast-gaps : goal.overflow_cast-gaps
overflow_cast-gaps c = omega (arith, within _ _ c.ticks_end-end.ensures)

pub overflow_sub-gaps : goal.overflow_sub-gaps
overflow_sub-gaps c =
    let g = c.args in
    omega (arith, row_count_lem g.s.now g.a, c.ticks_end-end.ensures, c.ticked_count-ticked.ensures)

pub number_in-requires : goal.number_in-requires
number_in-requires c =
    let at = below-is _ _ (sym c.lowest_unticked.ensures ∙ c.in-Some.is) in
    omega (arith, at.1, within _ _ c.ticks_end-end.ensures)

pub returns : goal.returns
returns c =
    let end = c.ticks_end-end.ensures in
    let at = below-is _ _ (sym c.lowest_unticked.ensures ∙ c.in-Some.is) in
    let is = rw end at at.0 in
    rw (c.ticked_count-ticked.ensures, end, c.number_in.ensures, is) (report-gaps _ _ (rw (end, is) at at.1))
