-- `count_sheet` meets its contract. The invariant: the first rows are counted. Assumes nothing.
use Prim.Native.Nat.{◌≤◌, ◌-◌}
use Rattle.ledger_sheet.specs.Sheet.{row_count}
use Rattle.ledger_season.proofs.Rows.{CountedTo}
use Rattle.ledger_season.proofs.count_sheet.Given as goal

abbrev pub invariant-loop-row : goal.invariant-loop-row
invariant-loop-row l = (l.row ≤ row_count) × CountedTo l.s l.row l.sum

abbrev pub decreases-loop-row : goal.decreases-loop-row
decreases-loop-row l = row_count - l.row
