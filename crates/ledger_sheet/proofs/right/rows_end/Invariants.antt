-- `right::rows_end` meets its contract. The invariant: the array has the keys of the used rows among the first i, and `right` says whether these rows
-- are right. Assumes nothing.
use Prim.Native.Nat.{◌≤◌, ◌-◌}
use mathlib.Core.Path.{◌≡◌}
use Rattle.ledger_sheet.specs.Sheet.{row_count, row_at}
use Rattle.ledger_sheet.proofs.RowsRead.{RowsRead}
use Rattle.ledger_sheet.proofs.right.rows_end.Given as goal

abbrev pub invariant-loop-i : goal.invariant-loop-i
invariant-loop-i l = (l.i ≤ row_count) × RowsRead l.s l.keys l.marks l.found l.right l.i × (l.zeros ≡ row_at l.i)

abbrev pub decreases-loop-i : goal.decreases-loop-i
decreases-loop-i l = row_count - l.i
