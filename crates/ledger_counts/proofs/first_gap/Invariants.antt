-- `ledger_counts::first_gap` meets its contract. The invariants: the first gap is that of the rows from `row` on; of that row the
-- positions of the first k blocks are ticked. Assumes nothing.
use Prim.Native.Nat.{◌*◌, ◌-◌, ◌≤◌}
use mathlib.Core.Path.{◌≡◌}
use Rattle.std.specs.Prelude.{None}
use Rattle.ledger_sheet.specs.Sheet.{row_count}
use Rattle.ledger_counts.specs.inner.Blocks.{block_bits, block_count, TickedFrom}
use Rattle.ledger_counts.proofs.Reports.{gap_from}
use Rattle.ledger_counts.proofs.first_gap.Given as goal

abbrev pub invariant-loop-k : goal.invariant-loop-k
invariant-loop-k l = (l.k ≤ block_count) × (l.gap ≡ None) × TickedFrom l.s l.a 0 (block_bits * l.k)

abbrev pub decreases-loop-k : goal.decreases-loop-k
decreases-loop-k l = block_count - l.k

abbrev pub invariant-rows : goal.invariant-rows
invariant-rows l = (l.row ≤ row_count) × (l.gap ≡ None) × (gap_from l.s 0 row_count ≡ gap_from l.s l.row (row_count - l.row))

abbrev pub decreases-rows : goal.decreases-rows
decreases-rows l = row_count - l.row
