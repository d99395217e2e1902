-- `write_desks` meets its contract. The invariant: the first d desks are laid out. Assumes nothing.
use Prim.Native.Nat.{◌≤◌, ◌-◌}
use Rattle.ledger_sheet.specs.Sheet.{row_count, desk_count}
use Rattle.ledger_convert.specs.inner.Laid.{Laid}
use Rattle.ledger_convert.proofs.write_desks.Given as goal

abbrev pub invariant-loop-d : goal.invariant-loop-d
invariant-loop-d l = (l.d ≤ desk_count) × Laid l.old l.new row_count l.d

abbrev pub decreases-loop-d : goal.decreases-loop-d
decreases-loop-d l = desk_count - l.d
