-- `read_keys` meets its contract. The invariant: the keys of the first rows are read. Assumes nothing.
use Prim.Native.Nat.{◌≤◌, ◌-◌}
use Rattle.ledger_sheet.specs.Sheet.{row_count}
use Rattle.ledger_season.proofs.Keys.{KeyedTo}
use Rattle.ledger_season.proofs.read_keys.Given as goal

abbrev pub invariant-loop-i : goal.invariant-loop-i
invariant-loop-i l = (l.i ≤ row_count) × KeyedTo l.s l.initial.keys l.found l.keys l.count l.i

abbrev pub decreases-loop-i : goal.decreases-loop-i
decreases-loop-i l = row_count - l.i
