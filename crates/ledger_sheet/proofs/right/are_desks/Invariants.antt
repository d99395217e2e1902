-- `right::are_desks` meets its contract. The invariant: the bytes from `zeros` up to desk d are still to be tested for zero, and all before them are
-- tested. Assumes nothing.
use Prim.Native.Nat.{◌≤◌, ◌-◌}
use Rattle.ledger_sheet.specs.Sheet.{desk_count, desk_at}
use Rattle.ledger_sheet.proofs.Clauses.{DesksUpTo}
use Rattle.ledger_sheet.proofs.right.are_desks.Given as goal

abbrev pub invariant-loop-d : goal.invariant-loop-d
invariant-loop-d l = (l.d ≤ desk_count) × (l.zeros ≤ desk_at l.d) × DesksUpTo l.s l.right l.zeros l.d

abbrev pub decreases-loop-d : goal.decreases-loop-d
decreases-loop-d l = desk_count - l.d
