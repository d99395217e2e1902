-- `old::is_rest` meets its contract. The invariant: the bytes from `zeros` up to desk d are still to be tested for zero, and all before them are tested.
-- Assumes nothing.
use Prim.Native.Nat.{◌≤◌, ◌-◌}
use Rattle.ledger_sheet.specs.Sheet.{desk_count}
use Rattle.ledger_convert.specs.Old.{desk_at}
use Rattle.ledger_convert.proofs.Clauses.{Judged}
use Rattle.ledger_convert.proofs.old.is_rest.Given as goal

abbrev pub invariant-loop-d : goal.invariant-loop-d
invariant-loop-d l = (l.d ≤ desk_count) × (l.zeros ≤ desk_at l.d) × Judged l.s l.right l.zeros l.d

abbrev pub decreases-loop-d : goal.decreases-loop-d
decreases-loop-d l = desk_count - l.d
