-- `old::is_open_desk` meets its contract. Assumes nothing.
use mathlib.Core.Bool.{and-false, and_assoc}
use Rattle.ledger_sheet.specs.Sheet.{desk_row_at}
use Rattle.ledger_convert.proofs.Clauses.{open-desk}
use Prim.Native.Nat.{◌+◌}
use native.Mathlib.Omega.{arith}
use borrow.Author.Tests.{lt-ltb, le-ltb}
use Rattle.ledger_convert.proofs.old.is_open_desk.Goals as goal

pub overflow_cast-row : goal.overflow_cast-row
overflow_cast-row c = omega (arith, c.shared_slice_known-2-1.given (c.desk_at-a.result + desk_row_at))

pub returns-then-row-rows_used : goal.returns-then-row-rows_used
returns-then-row-rows_used c =
    let unused = le-ltb _ _ (rw c.rows_used.ensures at c.if-row-rows_used.true) in
    rw (← open-desk _ _ c.requires.not_closed.1, ← c.desk_at-a.ensures, unused, and-false)

pub returns : goal.returns
returns c =
    rw (
      ← open-desk _ _ c.requires.not_closed.1,
      ← c.desk_at-a.ensures,
      lt-ltb _ _ (rw c.rows_used.ensures at c.if-row-rows_used.false),
      ← c.is_zero-zeros.ensures,
      ← c.row_at-from.ensures,
      ← c.is_same-opened.ensures,
      ← c.is_same-worked.ensures,
      ← and_assoc,
    )
