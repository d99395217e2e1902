-- `rows::write_row` meets its contract. Assumes nothing.
use native.Mathlib.Omega.{arith}
use Rattle.ledger_changes.proofs.Written.{row_written}
use Rattle.ledger_changes.proofs.rows.write_row.Goals as goal

pub returns : goal.returns
returns c =
    row_written _ _ _ _ _ (omega arith) (omega arith) c.write_be.ensures c.write_be-2.ensures c.write_be-3.ensures
    c.copy_in.ensures
