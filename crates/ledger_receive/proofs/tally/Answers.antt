-- `ledger_receive::tally` meets its contract. Assumes nothing.
use native.Mathlib.Omega.{arith}
use borrow.Author.Tests.{ne_eqb}
use Rattle.refusals.proofs.Laws.{number-positive}
use Rattle.ledger_receive.proofs.tally.Goals as goal

pub returns-in-Ok : goal.returns-in-Ok
returns-in-Ok c = rw c.in-Ok.is

pub returns-in-Err : goal.returns-in-Err
returns-in-Err c = rw (c.in-Err.is, ne_eqb _ _ (number-positive c.in-Err.field-0)) (omega arith)
